use Rattle.std.proofs.Common.{◌<◌, ℕ, arith}
use Rattle.std.proofs.lemmas.Result.{IfOk-weaker}
use Rattle.board.specs.Looks.{LookShown, ShowsPassed}
use Rattle.board.specs.Promises.{CountsPassed}
use Rattle.workers.proofs.shared.Shared.look.Goals as goal

pub returns-clause-passed : goal.returns-clause-passed
returns-clause-passed g c =
    let P : LookShown → Type 0 = λ l. (n : ℕ) → CountsPassed c.observe-passed.new.self.board.shown n → c.args.epoch < n → ShowsPassed l in
    let Q : LookShown → Type 0 = λ l. c.args.epoch < c.observe-passed.new.seat.number → ShowsPassed l in
    IfOk-weaker c.look.result P Q (λ l shows lt. shows c.observe-passed.result c.observe-passed.ensures.counts (omega (arith, lt, c.observe-passed.ensures.read.1))) c.look.ensures.passed
