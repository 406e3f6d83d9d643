use Rattle.std.proofs.Common.{◌≤◌, ℕ, arith, sym, subst}
use Rattle.board.specs.Promises.{CountsPassed}
use Rattle.board.specs.Shown.{Shown}
use Rattle.driver.specs.Tallies.{IsTally}
use Rattle.execution.proofs.Tellings.{tells_then}
use Rattle.execution.proofs.single.work_now.Goals as goal

pub returns-clause-tells : goal.returns-clause-tells
returns-clause-tells g c =
    tells_then g.W.Write.contents c.args.watch.now.watcher c.work_and_tell.new.watch.watcher c.tell_rise.new.self.watcher c.args.watch.now.told c.work_and_tell.new.watch.told c.tell_rise.new.self.told
    c.work_and_tell.ensures.tells c.tell_rise.ensures.tells

pub returns-clause-counts : goal.returns-clause-counts
returns-clause-counts g c s is =
    subst (λ (z : Shown). IsTally s z c.work_and_tell.new.tally) (sym c.passed_count.ensures.shown) (c.work_and_tell.ensures.counts s is)

pub returns-clause-most : goal.returns-clause-most
returns-clause-most g c n counts =
    let most : c.passed_count.result ≤ n = c.passed_count.ensures.most n (subst (λ (z : Shown). CountsPassed z n) c.passed_count.ensures.shown counts) in
    let told = c.tell_rise.ensures.told in
    let known = c.requires.told in
    let before = c.work_and_tell.ensures.passed in
    let rises = c.work_and_tell.ensures.rises in
    let more = c.passed_count.ensures.rises in
    omega (arith, most, told, known, before, rises, more)
