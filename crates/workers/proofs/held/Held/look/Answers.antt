use Rattle.std.proofs.Common.{◌<◌, ◌∙◌, ℕ, ap, length, subst, sym, arith}
use Rattle.semantics.specs.Graph.{output_numbers}
use Rattle.graph.specs.Shown.{GraphValue, shown_graph}
use Rattle.board.specs.Looks.{ShowsPassed}
use Rattle.board.specs.Promises.{CountsPassed, IsOutputPlace}
use Rattle.workers.specs.Held.{HeldShown}
use Rattle.workers.proofs.held.Held.look.Goals as goal

pub returns-clause-passed : goal.returns-clause-passed
returns-clause-passed g c =
    let P : HeldShown → Type 0 = λ h. (n : ℕ) → CountsPassed h.board.shown n → c.args.epoch < n → ShowsPassed c.in_ok-look.look in
    let shows = c.in_ok-look.ensures.outputs in
    subst P c.self.view_is (λ n counts lt k there.
    let place : IsOutputPlace c.self.inside.board.shown k = (let many = shows.places in omega (arith, there, many)) in
    (shows.each k place).seen c.self.invariant.0.prompt (c.law_count.ensures.below n counts c.args.epoch lt k place))

pub returns-clause-whole : goal.returns-clause-whole
returns-clause-whole g c =
    let look = c.in_ok-look.ensures in
    (look.epoch, look.outputs.places ∙ ap (λ (x : GraphValue). length (output_numbers (shown_graph x))) (sym look.graph))
