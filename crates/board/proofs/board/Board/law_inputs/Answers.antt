use Rattle.std.proofs.Common.{ap, ◌≡◌, length, subst}
use Rattle.semantics.specs.Graph.{input_count}
use Rattle.graph.specs.Shown.{shown_graph}
use Rattle.board.specs.Shown.{Shown}
use Rattle.board.specs.Lateness.{BoardShown}
use Rattle.board.proofs.board.Board.law_inputs.Goals as goal

pub returns : goal.returns
returns g c =
    let P : Shown → Type 0 = λ z. length z.inputs ≡ input_count (shown_graph z.graph) in
    subst P (ap (λ (b : BoardShown). b.shown) c.self.view_is) c.self.invariant.kept.inputs
