use Rattle.std.proofs.Common.{◌<◌, length, sym, ◌∙◌, subst}
use Rattle.graph.specs.Shown.{GraphValue, shown_graph}
use Rattle.board.specs.Shown.{Shown}
use Rattle.board.proofs.Ended.{open_tells, there}
use Rattle.board.proofs.board.Board.feed_refusal.Goals as goal

pub arity-requires-2 : goal.arity-requires-2
arity-requires-2 g c =
    let s : Shown = c.self.inside.state in
    let takes = open_tells s c.args.input (sym c.input_refusal.ensures ∙ c.in_default.is) in
    let l = (there (g.V.Views.graph c.self.inside.views) (g.V.Views.content c.self.inside.views) s c.self.invariant.kept c.args.input takes).0 in
    let P : GraphValue → Type 0 = λ z. c.args.input < length (shown_graph z) in
    subst P (sym c.graph.ensures) l
