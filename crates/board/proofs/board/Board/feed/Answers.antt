use Rattle.std.proofs.Common.{ap, ◌≡◌, ◌<◌, ℕ, None, length, sym, ◌∙◌, subst}
use Rattle.semantics.specs.Graph.{vertex}
use Rattle.semantics.specs.Kinds.{Kind}
use Rattle.events.specs.Wired.{Wired, graph_in}
use Rattle.board.specs.Answers.{feed_refusal}
use Rattle.board.specs.Shown.{Shown}
use Rattle.board.proofs.Ended.{feed_tells, open_tells, there}
use Rattle.board.specs.Lateness.{BoardShown}
use Rattle.board.proofs.board.Board.feed.Goals as goal

pub of-requires-clause-there : goal.of-requires-clause-there
of-requires-clause-there g c =
    let s : Shown = c.self.inside.state in
    let i : ℕ = c.args.input in
    let none : feed_refusal s i c.args.batch ≡ None = subst (λ (z : Shown). feed_refusal z i c.args.batch ≡ None) (sym (ap (λ (b : BoardShown). b.shown) c.self.view_is)) (sym c.feed_refusal.ensures ∙ c.in_default.is) in
    let takes = open_tells s i (feed_tells s i c.args.batch none).0 in
    subst (λ (w : Wired). i < length (graph_in w)) (sym c.wiring.ensures) (there (g.V.Views.graph c.self.inside.views) (g.V.Views.content c.self.inside.views) s c.self.invariant.kept i takes).0

pub of-requires-clause-input : goal.of-requires-clause-input
of-requires-clause-input g c =
    let s : Shown = c.self.inside.state in
    let i : ℕ = c.args.input in
    let none : feed_refusal s i c.args.batch ≡ None = subst (λ (z : Shown). feed_refusal z i c.args.batch ≡ None) (sym (ap (λ (b : BoardShown). b.shown) c.self.view_is)) (sym c.feed_refusal.ensures ∙ c.in_default.is) in
    let takes = open_tells s i (feed_tells s i c.args.batch none).0 in
    let is = (there (g.V.Views.graph c.self.inside.views) (g.V.Views.content c.self.inside.views) s c.self.invariant.kept i takes).1 in
    subst (λ (w : Wired). (vertex (graph_in w) i).kind ≡ Kind.input) (sym c.wiring.ensures) is
