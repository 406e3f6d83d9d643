use Rattle.std.proofs.Common.{ap, subst}
use Rattle.events.specs.Jobs.{Pass}
use Rattle.events.specs.TooMany.{CountsFit, CountsOver}
use Rattle.board.specs.Answers.{Holds}
use Rattle.board.specs.Lateness.{BoardShown}
use Rattle.board.specs.Overflow.{DoesOverflow, NeverOverflows}
use Rattle.board.specs.Shown.{Shown}
use Rattle.board.proofs.Overflowing.{never_overflows, out_within, overflows}
use Rattle.board.proofs.board.Board.law_counts.Goals as goal

pub returns-clause-over : goal.returns-clause-over
returns-clause-over g c =
    let P : Shown → Type 0 = λ s. (p : Pass) → Holds s p → CountsOver p.job → DoesOverflow s p in
    let s = c.self.inside.state in
    subst P (ap (λ (b : BoardShown). b.shown) c.self.view_is) (λ p holds over w is.
    overflows (g.V.Views.graph c.self.inside.views) (g.V.Views.content c.self.inside.views) s c.self.invariant.kept w is p.worker (out_within s.sides p.worker p.job holds) p.job holds over)

pub returns-clause-fits : goal.returns-clause-fits
returns-clause-fits g c =
    let P : Shown → Type 0 = λ s. (p : Pass) → Holds s p → CountsFit p.job → NeverOverflows s p in
    let s = c.self.inside.state in
    subst P (ap (λ (b : BoardShown). b.shown) c.self.view_is) (λ p holds fit w is over.
    never_overflows (g.V.Views.graph c.self.inside.views) (g.V.Views.content c.self.inside.views) s c.self.invariant.kept w is p.worker (out_within s.sides p.worker p.job holds) p.job holds fit over)
