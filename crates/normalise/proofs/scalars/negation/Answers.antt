use Rattle.std.proofs.Common.{rules, FitsSigned}
use Rattle.std.specs.Int.{w64}
use Rattle.std.proofs.lemmas.Int.{to_z-of_z}
use Rattle.normalise.proofs.Folding.{folded_literal, folded_negation}
use Rattle.normalise.proofs.scalars.negation.Goals as goal

pub returns-in-Some : goal.returns-in-Some
returns-in-Some g c n =
    let fits : FitsSigned w64 c.negated.result = search rules in
    let inner : FitsSigned w64 c.in-Some.x = search rules in
    rw (to_z-of_z w64 c.negated.result fits, ← c.deref.ensures)
    (folded_literal _ c.in-Some.x c.negated.result c.in-Some.ensures (λ r. rw (to_z-of_z w64 c.in-Some.x inner) at (c.negated.ensures r)))

pub returns-in-None : goal.returns-in-None
returns-in-None g c n = folded_negation _ (rw c.deref.ensures at c.in-None.ensures) n
