-- A well-typed program's loops are not too deep.
use Rattle.std.proofs.Common.{ℕ, List, [], ◌∷◌}
use Rattle.semantics.specs.Query.{Name, Let, Output, Program}
use Rattle.semantics.specs.Typing.{WellTyped}
use Rattle.semantics.proofs.FittingPrograms.{AllFit, LetsFit}
use Rattle.semantics.proofs.TypedPrograms.{typed_fits}
use Rattle.lowering.specs.Steps.{AreNested, IsNested, OutputsNested}

lets_nested : (xs : List Name) (ls : List Let) → LetsFit xs ls → AreNested ls
lets_nested xs [] t = tt
lets_nested xs (l ∷ ls) t = (t.0.nested, lets_nested (l.name ∷ xs) ls t.1)

outputs_nested : (xs : List Name) (os : List Output) → AllFit xs os → OutputsNested os
outputs_nested xs [] t = tt
outputs_nested xs (o ∷ os) t = (t.0.nested, outputs_nested xs os t.1)

pub typed_nested : (p : Program) (ns : List ℕ) → WellTyped p ns → IsNested p
typed_nested p ns w = (lets_nested _ p.lets (typed_fits p ns w).lets, outputs_nested _ p.outputs (typed_fits p ns w).outputs)
