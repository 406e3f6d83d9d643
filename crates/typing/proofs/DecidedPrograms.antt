-- Each program is well typed or has a first fault, not both, and neither in two ways.
use Rattle.std.proofs.Common.{◌≡◌, ℕ, List, [], ◌∷◌, ap, Result, Ok, Err, ◌⊎◌, inl, inr, refl, sym, ◌∙◌}
use Rattle.std.proofs.Math.Logic.{∥∥₁_elim}
use Rattle.std.proofs.Math.Nat.{ℕ_set}
use mathlib.Core.List.{is_set}
use Rattle.expr_tree.specs.Trees.{ProgramTree}
use Rattle.expr_tree.specs.Plain.{plain_program}
use Rattle.semantics.specs.Typing.{WellTyped}
use Rattle.record_core.specs.declared.span.Refusal.{Refusal}
use Rattle.record_core.specs.declared.span.Refusal.TheVariants.{At, NoMemory}
use Rattle.typing.specs.Fault.{Fault, fault}
use Rattle.typing.specs.FirstFault.{FirstFault, HasFirstFault}
use Rattle.typing.specs.Verdict.{program_verdict, Says}
use Rattle.typing.proofs.Programs.{program_typed_checked, program_checked_typed, program_fault_checked, program_checked_fault}

pub decided : (p : ProgramTree) → ((ns : List ℕ) × WellTyped (plain_program p) ns) ⊎ ((f : Fault) × FirstFault p f)
decided p = go (program_verdict p) refl
  where
    go : (v : Result (List ℕ) Fault) → program_verdict p ≡ v → ((ns : List ℕ) × WellTyped (plain_program p) ns) ⊎ ((f : Fault) × FirstFault p f)
    go (Ok ns) e = inl (ns, program_checked_typed p ns e)
    go (Err f) e = inr (f, program_checked_fault p f e)

pub apart : (p : ProgramTree) (ns : List ℕ) (f : Fault) → WellTyped (plain_program p) ns → FirstFault p f → ⊥
apart p ns f h k = let a = sym (program_typed_checked p ns h) ∙ program_fault_checked k in cc

pub one_fault : (p : ProgramTree) (f g : Fault) → FirstFault p f → FirstFault p g → f ≡ g
one_fault p f g h k = let a = sym (program_fault_checked h) ∙ program_fault_checked k in cc

pub same_arities : (p : ProgramTree) (ms ns : List ℕ) → WellTyped (plain_program p) ms → WellTyped (plain_program p) ns → ms ≡ ns
same_arities p ms ns h k = let a = sym (program_typed_checked p ms h) ∙ program_typed_checked p ns k in cc

-- the checks refuse the program as they say
pub says_first_fault : (p : ProgramTree) (e : Refusal) → Says e (program_verdict p) → HasFirstFault p e
says_first_fault p (At c s) h = program_checked_fault p (fault c s) h
says_first_fault p NoMemory h = tt

-- an outcome as a list: empty for a fault
outcome : Result (List ℕ) Fault → List ℕ
outcome (Ok ns) = 0 ∷ ns
outcome (Err f) = []

outcome_ok : (v : Result (List ℕ) Fault) (ns : List ℕ) → outcome v ≡ 0 ∷ ns → v ≡ Ok ns
unfolding outcome
outcome_ok (Ok ms) ns e = cc
outcome_ok (Err f) ns e = absurd (cc)

outcome_of : (v : Result (List ℕ) Fault) (ns : List ℕ) → v ≡ Ok ns → outcome v ≡ 0 ∷ ns
unfolding outcome
outcome_of v ns e = ap outcome e

-- what is known to be well typed is so by the checks
pub well_typed : (p : ProgramTree) (ns : List ℕ) → ∥ WellTyped (plain_program p) ns ∥₁ → WellTyped (plain_program p) ns
well_typed p ns h =
    program_checked_typed p ns
    (outcome_ok (program_verdict p) ns
    (∥∥₁_elim h (is_set ℕ_set (outcome (program_verdict p)) (0 ∷ ns)) (λ k. outcome_of (program_verdict p) ns (program_typed_checked p ns k))))
