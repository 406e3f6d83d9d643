-- Names that are reached, and the lets that are kept.
use Rattle.std.specs.Prelude.{◌⊎◌, ◌↔◌, ℕ, Bool, IsTrue, List}
use Rattle.semantics.specs.Multiset.{IsAmong}
use Rattle.semantics.specs.Query.{Name, Let, Output}
use Rattle.semantics.specs.Typing.{Scope, RestFits}
use Rattle.semantics.specs.Rewriting.{Steps, LetsStep}
use Rattle.semantics.specs.Normal.{Reaches, AllReached}
use Rattle.normalise.specs.Rewritten.{Reduced}
use Rattle.std.specs.List.{AllByRecursion}

-- a set of names after some were added
pub record Adds (added : List Name) (after before : Name → Bool) : Type 0 where
  pub has : (y : Name) → IsTrue (after y) ↔ (IsTrue (before y) ⊎ IsAmong y added)

-- the names of the set are those that are reached
pub record Finds (set : Name → Bool) (later : List Let) (outs : List Output) : Type 0 where
  pub has : (y : Name) → IsTrue (set y) ↔ Reaches y later outs

-- lets reached by steps before the same outputs, in whatever scope the first are well typed
pub record LetsReached (after before : List Let) (outs : List Output) : Type 0 where
  pub steps : (scope : Scope) (ns : List ℕ) → RestFits scope before outs ns → Steps (LetsStep outs) before after

-- lets in place of others before the same outputs, each of them reached, to none of which a rule applies
pub record IsReachedOf (after before : List Let) (outs : List Output) : Type 0 where
  pub steps : LetsReached after before outs
  pub reduced : AllByRecursion (λ (a : Let). Reduced a.value) after
  pub reached : AllReached after outs
