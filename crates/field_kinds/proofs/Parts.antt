-- Answers put together of answers for parts.
use Rattle.std.proofs.Common.{◌≡◌, List, [], ◌∷◌, ◌++◌, Option, None, Some, Err, refl, ap, ◌∙◌, subst}
use Rattle.std.specs.Prelude.{option_map}
use Rattle.std.proofs.lemmas.Option.{same_Some}
use Rattle.record_core.specs.declared.span.Refusal.{Refusal}
use Rattle.record_core.specs.declared.span.Refusal.TheVariants.{At, NoMemory}
use Rattle.kinds.specs.Relations.{all_of}
use Rattle.field_kinds.specs.Found.{Adds, Finds}

-- one more
all_of_one : {X : Type 0} (x : X) (r : Option (List X)) (zs : List X) → r ≡ Some zs → option_map (λ ys. x ∷ ys) r ≡ Some (x ∷ zs)
all_of_one x r zs e = ap (option_map (λ ys. x ∷ ys)) e

-- all of both lists
pub all_of_both : {X : Type 0} (os ps : List (Option X)) (xs ys : List X) → all_of os ≡ Some xs → all_of ps ≡ Some ys → all_of (os ++ ps) ≡ Some (xs ++ ys)
all_of_both [] ps xs ys e f = subst (λ zs. all_of ps ≡ Some (zs ++ ys)) (same_Some [] xs e) f
all_of_both (None ∷ os) ps xs ys e f = absurd (cc)
all_of_both (Some x ∷ os) ps xs ys e f = go (all_of os) refl e (λ zs h. all_of_both os ps zs ys h f)
  where
    go : (r : Option (List _)) → all_of os ≡ r → option_map (λ zs. x ∷ zs) r ≡ Some xs → ((zs : List _) → all_of os ≡ Some zs → all_of (os ++ ps) ≡ Some (zs ++ ys)) → option_map (λ zs. x ∷ zs) (all_of (os ++ ps)) ≡ Some (xs ++ ys)
    go None h k ih = absurd (cc)
    go (Some zs) h k ih = all_of_one x (all_of (os ++ ps)) (zs ++ ys) (ih zs h) ∙ ap (λ l. Some (l ++ ys)) (same_Some (x ∷ zs) xs k)

-- none of the first list is none of both
pub none_of_first : {X : Type 0} (os ps : List (Option X)) → all_of os ≡ None → all_of (os ++ ps) ≡ None
none_of_first [] ps e = absurd (cc)
none_of_first (None ∷ os) ps e = refl
none_of_first (Some x ∷ os) ps e = go (all_of os) refl e (none_of_first os ps)
  where
    go : (r : Option (List _)) → all_of os ≡ r → option_map (λ zs. x ∷ zs) r ≡ None → (all_of os ≡ None → all_of (os ++ ps) ≡ None) → option_map (λ zs. x ∷ zs) (all_of (os ++ ps)) ≡ None
    go None h k ih = ap (option_map (λ zs. x ∷ zs)) (ih h)
    go (Some zs) h k ih = absurd (cc)

-- nor is there one of the second
pub none_of_second : {X : Type 0} (os ps : List (Option X)) → all_of ps ≡ None → all_of (os ++ ps) ≡ None
none_of_second [] ps e = e
none_of_second (None ∷ os) ps e = refl
none_of_second (Some x ∷ os) ps e = ap (option_map (λ zs. x ∷ zs)) (none_of_second os ps e)

-- what the first list was refused for, both are
pub first_refused : {Y : Type 0} (e : Refusal) (old new : List Y) (os ps : List (Option Y)) → Adds {X = Unit {0}} (Err e) old new (all_of os) → Finds {X = List Y} (λ ys. ys) (Err e) (all_of (os ++ ps))
first_refused (At code span) old new os ps h = none_of_first os ps h
first_refused NoMemory old new os ps h = tt

-- what the second list was refused for, both are
pub second_refused : {Y : Type 0} (e : Refusal) (old new : List Y) (os ps : List (Option Y)) → Adds {X = Unit {0}} (Err e) old new (all_of ps) → Finds {X = List Y} (λ ys. ys) (Err e) (all_of (os ++ ps))
second_refused (At code span) old new os ps h = none_of_second os ps h
second_refused NoMemory old new os ps h = tt
