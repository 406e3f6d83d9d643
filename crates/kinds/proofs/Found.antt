-- What is known where an answer was found.
use Rattle.std.proofs.Common.{◌≡◌, Bool, true, false, cond, ◌&&◌, List, [], ◌∷◌, ◌++◌, Option, Some, None, refl, ap, subst, sym, ◌∙◌}
use Rattle.std.specs.Prelude.{option_map, option_and_then}
use Rattle.std.proofs.lemmas.Option.{same_Some}
use Rattle.kinds.specs.Relations.{all_of}

pub map_found : {A B : Type 0} (f : A → B) (o : Option A) (y : B) → option_map f o ≡ Some y → (x : A) × (o ≡ Some x) × (f x ≡ y)
map_found f None y e = absurd (cc)
map_found f (Some x) y e = (x, refl, same_Some (f x) y e)

pub then_found : {A B : Type 0} (f : A → Option B) (o : Option A) (y : B) → option_and_then f o ≡ Some y → (x : A) × (o ≡ Some x) × (f x ≡ Some y)
then_found f None y e = absurd (cc)
then_found f (Some x) y e = (x, refl, e)

pub test_found : {A : Type 0} (b : Bool) (x y : A) → cond b (Some x) None ≡ Some y → (b ≡ true) × (x ≡ y)
test_found true x y e = (refl, same_Some x y e)
test_found false x y e = absurd (cc)

pub both_true : (b c : Bool) → b && c ≡ true → (b ≡ true) × (c ≡ true)
both_true true c e = (refl, e)
both_true false c e = absurd (cc)

-- two answers are the same if each is true where the other is
pub same_answer : (b c : Bool) → (b ≡ true → c ≡ true) → (c ≡ true → b ≡ true) → c ≡ b
same_answer true c h k = h refl
same_answer false true h k = sym (k refl)
same_answer false false h k = refl

pub all_cons : {X : Type 0} (o : Option X) (os : List (Option X)) (ys : List X) → all_of (o ∷ os) ≡ Some ys → (x : X) × (xs : List X) × (o ≡ Some x) × (all_of os ≡ Some xs) × (x ∷ xs ≡ ys)
all_cons None os ys e = absurd (cc)
all_cons (Some x) os ys e =
    let m = map_found (λ zs. x ∷ zs) (all_of os) ys e in
    (x, m.0, refl, m.1, m.2)

pub all_append : {X : Type 0} (os ps : List (Option X)) (ys : List X) → all_of (os ++ ps) ≡ Some ys → (xs : List X) × (zs : List X) × (all_of os ≡ Some xs) × (all_of ps ≡ Some zs) × (xs ++ zs ≡ ys)
all_append [] ps ys e = ([], ys, refl, e, refl)
all_append (o ∷ os) ps ys e =
    let c = all_cons o (os ++ ps) ys e in
    let r = all_append os ps c.1 c.3 in
    (c.0 ∷ r.0, r.1, subst (λ q. all_of (q ∷ os) ≡ Some (c.0 ∷ r.0)) (sym c.2) (ap (option_map (λ zs. c.0 ∷ zs)) r.2), r.3, ap (λ q. c.0 ∷ q) r.4 ∙ c.4)
