-- Lists that are compared item by item, by what is seen of the items.
use Rattle.std.proofs.Common.{◌≡◌, Option, List, [], ◌∷◌, Iter, length, map, ap, sym, ◌∙◌}
use Rattle.std.proofs.iter.Yields.{fronts}
use Rattle.std.proofs.lemmas.Iterator.{YieldsList, YieldsList-from_slice}
use Rattle.std.proofs.lemmas.List.{length-map}
use Rattle.std.specs.Iterator.{AlwaysYields}
use Rattle.std.specs.Slice.Iter.{iter_rest}

-- what is seen of the items that come
always-seen : {S A B C : Type 0} (w : B → C) (steps : S → Option A → S → Type 0) (v : A → B) (s : S) (ys : List B) → AlwaysYields steps v s ys → AlwaysYields steps (λ x. w (v x)) s (map w ys)
always-seen w steps v s [] none = none
always-seen w steps v s (y ∷ ys) more = (more.0, λ x j step. let t = more.1 x j step in (ap w t.0, always-seen w steps v j ys t.1))

-- what is seen of the items of a slice
pub slice-seen : {A B : Type 0} (w : A → B) {s : Iter A} (xs : List A) → iter_rest s ≡ xs → YieldsList fronts (λ y. w y.now) s (map w xs)
slice-seen w {s} xs e = let given = YieldsList-from_slice xs e in record { runs = always-seen w fronts (λ y. y.now) s xs given.runs }

-- the same twice
pub slice-seen-twice : {A B C : Type 0} (w : A → B) (v : B → C) {s : Iter A} (xs : List A) → iter_rest s ≡ xs → YieldsList fronts (λ y. v (w y.now)) s (map v (map w xs))
slice-seen-twice w v {s} xs e = let given = slice-seen w xs e in record { runs = always-seen v fronts (λ y. w y.now) s (map w xs) given.runs }

-- lists of one length, seen
pub lengths-seen : {A B C D : Type 0} (f : A → C) (h : B → D) (xs : List A) (ys : List B) → length xs ≡ length ys → length (map f xs) ≡ length (map h ys)
lengths-seen f h xs ys e = length-map xs f ∙ e ∙ sym (length-map ys h)

-- the same twice
pub lengths-seen-twice : {A B C D E : Type 0} (f : A → C) (g : C → E) (h : B → D) (k : D → E) (xs : List A) (ys : List B) → length xs ≡ length ys → length (map g (map f xs)) ≡ length (map k (map h ys))
lengths-seen-twice f g h k xs ys e = lengths-seen g k (map f xs) (map h ys) (lengths-seen f h xs ys e)
