-- The laws of multisets.
use Rattle.std.proofs.Common.{◌≡◌, ℕ, ◌+◌, ◌≤◌, ◌<◌, Bool, true, false, cond, List, [], ◌∷◌, ◌++◌, map, filter, flat_map, refl, sym, ap, subst, ap₂, ◌∙◌, arith, Decides}
use mathlib.Core.Path.{fun_ext}
use Rattle.std.specs.Cmp.Lexicographic.{pointwise_decides}
use Rattle.std.proofs.lemmas.Bool.Decides.{Decides-int_eq}
use Rattle.semantics.specs.Multiset.{without, less, Record, same, one_if, total, count, ◌≈◌, IsPartOf}
use Rattle.semantics.specs.Meaning.{folded}

pub Decides-same : (a b : Record) → Decides (same a b) (a ≡ b)
Decides-same = pointwise_decides (λ x y. Decides-int_eq x y)

pub same-refl : (a : Record) → same a a ≡ true
same-refl a = (Decides-same a a).1 refl

pub total-without : (f : Record → ℕ) (y : Record) (xs : List Record) → 0 < count y xs → total f xs ≡ f y + total f (without y xs)
total-without f y [] h = omega arith
total-without f y (x ∷ xs) h = go (same x y) refl (total-without f y xs)
  where
    go : (b : Bool) → same x y ≡ b → (0 < count y xs → total f xs ≡ f y + total f (without y xs)) → f x + total f xs ≡ f y + total f (cond b xs (x ∷ without y xs))
    go true e ih = ap (λ z. f z + total f xs) ((Decides-same x y).0 e)
    go false e ih =
        let k : 0 < one_if false + count y xs = subst (λ b. 0 < one_if b + count y xs) e h in
        let step : total f xs ≡ f y + total f (without y xs) = ih (omega arith) in
        omega arith

pub count_here : (x : Record) (xs : List Record) → 0 < count x (x ∷ xs)
count_here x xs = rw (same-refl x) (omega arith)

-- a sum over a part is at most the sum over the whole
pub total-part : (f : Record → ℕ) (xs ys : List Record) → IsPartOf xs ys → total f xs ≤ total f ys
total-part f [] ys p = omega arith
total-part f (x ∷ xs) ys p =
    let here : 0 < count x ys = omega (arith, p.within x, count_here x xs) in
    let split : total f ys ≡ f x + total f (without x ys) = total-without f x ys here in
    let rest : IsPartOf xs (without x ys) = record { within = λ r. omega (arith, p.within r, total-without (λ z. one_if (same z r)) x ys here) } in
    let ih : total f xs ≤ total f (without x ys) = total-part f xs (without x ys) rest in
    omega arith

pub part_left : {xs ys : List Record} → xs ≈ ys → IsPartOf xs ys
part_left h = record { within = λ r. omega (arith, h.counts r) }

pub part_right : {xs ys : List Record} → xs ≈ ys → IsPartOf ys xs
part_right h = record { within = λ r. omega (arith, h.counts r) }

pub same_from_parts : {xs ys : List Record} → IsPartOf xs ys → IsPartOf ys xs → xs ≈ ys
same_from_parts p q = record { counts = λ r. omega (arith, p.within r, q.within r) }

pub total-same : (f : Record → ℕ) (xs ys : List Record) → xs ≈ ys → total f xs ≡ total f ys
total-same f xs ys h = omega (arith, total-part f xs ys (part_left h), total-part f ys xs (part_right h))

pub ≈-refl : (xs : List Record) → xs ≈ xs
≈-refl xs = record { counts = λ r. refl }

pub ≈-sym : {xs ys : List Record} → xs ≈ ys → ys ≈ xs
≈-sym h = record { counts = λ r. sym (h.counts r) }

pub ≈-trans : {xs ys zs : List Record} → xs ≈ ys → ys ≈ zs → xs ≈ zs
≈-trans h k = record { counts = λ r. h.counts r ∙ k.counts r }

pub ≈-from : {xs ys : List Record} → xs ≡ ys → xs ≈ ys
≈-from e = record { counts = λ r. ap (count r) e }

pub total-append : {X : Type 0} (f : X → ℕ) (xs ys : List X) → total f (xs ++ ys) ≡ total f xs + total f ys
total-append f [] ys = omega arith
total-append f (x ∷ xs) ys = omega (arith, total-append f xs ys)

-- sums of functions that are equal, or one below the other
pub total-le : (f g : Record → ℕ) → ((x : Record) → f x ≤ g x) → (xs : List Record) → total f xs ≤ total g xs
total-le f g h [] = omega arith
total-le f g h (x ∷ xs) = omega (arith, h x, total-le f g h xs)

pub total-alike : (f g : Record → ℕ) → ((x : Record) → f x ≡ g x) → (xs : List Record) → total f xs ≡ total g xs
total-alike f g h xs = ap (λ k. total k xs) (fun_ext h)

-- a sum over lists end to end is a sum of sums
pub total-flat_map : (f : Record → ℕ) (h : Record → List Record) (xs : List Record) → total f (flat_map h xs) ≡ total (λ x. total f (h x)) xs
total-flat_map f h [] = refl
total-flat_map f h (x ∷ xs) = total-append f (h x) (flat_map h xs) ∙ ap (λ n. total f (h x) + n) (total-flat_map f h xs)

pub total-map : (f : Record → ℕ) (h : Record → Record) (xs : List Record) → total f (map h xs) ≡ total (λ x. f (h x)) xs
total-map f h [] = refl
total-map f h (x ∷ xs) = ap (λ n. f (h x) + n) (total-map f h xs)

pub total-cond : (f : Record → ℕ) (b : Bool) (xs ys : List Record) → total f (cond b xs ys) ≡ cond b (total f xs) (total f ys)
total-cond f true xs ys = refl
total-cond f false xs ys = refl

cond_plus : (b : Bool) (m n : ℕ) → cond b (m + n) n ≡ cond b m 0 + n
cond_plus true m n = refl
cond_plus false m n = omega arith

pub total-filter : (f : Record → ℕ) (p : Record → Bool) (xs : List Record) → total f (filter p xs) ≡ total (λ x. cond (p x) (f x) 0) xs
total-filter f p [] = refl
total-filter f p (x ∷ xs) = total-cond f (p x) (x ∷ filter p xs) (filter p xs) ∙ rw (total-filter f p xs) (cond_plus (p x) (f x) (total (λ z. cond (p z) (f z) 0) xs))

-- an operation whose counts are sums over its input keeps parts, equality and sums
abbrev pub IsLinear : (List Record → List Record) → Type 0
IsLinear op = (f : Record → ℕ) → (g : Record → ℕ) × ((xs : List Record) → total f (op xs) ≡ total g xs)

pub linear_part : (op : List Record → List Record) → IsLinear op → (xs ys : List Record) → IsPartOf xs ys → IsPartOf (op xs) (op ys)
linear_part op l xs ys p = record {
  within = λ r.
      let t = l (λ x. one_if (same x r)) in
      omega (arith, t.1 xs, t.1 ys, total-part t.0 xs ys p);
}

pub linear_same : (op : List Record → List Record) → IsLinear op → (xs ys : List Record) → xs ≈ ys → op xs ≈ op ys
linear_same op l xs ys p = record {
  counts = λ r.
      let t = l (λ x. one_if (same x r)) in
      omega (arith, t.1 xs, t.1 ys, total-same t.0 xs ys p);
}

pub linear_sum : (op : List Record → List Record) → IsLinear op → (xs ys : List Record) → op (xs ++ ys) ≈ (op xs ++ op ys)
linear_sum op l xs ys = record {
  counts = λ r.
      let t = l (λ x. one_if (same x r)) in
      omega (arith, t.1 xs, t.1 ys, t.1 (xs ++ ys), total-append t.0 xs ys, total-append (λ x. one_if (same x r)) (op xs) (op ys));
}

pub map_linear : (h : Record → Record) → IsLinear (map h)
map_linear h f = (λ x. f (h x), total-map f h)

pub filter_linear : (p : Record → Bool) → IsLinear (filter p)
filter_linear p f = (λ x. cond (p x) (f x) 0, total-filter f p)

-- sums
pub append_part : (xs ys us vs : List Record) → IsPartOf xs ys → IsPartOf us vs → IsPartOf (xs ++ us) (ys ++ vs)
append_part xs ys us vs p q = record { within = λ r. omega (arith, p.within r, q.within r, total-append (λ x. one_if (same x r)) xs us, total-append (λ x. one_if (same x r)) ys vs) }

pub append_same : (xs ys us vs : List Record) → xs ≈ ys → us ≈ vs → (xs ++ us) ≈ (ys ++ vs)
append_same xs ys us vs p q = record { counts = λ r. omega (arith, p.counts r, q.counts r, total-append (λ x. one_if (same x r)) xs us, total-append (λ x. one_if (same x r)) ys vs) }

pub append_comm : (xs ys : List Record) → (xs ++ ys) ≈ (ys ++ xs)
append_comm xs ys = record { counts = λ r. omega (arith, total-append (λ x. one_if (same x r)) xs ys, total-append (λ x. one_if (same x r)) ys xs) }

-- what is in a list
pub total_present : (f g : Record → ℕ) (xs : List Record) → ((x : Record) → 0 < count x xs → f x ≡ g x) → total f xs ≡ total g xs
total_present f g [] h = refl
total_present f g (x ∷ xs) h = ap₂ (λ m n. m + n) (h x (count_here x xs)) (total_present f g xs (λ z k. h z (omega (arith, k))))

pub total_none : (xs : List Record) → total (λ x. 0) xs ≡ 0
total_none [] = refl
total_none (x ∷ xs) = omega (arith, total_none xs)

pub empty_from_counts : (xs : List Record) → ((r : Record) → count r xs ≡ 0) → xs ≡ []
empty_from_counts [] h = refl
empty_from_counts (x ∷ xs) h = absurd (omega (arith, h x, count_here x xs))

pub empty_from_same : (xs : List Record) → xs ≈ [] → xs ≡ []
empty_from_same xs h = empty_from_counts xs (λ r. h.counts r)

-- a fold by a function that doesn't depend on the order
pub gather-without : {B : Type 0} (f : Record → B → B) (b : B) → ((x y : Record) (c : B) → f x (f y c) ≡ f y (f x c)) → (y : Record) (xs : List Record) → 0 < count y xs → folded f b xs ≡ f y (folded f b (without y xs))
gather-without f b swaps y [] h = absurd (omega arith)
gather-without f b swaps y (x ∷ xs) h = go (same x y) refl (gather-without f b swaps y xs)
  where
    go : (t : Bool) → same x y ≡ t → (0 < count y xs → folded f b xs ≡ f y (folded f b (without y xs))) → f x (folded f b xs) ≡ f y (folded f b (cond t xs (x ∷ without y xs)))
    go true e ih = ap (λ z. f z (folded f b xs)) ((Decides-same x y).0 e)
    go false e ih =
        let k : 0 < one_if false + count y xs = subst (λ t. 0 < one_if t + count y xs) e h in
        ap (f x) (ih (omega arith)) ∙ swaps x y (folded f b (without y xs))

pub gather-same : {B : Type 0} (f : Record → B → B) (b : B) → ((x y : Record) (c : B) → f x (f y c) ≡ f y (f x c)) → (xs ys : List Record) → xs ≈ ys → folded f b xs ≡ folded f b ys
gather-same f b swaps [] ys h = ap (folded f b) (sym (empty_from_same ys (≈-sym h)))
gather-same f b swaps (x ∷ xs) ys h =
    let here : 0 < count x ys = omega (arith, h.counts x, count_here x xs) in
    let rest : xs ≈ without x ys = record { counts = λ r. omega (arith, h.counts r, total-without (λ z. one_if (same z r)) x ys here) } in
    ap (f x) (gather-same f b swaps xs (without x ys) rest) ∙ sym (gather-without f b swaps x ys here)

-- a part and the rest of the whole make the whole
pub part-less : (xs ys : List Record) → IsPartOf ys xs → (ys ++ less xs ys) ≈ xs
part-less xs [] p = ≈-refl xs
part-less xs (y ∷ ys) p =
    let here : 0 < count y xs = omega (arith, p.within y, count_here y ys) in
    let split = λ (r : Record). total-without (λ z. one_if (same z r)) y xs here in
    let rest : IsPartOf ys (without y xs) = record { within = λ r. omega (arith, p.within r, split r) } in
    let ih : (ys ++ less (without y xs) ys) ≈ without y xs = part-less (without y xs) ys rest in
    record { counts = λ r. omega (arith, ih.counts r, split r) }

-- what is gained, plus what was there before, is what is there after
pub less-append : (after before : List Record) → IsPartOf before after → (less after before ++ before) ≈ after
less-append after before h = ≈-trans (append_comm (less after before) before) (part-less after before h)
