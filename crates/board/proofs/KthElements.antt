-- The k-th of the elements of which P holds.
use Rattle.std.proofs.Common.{◌≡◌, inl, inr, ◌≤◌, ◌+◌, ℕ, zero, suc, List, [], ◌∷◌, length, refl, sym, ap, subst, arith, slice_get, Some, drop}
use Rattle.machine.specs.Choices.{Kth}

drop_here : {X : Type 0} (xs : List X) (i : ℕ) (x : X) → slice_get xs i ≡ Some x → drop i xs ≡ x ∷ drop (suc i) xs
drop_here [] i x e = absurd cc
drop_here (y ∷ ys) zero x e = let s : y ≡ x = cc in ap (λ z. z ∷ ys) s
drop_here (y ∷ ys) (suc i) x e = drop_here ys i x e

drop_all : {X : Type 0} (xs : List X) (i : ℕ) → length xs ≤ i → drop i xs ≡ []
drop_all [] zero l = refl
drop_all [] (suc i) l = refl
drop_all (y ∷ ys) zero l = absurd (omega arith)
drop_all (y ∷ ys) (suc i) l = drop_all ys i (omega arith)

-- if P holds of the first, the number of each later one is one lower in the rest
after_one : {X : Type 0} (P : X → Type 0) (x : X) (ys : List X) (left a : ℕ) → P x → Kth P (x ∷ ys) (suc left) a → (b : ℕ) × (a ≡ suc b) × Kth P ys left b
after_one P x ys left zero here h = absurd h
after_one P x ys left (suc b) here (inl h) = (b, refl, h.1)
after_one P x ys left (suc b) here (inr h) = absurd (h.0 here)

-- if P doesn't hold of the first, the numbers are the same in the rest
after_none : {X : Type 0} (P : X → Type 0) (x : X) (ys : List X) (left a : ℕ) → (P x → ⊥) → Kth P (x ∷ ys) left a → (b : ℕ) × (a ≡ suc b) × Kth P ys left b
after_none P x ys zero zero not h = absurd (not h)
after_none P x ys zero (suc b) not h = (b, refl, h.1)
after_none P x ys (suc left) zero not h = absurd h
after_none P x ys (suc left) (suc b) not (inl h) = absurd (not h.0)
after_none P x ys (suc left) (suc b) not (inr h) = (b, refl, h.1)

before_none : {X : Type 0} (P : X → Type 0) (x : X) (ys : List X) (left b : ℕ) → (P x → ⊥) → Kth P ys left b → Kth P (x ∷ ys) left (suc b)
before_none P x ys zero b not h = (not, h)
before_none P x ys (suc left) b not h = inr (not, h)

-- the k-th of all is the `left`-th of those from `place` on
pub record Remains {X : Type 0} (P : X → Type 0) (xs : List X) (k place left : ℕ) : Type 0 where
  pub onto : (a : ℕ) → Kth P (drop place xs) left a → Kth P xs k (place + a)
  pub back : (at : ℕ) → Kth P xs k at → (a : ℕ) × (at ≡ place + a) × Kth P (drop place xs) left a

module _ {X : Type 0} (P : X → Type 0) (xs : List X) (k : ℕ) where
  pub remain_first : Remains P xs k 0 k
  remain_first =
      let A : ℕ → Type 0 = λ n. Kth P xs k n in
      record { onto = λ a h. subst A (let e : a ≡ 0 + a = omega arith in e) h; back = λ at h. (at, (let e : at ≡ 0 + at = omega arith in e), h) }

  module _ (place left : ℕ) (remain : Remains P xs k place left) where
    module _ (x : X) (got : slice_get xs place ≡ Some x) where
      as_drop : (n a : ℕ) → Kth P (x ∷ drop (suc place) xs) n a → Kth P (drop place xs) n a
      as_drop n a h = let A : List X → Type 0 = λ ys. Kth P ys n a in subst A (sym (drop_here xs place x got)) h

      as_cons : (n a : ℕ) → Kth P (drop place xs) n a → Kth P (x ∷ drop (suc place) xs) n a
      as_cons n a h = let A : List X → Type 0 = λ ys. Kth P ys n a in subst A (drop_here xs place x got) h

      -- the k-th is this one
      pub remain_here : P x → left ≡ 0 → Kth P xs k place
      remain_here here last =
          let A : ℕ → Type 0 = λ n. Kth P xs k n in
          let B : ℕ → Type 0 = λ n. Kth P (x ∷ drop (suc place) xs) n 0 in
          subst A (let e : place + 0 ≡ place = omega arith in e) (remain.onto 0 (as_drop left 0 (subst B (sym last) here)))

      pub remain_one : (less next : ℕ) → left ≡ suc less → next ≡ suc place → P x → Remains P xs k next less
      remain_one less next e at_next here =
          let A : ℕ → Type 0 = λ n. Remains P xs k n less in
          subst A (sym at_next) (record {
            onto = λ a h.
                let B : ℕ → Type 0 = λ n. Kth P xs k n in
                let C : ℕ → Type 0 = λ n. Kth P (x ∷ drop (suc place) xs) n (suc a) in
                subst B (let f : place + suc a ≡ suc place + a = omega arith in f) (remain.onto (suc a) (as_drop left (suc a) (subst C (sym e) (inl (here, h)))));
            back = λ at h.
                let r = remain.back at h in
                let C : ℕ → Type 0 = λ n. Kth P (x ∷ drop (suc place) xs) n r.0 in
                let o = after_one P x (drop (suc place) xs) less r.0 here (subst C e (as_cons left r.0 r.2)) in
                (o.0, (let f : at ≡ place + r.0 = r.1 in let f' : r.0 ≡ suc o.0 = o.1 in omega (arith, f, f')), o.2);
          })

      pub remain_none : (next : ℕ) → next ≡ suc place → (P x → ⊥) → Remains P xs k next left
      remain_none next at_next not =
          let A : ℕ → Type 0 = λ n. Remains P xs k n left in
          subst A (sym at_next) (record {
            onto = λ a h.
                let B : ℕ → Type 0 = λ n. Kth P xs k n in
                subst B (let f : place + suc a ≡ suc place + a = omega arith in f) (remain.onto (suc a) (as_drop left (suc a) (before_none P x (drop (suc place) xs) left a not h)));
            back = λ at h.
                let r = remain.back at h in
                let o = after_none P x (drop (suc place) xs) left r.0 not (as_cons left r.0 r.2) in
                (o.0, (let f : at ≡ place + r.0 = r.1 in let f' : r.0 ≡ suc o.0 = o.1 in omega (arith, f, f')), o.2);
          })

    -- there is none behind the last
    pub remain_end : length xs ≤ place → (at : ℕ) → Kth P xs k at → ⊥
    remain_end l at h =
        let r = remain.back at h in
        let A : List X → Type 0 = λ ys. Kth P ys left r.0 in
        subst A (drop_all xs place l) r.2

-- the k-th is in the list
pub kth_there : {X : Type 0} (P : X → Type 0) (xs : List X) (k at : ℕ) → Kth P xs k at → (x : X) × (slice_get xs at ≡ Some x) × P x
kth_there P [] k at h = absurd h
kth_there P (x ∷ xs) zero zero h = (x, refl, h)
kth_there P (x ∷ xs) (suc k) zero h = absurd h
kth_there P (x ∷ xs) zero (suc at) h = kth_there P xs zero at h.1
kth_there P (x ∷ xs) (suc k) (suc at) (inl h) = kth_there P xs k at h.1
kth_there P (x ∷ xs) (suc k) (suc at) (inr h) = kth_there P xs (suc k) at h.1

-- the same for two properties that hold of the same elements
pub kth_same : {X : Type 0} (P Q : X → Type 0) → ((x : X) → P x → Q x) → ((x : X) → Q x → P x) → (xs : List X) (k at : ℕ) → Kth P xs k at → Kth Q xs k at
kth_same P Q to from [] k at h = absurd h
kth_same P Q to from (x ∷ xs) zero zero h = to x h
kth_same P Q to from (x ∷ xs) (suc k) zero h = absurd h
kth_same P Q to from (x ∷ xs) zero (suc at) h = (λ q. h.0 (from x q), kth_same P Q to from xs zero at h.1)
kth_same P Q to from (x ∷ xs) (suc k) (suc at) (inl h) = inl (to x h.0, kth_same P Q to from xs k at h.1)
kth_same P Q to from (x ∷ xs) (suc k) (suc at) (inr h) = inr (λ q. h.0 (from x q), kth_same P Q to from xs (suc k) at h.1)
