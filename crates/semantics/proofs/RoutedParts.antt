-- Records are routed by their keys: each to a worker that exists, and equal keys to one worker. So the workers' parts are a cut of what comes in, and
-- sum to it.
use Rattle.std.proofs.Common.{ltb-false, ltb-true, ◌≡◌, ◌≢◌, ℕ, zero, suc, ◌+◌, ◌≤◌, ◌<◌, nat_lt, Bool, true, false, cond, ◌==◌, List, [], ◌∷◌, map, filter, Option, Some, None, refl, sym, ap, ap₂, subst, ◌∙◌, arith, inl, inr, ◌⊎◌, lt-ltb, le-ltb}
use Rattle.std.proofs.lemmas.Bool.Decides.{eqb_tells}
use Rattle.std.proofs.Math.Nat.{mod-lt}
use Rattle.semantics.specs.Multiset.{Record, same, one_if, count, ◌≈◌, end_to_end}
use Rattle.semantics.specs.Kinds.{Kind, route_key}
use Rattle.semantics.specs.Op.{IsCut, IsSum}
use Rattle.semantics.specs.Route.{route, home_by}
use Rattle.semantics.proofs.MultisetSums.{Decides-same, total-append}
use Rattle.semantics.proofs.CountsOfForms.{count-filter}

-- ---- one worker for each record

pub home_below : (key : Option (Record → Record)) (from_input : Bool) (workers sender : ℕ) (r : Record) → sender < workers → home_by key from_input workers sender r < workers
unfolding route
home_below (Some key) from_input workers sender r l = mod-lt _ (let z : 0 < workers = omega arith in z)
home_below None true workers sender r l = mod-lt _ (let z : 0 < workers = omega arith in z)
home_below None false workers sender r l = l

-- if there is a key, only the key matters: neither the sender nor anything else of the record
pub home_of_key : (key : Option (Record → Record)) (f : Record → Record) → key ≡ Some f → (from_input : Bool) (workers sender : ℕ) (r : Record) → home_by key from_input workers sender r ≡ route (f r) workers
home_of_key key f e from_input workers sender r = ap (λ k. home_by k from_input workers sender r) e

pub equal_keys_meet : (key : Option (Record → Record)) (f : Record → Record) → key ≡ Some f → (from_input : Bool) (workers sender sender' : ℕ) (r s : Record) → f r ≡ f s → home_by key from_input workers sender r ≡ home_by key from_input workers sender' s
equal_keys_meet key f e from_input workers sender sender' r s k = home_of_key key f e from_input workers sender r ∙ ap (λ z. route z workers) k ∙ sym (home_of_key key f e from_input workers sender' s)

-- ---- the parts sum to the whole

part_count : (home : Record → ℕ) (xs : List Record) (r : Record) (n : ℕ) → count r (end_to_end (λ w. filter (λ x. home x == w) xs) n) ≡ cond (nat_lt (home r) n) (count r xs) 0
part_count home xs r zero = sym (ap (λ b. cond b (count r xs) 0) (le-ltb (home r) 0 (omega arith)))
part_count home xs r (suc n) =
    total-append (λ x. one_if (same x r)) (end_to_end (λ w. filter (λ x. home x == w) xs) n) (filter (λ x. home x == n) xs)
    ∙ ap₂ (λ a b. a + b) (part_count home xs r n) (count-filter (λ x. home x == n) xs r)
    ∙ go (eqb_tells (home r) n)
  where
    smaller : (b : Bool) → nat_lt (home r) n ≡ b → nat_lt (home r) (suc n) ≡ b → cond (nat_lt (home r) n) (count r xs) 0 + 0 ≡ cond (nat_lt (home r) (suc n)) (count r xs) 0
    smaller b e k = ap (λ z. cond z (count r xs) 0 + 0) e ∙ (let z : cond b (count r xs) 0 + 0 ≡ cond b (count r xs) 0 = plus_none b in z) ∙ sym (ap (λ z. cond z (count r xs) 0) k)
      where
        plus_none : (b : Bool) → cond b (count r xs) 0 + 0 ≡ cond b (count r xs) 0
        plus_none true = omega arith
        plus_none false = refl

    go : ((home r == n) ≡ true) × (home r ≡ n) ⊎ ((home r == n) ≡ false) × (home r ≢ n) → cond (nat_lt (home r) n) (count r xs) 0 + cond (home r == n) (count r xs) 0 ≡ cond (nat_lt (home r) (suc n)) (count r xs) 0
    go (inl (e, k)) =
        ap₂ (λ a b. cond a (count r xs) 0 + cond b (count r xs) 0) (le-ltb (home r) n (omega arith)) e
        ∙ (let z : 0 + count r xs ≡ count r xs = omega arith in z)
        ∙ sym (ap (λ b. cond b (count r xs) 0) (lt-ltb (home r) (suc n) (omega arith)))
    go (inr (e, k)) = ap (λ b. cond (nat_lt (home r) n) (count r xs) 0 + cond b (count r xs) 0) e ∙ by (nat_lt (home r) n) refl
      where
        by : (b : Bool) → nat_lt (home r) n ≡ b → cond (nat_lt (home r) n) (count r xs) 0 + 0 ≡ cond (nat_lt (home r) (suc n)) (count r xs) 0
        by true q = smaller true q (lt-ltb (home r) (suc n) (let z = ltb-true (home r) n q in omega arith))
        by false q = smaller false q (le-ltb (home r) (suc n) (let z = ltb-false (home r) n q in (let apart : home r ≢ n = k in above apart z)))
          where
            above : home r ≢ n → n ≤ home r → suc n ≤ home r
            above f l = omega arith

pub parts_sum : (home : Record → ℕ) (workers : ℕ) (xs : List Record) → ((r : Record) → home r < workers) → xs ≈ end_to_end (λ w. filter (λ x. home x == w) xs) workers
parts_sum home workers xs h = record { counts = λ r. sym (part_count home xs r workers ∙ ap (λ b. cond b (count r xs) 0) (lt-ltb (home r) workers (h r))) }

pub routed_sum : (kind : Kind) (ins : ℕ → List Record) (from_input : Bool) (workers sender : ℕ) → sender < workers
    → IsSum kind ins (λ w i. filter (λ r. home_by (route_key kind i) from_input workers sender r == w) (ins i)) workers
routed_sum kind ins from_input workers sender l = record { sums = λ i k. parts_sum (home_by (route_key kind i) from_input workers sender) workers (ins i) (λ r. home_below (route_key kind i) from_input workers sender r l) }

-- ---- no key is in two parts

-- a key in a part is routed there
key_at_home : (f : Record → Record) (workers w : ℕ) (xs : List Record) (k : Record) → 0 < count k (map f (filter (λ r. route (f r) workers == w) xs)) → route k workers ≡ w
key_at_home f workers w [] k h = absurd (omega arith)
key_at_home f workers w (x ∷ xs) k h = go (eqb_tells (route (f x) workers) w) (key_at_home f workers w xs k)
  where
    rest : List Record
    rest = map f (filter (λ r. route (f r) workers == w) xs)

    chosen : (b : Bool) → (route (f x) workers == w) ≡ b → 0 < count k (map f (cond b (x ∷ filter (λ r. route (f r) workers == w) xs) (filter (λ r. route (f r) workers == w) xs)))
    chosen b e = subst (λ b. 0 < count k (map f (cond b (x ∷ filter (λ r. route (f r) workers == w) xs) (filter (λ r. route (f r) workers == w) xs)))) e h

    here : (b : Bool) → same (f x) k ≡ b → 0 < one_if (same (f x) k) + count k rest → route (f x) workers ≡ w → (0 < count k rest → route k workers ≡ w) → route k workers ≡ w
    here true e l q ih = subst (λ z. route z workers ≡ w) ((Decides-same (f x) k).0 e) q
    here false e l q ih = ih (let z : 0 < one_if false + count k rest = subst (λ b. 0 < one_if b + count k rest) e l in omega arith)

    go : ((route (f x) workers == w) ≡ true) × (route (f x) workers ≡ w) ⊎ ((route (f x) workers == w) ≡ false) × (route (f x) workers ≢ w) → (0 < count k rest → route k workers ≡ w) → route k workers ≡ w
    go (inl (e, q)) ih = here (same (f x) k) refl (chosen true e) q ih
    go (inr (e, q)) ih = ih (chosen false e)

pub routed_cut : (kind : Kind) (ins : ℕ → List Record) (from_input : Bool) (workers sender : ℕ)
    → IsCut kind (λ w i. filter (λ r. home_by (route_key kind i) from_input workers sender r == w) (ins i)) workers
routed_cut kind ins from_input workers sender = record {
  apart = λ v w lv lw different i j li lj f g e q.
      record {
        never = λ k a b.
            different (sym (key_at_home f workers v (ins i) k (subst (λ key. 0 < count k (map f (filter (λ r. home_by key from_input workers sender r == v) (ins i)))) e a))
            ∙ key_at_home g workers w (ins j) k (subst (λ key. 0 < count k (map g (filter (λ r. home_by key from_input workers sender r == w) (ins j)))) q b));
      };
}
