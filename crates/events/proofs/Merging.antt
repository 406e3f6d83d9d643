-- Two messages that are merged.
use Rattle.std.proofs.Common.{◌≡◌, ℕ, ◌+◌, ◌<◌, ◌≤◌, List, [], ◌∷◌, ◌++◌, inr, length, refl, sym, ap, ◌∙◌, subst, arith, append-nil, append_assoc, length-append}
use Rattle.std.specs.List.{AllByRecursion}
use Rattle.semantics.specs.Multiset.{Record}
use Rattle.rows.specs.FlatRows.{arity_of, joined}
use Rattle.rows.specs.Counts.{IsOver, most}
use Rattle.rows.proofs.Joined.{joined_append}
use Rattle.rows.proofs.Merging.{count_le}
use Rattle.events.specs.Merging.{AreOneMessage}

-- the arity of records is that of the first of them
arity_first : (first : List Record) (rest : List Record) → 0 < length first → arity_of (first ++ rest) ≡ arity_of first
arity_first [] rest h = absurd (omega (arith, h))
arity_first (r ∷ first) rest h = refl

all_with : (n m : ℕ) (xs ys : List (List Record)) → m ≡ n → AllByRecursion (λ b. arity_of b ≡ n) xs → AllByRecursion (λ b. arity_of b ≡ m) ys → AllByRecursion (λ b. arity_of b ≡ n) (xs ++ ys)
all_with n m [] [] e a b = tt
all_with n m [] (y ∷ ys) e a b = (b.0 ∙ e, all_with n m [] ys e a b.1)
all_with n m (x ∷ xs) ys e a b = (a.0, all_with n m xs ys e a.1 b)

-- the records of both
pub both_records : (first : List Record) (more : List (List Record)) (second : List Record) (others all : List (List Record)) → all ≡ more ++ second ∷ others
    → first ++ joined all ≡ (first ++ joined more) ++ (second ++ joined others)
both_records first more second others all e = ap (λ bs. first ++ joined bs) e ∙ ap (λ r. first ++ r) (joined_append more (second ∷ others)) ∙ sym (append_assoc first (joined more) (second ++ joined others))

pub one_message : (first : List Record) (more : List (List Record)) (l a : ℕ) → AreOneMessage first more l a → (second : List Record) (others : List (List Record)) (m b : ℕ) → AreOneMessage second others m b
    → length (first ++ joined more) + length (second ++ joined others) ≤ most
    → arity_of (second ++ joined others) ≡ arity_of (first ++ joined more) → (all : List (List Record)) → all ≡ more ++ second ∷ others → AreOneMessage first all (l + m) a
one_message first more l a one second others m b other few same all e =
    let alike : arity_of second ≡ arity_of first = sym (arity_first second (joined others) other.some) ∙ same ∙ arity_first first (joined more) one.some in
    let n = ap (λ r. length r) (both_records first more second others all e) in
    let k = length-append (first ++ joined more) (second ++ joined others) in
    record {
      some = one.some;
      counted = omega (arith, n, k, one.counted, other.counted, few);
      arity = one.arity;
      each = subst (AllByRecursion (λ b. arity_of b ≡ arity_of first)) (sym e) (all_with (arity_of first) (arity_of second) more (second ∷ others) alike one.each (refl, other.each));
      few = inr (omega (arith, n, k, few));
    }

-- a message of one batch
pub one_batch : (first : List Record) (more : List (List Record)) → more ≡ [] → first ++ joined more ≡ first
one_batch first more e = ap (λ bs. first ++ joined bs) e ∙ append-nil first

-- records that are few have no count over the limit
pub not_over : (xs : List Record) → length xs ≤ most → IsOver xs → ⊥
not_over xs few (r, over) = let le = count_le r xs in omega (arith, few, over, le)
