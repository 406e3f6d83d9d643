-- The laws of the equation of a vertex: nothing in gives nothing out; the results of parts with no common route key add up.
use Rattle.std.proofs.Common.{◌≡◌, ℕ, zero, suc, ◌+◌, ◌<◌, nat_lt, nat_eq, Bool, true, false, cond, List, [], ◌++◌, map, Some, refl, ◌∙◌, arith, inl, inr, ◌⊎◌}
use Rattle.semantics.specs.Multiset.{Record, same, one_if, count, ◌≈◌, end_to_end}
use Rattle.semantics.specs.Op.{HasNoCommonKey, IsCut, IsSum, places, op}
use Rattle.semantics.specs.Kinds.{route_key, Kind}
use Rattle.semantics.specs.Meaning.{paired, project, left_columns, right_columns, selected, kept, only_left, holds, value}
use Rattle.semantics.specs.Query.{Pair}
use Rattle.semantics.specs.Time.{Time, last}
use Rattle.semantics.proofs.MultisetSums.{≈-refl, ≈-trans, ≈-from, append_same, total-append, total-map, linear_sum, map_linear, filter_linear}
use Rattle.semantics.proofs.ExceptAndIntersect.{only_left_cut, in_both_cut}
use Rattle.semantics.proofs.KeyedParts.{paired_same, paired_cut, distinct_cut, grouped_cut}
use Rattle.semantics.proofs.OneFlow.{cond_same, op_same}

either : (b : Bool) → cond {A = List Record} b [] [] ≡ []
either true = refl
either false = refl

pub op_nothing : (kind : Kind) (t : Time) (out : ℕ) → op kind t (λ p. []) out ≡ []
op_nothing Kind.input t out = refl
op_nothing Kind.output t out = refl
op_nothing Kind.concat t out = refl
op_nothing Kind.distinct t out = refl
op_nothing Kind.except t out = refl
op_nothing Kind.intersect t out = refl
op_nothing Kind.ingress t out = refl
op_nothing Kind.egress t out = refl
op_nothing Kind.feedback t out = refl
op_nothing (Kind.select ss) t out = refl
op_nothing (Kind.filter c) t out = refl
op_nothing (Kind.join ps) t out = refl
op_nothing (Kind.lookup ps) t out = refl
op_nothing (Kind.group ks as') t out = refl
op_nothing (Kind.gate n) t zero = either (nat_lt (last t.counters) n)
op_nothing (Kind.gate n) t (suc out) = either (nat_eq (last t.counters) n)
op_nothing (Kind.unseen n) t zero = either (nat_lt (last t.counters) n)
op_nothing (Kind.unseen n) t (suc out) = refl
op_nothing (Kind.hold n) t zero = either (nat_lt (last t.counters) n)
op_nothing (Kind.hold n) t (suc out) = either (nat_lt (last t.counters + 1) n)

-- ---- two parts

abbrev pub InTwo : Kind → (ℕ → List Record) → (ℕ → List Record) → Type 0
InTwo kind xs ys = (p q : ℕ) → p < places kind → q < places kind → (f g : Record → Record) → route_key kind p ≡ Some f → route_key kind q ≡ Some g → HasNoCommonKey f g (xs p) (ys q) × HasNoCommonKey f g (ys p) (xs q)

pub crossed : (a b c d : List Record) → ((a ++ c) ++ (b ++ d)) ≈ ((a ++ b) ++ (c ++ d))
crossed a b c d = record {
  counts = λ r.
      let f = λ (x : Record). one_if (same x r) in
      omega (arith, total-append f (a ++ c) (b ++ d), total-append f a c, total-append f b d, total-append f (a ++ b) (c ++ d), total-append f a b, total-append f c d);
}

cond_sum : (b : Bool) (xs ys : List Record) → cond b (xs ++ ys) [] ≈ (cond b xs [] ++ cond b ys [])
cond_sum true xs ys = ≈-refl (xs ++ ys)
cond_sum false xs ys = ≈-refl []

key_in : (f : Record → Record) (k : Record) (xs ys : List Record) → 0 < count k (map f (xs ++ ys)) → (0 < count k (map f xs)) ⊎ (0 < count k (map f ys))
key_in f k xs ys h = go (count k (map f xs)) refl
  where
    c : Record → ℕ
    c x = one_if (same x k)

    split : count k (map f (xs ++ ys)) ≡ count k (map f xs) + count k (map f ys)
    split = total-map c f (xs ++ ys) ∙ total-append (λ x. c (f x)) xs ys ∙ (let a = total-map c f xs in let b = total-map c f ys in omega (arith, a, b))

    go : (n : ℕ) → count k (map f xs) ≡ n → (0 < n) ⊎ (0 < count k (map f ys))
    go zero e = inr (omega (arith, split))
    go (suc n) e = inl (omega arith)

no_key_more : (f g : Record → Record) (xs ys zs : List Record) → HasNoCommonKey f g xs ys → HasNoCommonKey f g xs zs → HasNoCommonKey f g xs (ys ++ zs)
no_key_more f g xs ys zs h h' = record { never = λ k a b. go k a (key_in g k ys zs b) }
  where
    go : (k : Record) → 0 < count k (map f xs) → (0 < count k (map g ys)) ⊎ (0 < count k (map g zs)) → ⊥
    go k a (inl b) = h.never k a b
    go k a (inr b) = h'.never k a b

lookup_two : (ps : List Pair) (xs ys : ℕ → List Record) → InTwo (Kind.lookup ps) xs ys → paired ps (xs 0 ++ ys 0) ((xs 1 ++ ys 1) ++ (xs 2 ++ ys 2)) ≈ (paired ps (xs 0) (xs 1 ++ xs 2) ++ paired ps (ys 0) (ys 1 ++ ys 2))
lookup_two ps xs ys h =
    let f = project (left_columns ps) in
    let g = project (right_columns ps) in
    let a = h 0 1 (omega arith) (omega arith) f g refl refl in
    let b = h 0 2 (omega arith) (omega arith) f g refl refl in
    ≈-trans (paired_same ps (xs 0 ++ ys 0) (xs 0 ++ ys 0) _ _ (≈-refl (xs 0 ++ ys 0)) (crossed (xs 1) (xs 2) (ys 1) (ys 2)))
    (paired_cut ps (xs 0) (ys 0) (xs 1 ++ xs 2) (ys 1 ++ ys 2) (no_key_more f g (xs 0) (ys 1) (ys 2) a.0 b.0) (no_key_more f g (ys 0) (xs 1) (xs 2) a.1 b.1))

unseen_two : (n : ℕ) (xs ys : ℕ → List Record) → InTwo (Kind.unseen n) xs ys → only_left (xs 0 ++ ys 0) (xs 1 ++ ys 1) ≈ (only_left (xs 0) (xs 1) ++ only_left (ys 0) (ys 1))
unseen_two n xs ys h = only_left_cut (xs 0) (ys 0) (xs 1) (ys 1) (h 0 0 (omega arith) (omega arith) (λ r. r) (λ r. r) refl refl).0 (h 0 1 (omega arith) (omega arith) (λ r. r) (λ r. r) refl refl).0 (h 0 1 (omega arith) (omega arith) (λ r. r) (λ r. r) refl refl).1

pub op_two : (kind : Kind) (t : Time) (xs ys : ℕ → List Record) (out : ℕ) → InTwo kind xs ys → op kind t (λ p. xs p ++ ys p) out ≈ (op kind t xs out ++ op kind t ys out)
op_two Kind.input t xs ys out h = ≈-refl []
op_two Kind.output t xs ys out h = ≈-refl []
op_two Kind.concat t xs ys out h = crossed (xs 0) (xs 1) (ys 0) (ys 1)
op_two Kind.distinct t xs ys out h = distinct_cut (xs 0) (ys 0) (h 0 0 (omega arith) (omega arith) (λ r. r) (λ r. r) refl refl).0
op_two Kind.except t xs ys out h = only_left_cut (xs 0) (ys 0) (xs 1) (ys 1) (h 0 0 (omega arith) (omega arith) (λ r. r) (λ r. r) refl refl).0 (h 0 1 (omega arith) (omega arith) (λ r. r) (λ r. r) refl refl).0 (h 0 1 (omega arith) (omega arith) (λ r. r) (λ r. r) refl refl).1
op_two Kind.intersect t xs ys out h = in_both_cut (xs 0) (ys 0) (xs 1) (ys 1) (h 0 0 (omega arith) (omega arith) (λ r. r) (λ r. r) refl refl).0 (h 0 1 (omega arith) (omega arith) (λ r. r) (λ r. r) refl refl).0 (h 0 1 (omega arith) (omega arith) (λ r. r) (λ r. r) refl refl).1
op_two Kind.ingress t xs ys out h = ≈-refl (xs 0 ++ ys 0)
op_two Kind.egress t xs ys out h = ≈-refl (xs 0 ++ ys 0)
op_two Kind.feedback t xs ys out h = ≈-refl (xs 0 ++ ys 0)
op_two (Kind.select ss) t xs ys out h = linear_sum (selected ss) (map_linear (λ r. map (λ s. value s r) ss)) (xs 0) (ys 0)
op_two (Kind.filter c) t xs ys out h = linear_sum (kept c) (filter_linear (holds c)) (xs 0) (ys 0)
op_two (Kind.join ps) t xs ys out h = let a = h 0 1 (omega arith) (omega arith) (project (left_columns ps)) (project (right_columns ps)) refl refl in paired_cut ps (xs 0) (ys 0) (xs 1) (ys 1) a.0 a.1
op_two (Kind.lookup ps) t xs ys out h = lookup_two ps xs ys h
op_two (Kind.group ks as') t xs ys out h = grouped_cut ks as' (xs 0) (ys 0) (h 0 0 (omega arith) (omega arith) (project ks) (project ks) refl refl).0
op_two (Kind.gate n) t xs ys zero h = cond_sum (nat_lt (last t.counters) n) (xs 0) (ys 0)
op_two (Kind.gate n) t xs ys (suc out) h = cond_sum (nat_eq (last t.counters) n) (xs 0) (ys 0)
op_two (Kind.unseen n) t xs ys zero h = ≈-trans (cond_same (nat_lt (last t.counters) n) _ _ (unseen_two n xs ys h)) (cond_sum (nat_lt (last t.counters) n) (only_left (xs 0) (xs 1)) (only_left (ys 0) (ys 1)))
op_two (Kind.unseen n) t xs ys (suc out) h = unseen_two n xs ys h
op_two (Kind.hold n) t xs ys zero h = cond_sum (nat_lt (last t.counters) n) (xs 0) (ys 0)
op_two (Kind.hold n) t xs ys (suc out) h = cond_sum (nat_lt (last t.counters + 1) n) (xs 0) (ys 0)

-- ---- any number of parts

joined_left : (f g : Record → Record) (parts : ℕ → List Record) (ys : List Record) (n : ℕ) → ((i : ℕ) → i < n → HasNoCommonKey f g (parts i) ys) → HasNoCommonKey f g (end_to_end parts n) ys
joined_left f g parts ys zero h = record { never = λ k a b. omega arith }
joined_left f g parts ys (suc n) h = record { never = λ k a b. go k b (key_in f k (end_to_end parts n) (parts n) a) (joined_left f g parts ys n (λ i l. h i (omega arith))) }
  where
    go : (k : Record) → 0 < count k (map g ys) → (0 < count k (map f (end_to_end parts n))) ⊎ (0 < count k (map f (parts n))) → HasNoCommonKey f g (end_to_end parts n) ys → ⊥
    go k b (inl a) ih = ih.never k a b
    go k b (inr a) ih = (h n (omega arith)).never k a b

apart_flip : (f g : Record → Record) (xs ys : List Record) → HasNoCommonKey f g xs ys → HasNoCommonKey g f ys xs
apart_flip f g xs ys h = record { never = λ k a b. h.never k b a }

pub op_cut : (kind : Kind) (t : Time) (parts : ℕ → ℕ → List Record) (n : ℕ) (out : ℕ) → IsCut kind parts n → op kind t (λ p. end_to_end (λ w. parts w p) n) out ≈ end_to_end (λ w. op kind t (parts w) out) n
op_cut kind t parts zero out h = ≈-from (op_nothing kind t out)
op_cut kind t parts (suc n) out h =
    ≈-trans (op_two kind t (λ p. end_to_end (λ w. parts w p) n) (parts n) out (λ p q lp lq f g e k. (
      joined_left f g (λ w. parts w p) (parts n q) n (λ i l. h.apart i n (omega arith) (omega arith) (λ z. omega arith) p q lp lq f g e k),
      apart_flip g f (end_to_end (λ w. parts w q) n) (parts n p) (joined_left g f (λ w. parts w q) (parts n p) n (λ i l. h.apart i n (omega arith) (omega arith) (λ z. omega arith) q p lq lp g f k e)),
    )))
    (append_same _ _ _ (op kind t (parts n) out) (op_cut kind t parts n out (record { apart = λ i j a b. h.apart i j (omega arith) (omega arith) })) (≈-refl (op kind t (parts n) out)))

pub op_parts : (kind : Kind) (t : Time) (ins : ℕ → List Record) (parts : ℕ → ℕ → List Record) (n : ℕ) (out : ℕ) → IsSum kind ins parts n → IsCut kind parts n → op kind t ins out ≈ end_to_end (λ w. op kind t (parts w) out) n
op_parts kind t ins parts n out s h = ≈-trans (op_same kind t ins (λ p. end_to_end (λ w. parts w p) n) out s.sums) (op_cut kind t parts n out h)
