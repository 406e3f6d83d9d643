-- A meaning depends only on the multisets that the names mean.
use Rattle.std.proofs.Common.{ℕ, zero, suc, List, [], ◌∷◌, true, false, Bool, cond, map, slice_index_or}
use Rattle.semantics.specs.Multiset.{Record, ◌≈◌}
use Rattle.semantics.specs.Query.{Scalar, Cond, Name, Loop, Rel, Input, Let, Output, Program}
use Rattle.semantics.specs.Time.{at_epoch}
use Rattle.semantics.specs.Kinds.{Kind}
use Rattle.semantics.specs.Op.{op}
use Rattle.semantics.specs.Meaning.{selected, kept, only_left, meaning, Names, bind, repeated, found_first, found_next, after_turns, same_name, input_names, let_names, program_meaning}
use Rattle.semantics.proofs.MultisetSums.{append_same, ≈-refl}
use Rattle.semantics.proofs.ExceptAndIntersect.{only_left_same, in_both_same}
use Rattle.semantics.proofs.KeyedParts.{paired_same}
use Rattle.semantics.proofs.OneFlow.{op_same}
use Rattle.semantics.proofs.DistinctAndGroups.{distinct_same}

abbrev Alike : Names → Names → Type 0
Alike a b = (x : Name) → a x ≈ b x

bind_same : (x : Name) (xs ys : List Record) (a b : Names) → xs ≈ ys → Alike a b → Alike (bind x xs a) (bind x ys b)
bind_same x xs ys a b e h y = by (same_name x y)
  where
    by : (c : Bool) → cond c xs (a y) ≈ cond c ys (b y)
    by true = e
    by false = h y

turns_same : (f g : List Record → List Record) → ((xs ys : List Record) → xs ≈ ys → f xs ≈ g ys) → (n : ℕ) (xs ys : List Record) → xs ≈ ys → repeated f n xs ≈ repeated g n ys
turns_same f g h zero xs ys e = e
turns_same f g h (suc n) xs ys e = h (repeated f n xs) (repeated g n ys) (turns_same f g h n xs ys e)

found_same : (f g : List Record → List Record) → ((xs ys : List Record) → xs ≈ ys → f xs ≈ g ys) → (n : ℕ) (xs ys : List Record) → xs ≈ ys
    → ((repeated (found_next f) n (found_first xs)).all ≈ (repeated (found_next g) n (found_first ys)).all) × ((repeated (found_next f) n (found_first xs)).latest ≈ (repeated (found_next g) n (found_first ys)).latest)
found_same f g h zero xs ys e = (distinct_same xs ys e, distinct_same xs ys e)
found_same f g h (suc n) xs ys e =
    let s = repeated (found_next f) n (found_first xs) in
    let t = repeated (found_next g) n (found_first ys) in
    let ih = found_same f g h n xs ys e in
    let new : only_left (f s.latest) s.all ≈ only_left (g t.latest) t.all = only_left_same (f s.latest) (g t.latest) s.all t.all (h s.latest t.latest ih.1) ih.0 in
    (append_same s.all t.all (only_left (f s.latest) s.all) (only_left (g t.latest) t.all) ih.0 new, new)

loops_same : (l : Loop) (f g : List Record → List Record) → ((xs ys : List Record) → xs ≈ ys → f xs ≈ g ys) → (n : ℕ) (xs ys : List Record) → xs ≈ ys → after_turns l f n xs ≈ after_turns l g n ys
loops_same Loop.iterate f g h n xs ys e = turns_same f g h n xs ys e
loops_same Loop.closure f g h n xs ys e = (found_same f g h n xs ys e).0

by_op : (kind : Kind) (xs ys : List Record) → xs ≈ ys → op kind (at_epoch 0) (λ i. xs) 0 ≈ op kind (at_epoch 0) (λ i. ys) 0
by_op kind xs ys e = op_same kind (at_epoch 0) (λ i. xs) (λ i. ys) 0 (λ i l. e)

pub meaning_same : (r : Rel) (a b : Names) → Alike a b → meaning r a ≈ meaning r b
unfolding meaning
meaning_same (Rel.named x) a b h = h x
meaning_same (Rel.select r ss) a b h = by_op (Kind.select ss) (meaning r a) (meaning r b) (meaning_same r a b h)
meaning_same (Rel.filter r c) a b h = by_op (Kind.filter c) (meaning r a) (meaning r b) (meaning_same r a b h)
meaning_same (Rel.concat p q) a b h = append_same (meaning p a) (meaning p b) (meaning q a) (meaning q b) (meaning_same p a b h) (meaning_same q a b h)
meaning_same (Rel.join p q ps) a b h = paired_same ps (meaning p a) (meaning p b) (meaning q a) (meaning q b) (meaning_same p a b h) (meaning_same q a b h)
meaning_same (Rel.group r ks as') a b h = by_op (Kind.group ks as') (meaning r a) (meaning r b) (meaning_same r a b h)
meaning_same (Rel.distinct r) a b h = by_op Kind.distinct (meaning r a) (meaning r b) (meaning_same r a b h)
meaning_same (Rel.except p q) a b h = only_left_same (meaning p a) (meaning p b) (meaning q a) (meaning q b) (meaning_same p a b h) (meaning_same q a b h)
meaning_same (Rel.intersect p q) a b h = in_both_same (meaning p a) (meaning p b) (meaning q a) (meaning q b) (meaning_same p a b h) (meaning_same q a b h)
meaning_same (Rel.loop l n x r body) a b h =
    loops_same l (λ xs. meaning body (bind x xs a)) (λ xs. meaning body (bind x xs b)) (λ xs ys e. meaning_same body (bind x xs a) (bind x ys b) (bind_same x xs ys a b e h)) n (meaning r a) (meaning r b) (meaning_same r a b h)

input_same : (as' : List Input) (i : ℕ) (xs ys : ℕ → List Record) → ((i : ℕ) → xs i ≈ ys i) → Alike (input_names as' i xs) (input_names as' i ys)
input_same [] i xs ys h x = ≈-refl []
input_same (a ∷ as') i xs ys h y = bind_same a.name (xs i) (ys i) (input_names as' (suc i) xs) (input_names as' (suc i) ys) (h i) (input_same as' (suc i) xs ys h) y

let_same : (as' : List Let) (a b : Names) → Alike a b → Alike (let_names as' a) (let_names as' b)
unfolding let_names
let_same [] a b h = h
let_same (l ∷ as') a b h = let_same as' (bind l.name (meaning l.value a) a) (bind l.name (meaning l.value b) b) (bind_same l.name (meaning l.value a) (meaning l.value b) a b (meaning_same l.value a b h) h)

output_same : (os : List Output) (a b : Names) → Alike a b → (k : ℕ) → slice_index_or (map (λ (o : Output). meaning o.value a) os) k [] ≈ slice_index_or (map (λ (o : Output). meaning o.value b) os) k []
output_same [] a b h k = ≈-refl []
output_same (o ∷ os) a b h zero = meaning_same o.value a b h
output_same (o ∷ os) a b h (suc k) = output_same os a b h k

pub program_same : (p : Program) (output : ℕ) (xs ys : ℕ → List Record) → ((i : ℕ) → xs i ≈ ys i) → program_meaning p output xs ≈ program_meaning p output ys
unfolding program_meaning
program_same p output xs ys h = output_same p.outputs _ _ (let_same p.lets _ _ (input_same p.inputs 0 xs ys h)) output

-- ---- the forms of one relation

pub selected_same : (ss : List Scalar) (xs ys : List Record) → xs ≈ ys → selected ss xs ≈ selected ss ys
selected_same ss xs ys e = by_op (Kind.select ss) xs ys e

pub kept_same : (c : Cond) (xs ys : List Record) → xs ≈ ys → kept c xs ≈ kept c ys
kept_same c xs ys e = by_op (Kind.filter c) xs ys e
