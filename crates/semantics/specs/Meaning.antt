-- What scalars, conditions, relations and programs mean. The forms have the meanings of LINQ's Enumerable, on multisets: without order, and with sums
-- that wrap at 64 bits. There are no times, graphs or messages here.
use Rattle.std.specs.Prelude.{ℕ, zero, suc, Bool, cond, not, ◌&&◌, ◌||◌, List, [], ◌∷◌, ◌++◌, map}
use Rattle.std.specs.Prelude.{filter, flat_map, ℤ, pos, ◌+ℤ◌, ◌-ℤ◌, ◌*ℤ◌, neg_ℤ, slice_index_or, nat_eq}
use Rattle.std.specs.Cmp.Lexicographic.{pointwise}
use Rattle.std.specs.Ordering.{int_eq}
use Rattle.std.specs.Int.RustNames.{int_lt, int_le}
use Rattle.std.specs.Int.{int_wrap, int_min, int_max}
use mir.Syntax.{w64}
use Rattle.semantics.specs.Multiset.{Record, same, total, is_present, each_once}
use Rattle.semantics.specs.Query.{Scalar, Comparison, Cond, Agg, Name, Pair, Loop, Rel, Input, Let, Output, Program}

-- a field by its number
abbrev pub field : ℕ → Record → ℤ
field c r = slice_index_or r c (pos 0)

-- the value as an unbounded whole number
abbrev pub exact : Scalar → Record → ℤ
exact (Scalar.column c) r = field c r
exact (Scalar.literal z) r = z
exact (Scalar.plus s t) r = exact s r +ℤ exact t r
exact (Scalar.minus s t) r = exact s r -ℤ exact t r
exact (Scalar.times s t) r = exact s r *ℤ exact t r
exact (Scalar.negation s) r = neg_ℤ (exact s r)

-- the value, wrapped to 64 bits
abbrev pub value : Scalar → Record → ℤ
value s r = int_wrap w64 (exact s r)

-- the result of a comparison
abbrev pub compares : Comparison → ℤ → ℤ → Bool
compares Comparison.equal a b = int_eq a b
compares Comparison.not_equal a b = not (int_eq a b)
compares Comparison.less a b = int_lt a b
compares Comparison.at_most a b = int_le a b
compares Comparison.greater a b = int_lt b a
compares Comparison.at_least a b = int_le b a

-- the condition is true of the record
abbrev pub holds : Cond → Record → Bool
holds (Cond.compare c s t) r = compares c (value s r) (value t r)
holds (Cond.conjunction c d) r = holds c r && holds d r
holds (Cond.disjunction c d) r = holds c r || holds d r
holds (Cond.negation c) r = not (holds c r)

-- those columns, in that order
abbrev pub project : List ℕ → Record → Record
project cs r = map (λ c. field c r) cs

-- a fold from the last record to the first
abbrev pub folded : {B : Type 0} → (Record → B → B) → B → List Record → B
folded f b [] = b
folded f b (x ∷ xs) = f x (folded f b xs)

-- z and the numbers after it, combined by f
abbrev pub reduced_from : (ℤ → ℤ → ℤ) → ℤ → List ℤ → ℤ
reduced_from f z [] = z
reduced_from f z (w ∷ ws) = f z (reduced_from f w ws)

-- the numbers combined by f without a start value; 0 if there are none
abbrev pub reduced : (ℤ → ℤ → ℤ) → List ℤ → ℤ
reduced f [] = pos 0
reduced f (z ∷ zs) = reduced_from f z zs

-- an aggregate of records, repeats included (LINQ: Count, Sum, Min, Max; here counts and sums wrap at 64 bits)
abbrev pub aggregate : Agg → List Record → ℤ
aggregate Agg.count rs = int_wrap w64 (pos (total (λ r. 1) rs))
aggregate (Agg.sum c) rs = int_wrap w64 (folded (λ r n. field c r +ℤ n) (pos 0) rs)
aggregate (Agg.min c) rs = reduced int_min (map (field c) rs)
aggregate (Agg.max c) rs = reduced int_max (map (field c) rs)

-- ---- the forms, on multisets

-- each record's scalars (LINQ: Select)
abbrev pub selected : List Scalar → List Record → List Record
selected ss xs = map (λ r. map (λ s. value s r) ss) xs

-- the records at which the condition is true (LINQ: Where)
abbrev pub kept : Cond → List Record → List Record
kept c xs = filter (holds c) xs

-- the left columns of pairs
abbrev pub left_columns : List Pair → List ℕ
left_columns ps = map (λ p. p.left) ps

-- the right columns of pairs
abbrev pub right_columns : List Pair → List ℕ
right_columns ps = map (λ p. p.right) ps

-- each a with each b that agrees with it in the columns of all pairs, with a's fields first (LINQ: Join)
abbrev pub paired : List Pair → List Record → List Record → List Record
paired ps xs ys = flat_map (λ a. map (λ b. a ++ b) (filter (λ b. same (project (left_columns ps) a) (project (right_columns ps) b)) ys)) xs

-- the records with that key
abbrev pub with_key : List ℕ → Record → List Record → List Record
with_key ks k xs = filter (λ r. same (project ks r) k) xs

-- one record for each key that is present: the key, then the aggregates of its records (LINQ: GroupBy)
abbrev pub grouped : List ℕ → List Agg → List Record → List Record
grouped ks as' xs = map (λ k. k ++ map (λ a. aggregate a (with_key ks k xs)) as') (each_once (map (project ks) xs))

-- each record that is on the left and not on the right, once (LINQ: Except)
abbrev pub only_left : List Record → List Record → List Record
only_left xs ys = each_once (filter (λ r. not (is_present r ys)) xs)

-- each record that is on both sides, once (LINQ: Intersect)
abbrev pub in_both : List Record → List Record → List Record
in_both xs ys = each_once (filter (λ r. is_present r ys) xs)

-- ---- relations

-- what each name means
abbrev pub Names : Type 0
Names = Name → List Record

-- the names are equal
abbrev pub same_name : Name → Name → Bool
same_name x y = pointwise nat_eq x y

-- x means xs, and the other names what they meant
abbrev pub bind : Name → List Record → Names → Names
bind x xs names y = cond (same_name x y) xs (names y)

-- n times
abbrev pub repeated : {A : Type 0} → (A → A) → ℕ → A → A
repeated f zero a = a
repeated f (suc n) a = f (repeated f n a)

-- what a closure has found so far, and what of it the latest turn found
pub record Found : Type 0 where
  pub all : List Record
  pub latest : List Record

-- before the first turn
abbrev pub found_first : List Record → Found
found_first xs = record { all = each_once xs; latest = each_once xs }

-- a turn finds what it makes of the latest records, without what was found before
abbrev pub found_next : (List Record → List Record) → Found → Found
found_next f s = record { all = s.all ++ only_left (f s.latest) s.all; latest = only_left (f s.latest) s.all }

-- what a loop gives, by what one turn makes of a multiset
abbrev pub after_turns : Loop → (List Record → List Record) → (turns : ℕ) → List Record → List Record
after_turns Loop.iterate f n xs = repeated f n xs
after_turns Loop.closure f n xs = (repeated (found_next f) n (found_first xs)).all

-- what a relation means, given what the names mean
unfoldable pub meaning : Rel → Names → List Record
meaning (Rel.named x) names = names x
meaning (Rel.select r ss) names = selected ss (meaning r names)
meaning (Rel.filter r c) names = kept c (meaning r names)
meaning (Rel.concat p q) names = meaning p names ++ meaning q names
meaning (Rel.join p q ps) names = paired ps (meaning p names) (meaning q names)
meaning (Rel.group r ks as') names = grouped ks as' (meaning r names)
meaning (Rel.distinct r) names = each_once (meaning r names)
meaning (Rel.except p q) names = only_left (meaning p names) (meaning q names)
meaning (Rel.intersect p q) names = in_both (meaning p names) (meaning q names)
meaning (Rel.loop l n x r b) names = after_turns l (λ xs. meaning b (bind x xs names)) n (meaning r names)

-- ---- programs, for the multisets of one epoch

-- each input's name means its records; the first has the number i
abbrev pub input_names : List Input → ℕ → (ℕ → List Record) → Names
input_names [] i records x = []
input_names (a ∷ as') i records x = bind a.name (records i) (input_names as' (suc i) records) x

-- after each let, its name means its relation
unfoldable pub let_names : List Let → Names → Names
let_names [] names = names
let_names (a ∷ as') names = let_names as' (bind a.name (meaning a.value names) names)

-- what a program means at each output, by its place, on the records of its inputs; nothing beyond the last output
unfoldable pub program_meaning : Program → (output : ℕ) → (ℕ → List Record) → List Record
program_meaning p k records =
    let names = let_names p.lets (input_names p.inputs 0 records) in
    slice_index_or (map (λ (o : Output). meaning o.value names) p.outputs) k []
