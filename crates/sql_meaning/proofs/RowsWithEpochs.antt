-- Rows with epochs stay rows with epochs.
use Rattle.std.proofs.Common.{ℕ, ◌≤◌, nat_eq, Bool, true, false, cond, not, ◌&&◌, List, [], ◌∷◌, ◌++◌, map, filter, length, slice_index_or, zero, suc, arith}
use Rattle.std.specs.List.{AllByRecursion}
use Rattle.std.specs.Ordering.{int_eq}
use Rattle.semantics.specs.Meaning.{Found, only_left}
use Rattle.semantics.specs.Multiset.{Record, same, is_present, each_once}
use Rattle.semantics.specs.Query.{Pair}
use Rattle.sql_meaning.specs.Script.{Table, Term, Query}
use Rattle.sql_meaning.specs.ScriptMeaning.{evaluated, is_true, row_pairs, is_joined, aggregated, Contents, found_by, rows_of}
use Rattle.sql_meaning.specs.Epochs.{epoch_of, fields_of, HaveEpochs, epoch_and, group_row_by_epoch, term_rows_by_epoch, rows_by_epoch, contents_by_epoch}
use Rattle.sql_meaning.proofs.Forms.{filter-append, map-append}

abbrev pub HasEpoch : Record → Type 0
HasEpoch r = 1 ≤ length r

pub have_append : (xs ys : List Record) → HaveEpochs xs → HaveEpochs ys → HaveEpochs (xs ++ ys)
have_append [] ys h k = k
have_append (x ∷ xs) ys h k = (h.0, have_append xs ys h.1 k)

pub have_filter : (p : Record → Bool) (xs : List Record) → HaveEpochs xs → HaveEpochs (filter p xs)
have_filter p [] h = tt
have_filter p (x ∷ xs) h = by (p x) (have_filter p xs h.1)
  where
    by : (b : Bool) → HaveEpochs (filter p xs) → HaveEpochs (cond b (x ∷ filter p xs) (filter p xs))
    by true ih = (h.0, ih)
    by false ih = ih

pub have_once : (xs : List Record) → HaveEpochs xs → HaveEpochs (each_once xs)
have_once [] h = tt
have_once (x ∷ xs) h = by (is_present x xs) (have_once xs h.1)
  where
    by : (b : Bool) → HaveEpochs (each_once xs) → HaveEpochs (cond b (each_once xs) (x ∷ each_once xs))
    by true ih = ih
    by false ih = (h.0, ih)

pub have_map : (f : Record → Record) → ((r : Record) → HasEpoch r → HasEpoch (f r)) → (xs : List Record) → HaveEpochs xs → HaveEpochs (map f xs)
have_map f k [] h = tt
have_map f k (x ∷ xs) h = (k x h.0, have_map f k xs h.1)

pub appended_has : (a b : Record) → HasEpoch a → HasEpoch (a ++ b)
appended_has [] b h = absurd (omega arith)
appended_has (z ∷ a) b h = omega arith

abbrev pub agrees : List Pair → Record × Record → Bool
agrees ps x = int_eq (epoch_of x.0) (epoch_of x.1) && is_joined ps (fields_of x.0) (fields_of x.1)

abbrev pub beside : Record × Record → Record
beside x = x.0 ++ fields_of x.1

pub mapped_have : (ks : List ℕ) (xs : List Record) → HaveEpochs xs → HaveEpochs (map (epoch_and ks) xs)
mapped_have ks xs h = have_map (epoch_and ks) (λ r k. omega arith) xs h

pub keys_have : (ks : List ℕ) (xs : List Record) → HaveEpochs xs → HaveEpochs (each_once (map (epoch_and ks) xs))
keys_have ks xs h = have_once (map (epoch_and ks) xs) (mapped_have ks xs h)

abbrev pub HoldEpochs : Contents → Type 0
HoldEpochs holds = (t : Table) → HaveEpochs (holds t)

pub joined_have : (ps : List Pair) (xs : List Record) → HaveEpochs xs → (ys : List Record) → HaveEpochs (map beside (filter (agrees ps) (row_pairs xs ys)))
joined_have ps [] h ys = tt
joined_have ps (x ∷ xs) h ys =
    let ih = joined_have ps xs h.1 ys in
    rw (filter-append (agrees ps) (map (λ b. (x, b)) ys) (row_pairs xs ys), map-append beside (filter (agrees ps) (map (λ b. (x, b)) ys)) (filter (agrees ps) (row_pairs xs ys)))
    (have_append (map beside (filter (agrees ps) (map (λ b. (x, b)) ys))) (map beside (filter (agrees ps) (row_pairs xs ys))) (one_has ys) ih)
  where
    one_has : (us : List Record) → HaveEpochs (map beside (filter (agrees ps) (map (λ b. (x, b)) us)))
    one_has [] = tt
    one_has (u ∷ us) = by (agrees ps (x, u)) (one_has us)
      where
        rest : List (Record × Record)
        rest = filter (agrees ps) (map (λ b. (x, b)) us)

        by : (c : Bool) → HaveEpochs (map beside rest) → HaveEpochs (map beside (cond c ((x, u) ∷ rest) rest))
        by true i = (appended_has x (fields_of u) h.0, i)
        by false i = i

-- ---- recursive tables

pub term_have : (m : Term) (holds : Contents) → HoldEpochs holds → (xs : List Record) → HaveEpochs xs → HaveEpochs (term_rows_by_epoch m holds xs)
term_have Term.latest holds h xs k = k
term_have (Term.select es m) holds h xs k =
    have_map (λ r. epoch_of r ∷ map (λ x. evaluated x (fields_of r)) es) (λ r l. omega arith) (term_rows_by_epoch m holds xs) (term_have m holds h xs k)
term_have (Term.select_where m c) holds h xs k = have_filter (λ r. is_true c (fields_of r)) (term_rows_by_epoch m holds xs) (term_have m holds h xs k)
term_have (Term.join_left m t ps) holds h xs k = joined_have ps (term_rows_by_epoch m holds xs) (term_have m holds h xs k) (holds t)
term_have (Term.join_right t m ps) holds h xs k = joined_have ps (holds t) (h t) (term_rows_by_epoch m holds xs)

pub left_have : (xs ys : List Record) → HaveEpochs xs → HaveEpochs (only_left xs ys)
left_have xs ys h = have_once (filter (λ r. not (is_present r ys)) xs) (have_filter (λ r. not (is_present r ys)) xs h)

pub record FoundHave (s : Found) : Type 0 where
  pub all : HaveEpochs s.all
  pub latest : HaveEpochs s.latest

pub found_have : (f : List Record → List Record) → ((xs : List Record) → HaveEpochs xs → HaveEpochs (f xs)) → (n : ℕ) (xs : List Record) → HaveEpochs xs → FoundHave (found_by f n xs)
found_have f k zero xs h = record { all = have_once xs h; latest = have_once xs h }
found_have f k (suc n) xs h =
    let s = found_by f n xs in
    let before = found_have f k n xs h in
    let new = left_have (f s.latest) s.all (k s.latest before.latest) in
    record { all = have_append s.all (only_left (f s.latest) s.all) before.all new; latest = new }

pub rows_have : (q : Query) (holds : Contents) → HoldEpochs holds → HaveEpochs (rows_by_epoch q holds)
unfolding rows_by_epoch rows_of
rows_have (Query.select es t) holds h = have_map (λ r. epoch_of r ∷ map (λ x. evaluated x (fields_of r)) es) (λ r k. omega arith) (holds t) (h t)
rows_have (Query.select_where t c) holds h = have_filter (λ r. is_true c (fields_of r)) (holds t) (h t)
rows_have (Query.select_join t u ps) holds h = joined_have ps (holds t) (h t) (holds u)
rows_have (Query.select_group ks as' t) holds h =
    have_map (group_row_by_epoch ks as' (holds t)) (λ key k. appended_has key (map (λ a. aggregated a (map fields_of (filter (λ r. same (epoch_and ks r) key) (holds t)))) as') k) (each_once (map (epoch_and ks) (holds t))) (keys_have ks (holds t) (h t))
rows_have (Query.select_distinct t) holds h = have_once (holds t) (h t)
rows_have (Query.union_all t u) holds h = have_append (holds t) (holds u) (h t) (h u)
rows_have (Query.except t u) holds h = have_once (filter (λ r. not (is_present r (holds u))) (holds t)) (have_filter (λ r. not (is_present r (holds u))) (holds t) (h t))
rows_have (Query.intersect t u) holds h = have_once (filter (λ r. is_present r (holds u)) (holds t)) (have_filter (λ r. is_present r (holds u)) (holds t) (h t))
rows_have (Query.recursive n t m) holds h = (found_have (term_rows_by_epoch m holds) (term_have m holds h) n (holds t) (h t)).all

pub given_have : (tables : List (List Record)) → AllByRecursion HaveEpochs tables → (i : ℕ) → HaveEpochs (slice_index_or tables i [])
given_have [] h i = tt
given_have (t ∷ ts) h zero = h.0
given_have (t ∷ ts) h (suc i) = given_have ts h.1 i

module _ (tables : List (List Record)) (h : AllByRecursion HaveEpochs tables) where
  pub contents_have : (qs : List Query) → HoldEpochs (contents_by_epoch qs tables)
  contents_have [] (Table.given i) = given_have tables h i
  contents_have [] (Table.made n) = tt
  contents_have (q ∷ earlier) (Table.given i) = contents_have earlier (Table.given i)
  contents_have (q ∷ earlier) (Table.made n) = by (nat_eq n (length earlier)) (rows_have q (contents_by_epoch earlier tables) (contents_have earlier)) (contents_have earlier (Table.made n))
    where
      by : (b : Bool) → HaveEpochs (rows_by_epoch q (contents_by_epoch earlier tables)) → HaveEpochs (contents_by_epoch earlier tables (Table.made n)) →
          HaveEpochs (cond b (rows_by_epoch q (contents_by_epoch earlier tables)) (contents_by_epoch earlier tables (Table.made n)))
      by true a b = a
      by false a b = b
