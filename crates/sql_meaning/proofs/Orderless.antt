-- Whatever order a database keeps rows in, its answers are the multisets that the script means.
use Rattle.std.proofs.Common.{◌≡◌, ℕ, nat_eq, Bool, true, false, cond, List, [], ◌∷◌, map, filter, length, slice_index_or, zero, suc, refl, ap, subst, ◌∙◌}
use Rattle.semantics.specs.Multiset.{Record, ◌≈◌, each_once}
use Rattle.semantics.specs.Meaning.{project, Found, only_left}
use Rattle.semantics.specs.Query.{Agg, Pair}
use Rattle.semantics.proofs.MultisetSums.{≈-sym, ≈-trans, ≈-from, append_same, linear_same, map_linear, filter_linear}
use Rattle.semantics.proofs.ExceptAndIntersect.{only_left_same, in_both_same}
use Rattle.semantics.proofs.KeyedParts.{paired_same}
use Rattle.semantics.proofs.DistinctAndGroups.{grouped_same, distinct_same}
use Rattle.sql_meaning.specs.Script.{Table, Aggregate, Term, Query, Script}
use Rattle.sql_meaning.specs.ScriptMeaning.{Contents, joined_rows, term_rows, found_by, rows_of, with_table, contents, answers, evaluated, is_true, group_row}
use Rattle.sql_meaning.specs.Translation.{aggregate_of}
use Rattle.sql_meaning.specs.AnyOrder.{MayHold, MayAnswer}
use Rattle.sql_meaning.proofs.Forms.{join-paired, group-grouped}

-- each aggregate of SQL is one of the query language
agg_of : Aggregate → Agg
agg_of Aggregate.wrapped_count = Agg.count
agg_of (Aggregate.wrapped_sum c) = Agg.sum c
agg_of (Aggregate.least c) = Agg.min c
agg_of (Aggregate.greatest c) = Agg.max c

there_and_back : (a : Aggregate) → aggregate_of (agg_of a) ≡ a
unfolding agg_of
there_and_back Aggregate.wrapped_count = refl
there_and_back (Aggregate.wrapped_sum c) = refl
there_and_back (Aggregate.least c) = refl
there_and_back (Aggregate.greatest c) = refl

all_back : (as' : List Aggregate) → map aggregate_of (map agg_of as') ≡ as'
all_back [] = refl
all_back (a ∷ as') = ap (λ z. z ∷ map aggregate_of (map agg_of as')) (there_and_back a) ∙ ap (λ z. a ∷ z) (all_back as')

group_same : (ks : List ℕ) (as' : List Aggregate) (xs ys : List Record) → xs ≈ ys → map (group_row ks as' xs) (each_once (map (project ks) xs)) ≈ map (group_row ks as' ys) (each_once (map (project ks) ys))
group_same ks as' xs ys h =
    subst (λ bs. map (group_row ks bs xs) (each_once (map (project ks) xs)) ≈ map (group_row ks bs ys) (each_once (map (project ks) ys))) (all_back as')
    (≈-trans (≈-from (group-grouped ks (map agg_of as') xs)) (≈-trans (grouped_same ks (map agg_of as') xs ys h) (≈-sym (≈-from (group-grouped ks (map agg_of as') ys)))))

join_same : (ps : List Pair) (xs xs' ys ys' : List Record) → xs ≈ xs' → ys ≈ ys' → joined_rows ps xs ys ≈ joined_rows ps xs' ys'
join_same ps xs xs' ys ys' h k = ≈-trans (≈-from (join-paired ps xs ys)) (≈-trans (paired_same ps xs xs' ys ys' h k) (≈-sym (≈-from (join-paired ps xs' ys'))))

-- ---- recursive tables

term_same : (m : Term) (a b : Contents) → ((t : Table) → a t ≈ b t) → (xs ys : List Record) → xs ≈ ys → term_rows m a xs ≈ term_rows m b ys
term_same Term.latest a b h xs ys e = e
term_same (Term.select es m) a b h xs ys e =
    linear_same (map (λ r. map (λ e. evaluated e r) es)) (map_linear (λ r. map (λ e. evaluated e r) es)) (term_rows m a xs) (term_rows m b ys) (term_same m a b h xs ys e)
term_same (Term.select_where m c) a b h xs ys e = linear_same (filter (is_true c)) (filter_linear (is_true c)) (term_rows m a xs) (term_rows m b ys) (term_same m a b h xs ys e)
term_same (Term.join_left m t ps) a b h xs ys e = join_same ps (term_rows m a xs) (term_rows m b ys) (a t) (b t) (term_same m a b h xs ys e) (h t)
term_same (Term.join_right t m ps) a b h xs ys e = join_same ps (a t) (b t) (term_rows m a xs) (term_rows m b ys) (h t) (term_same m a b h xs ys e)

record SameFound (s t : Found) : Type 0 where
  all : s.all ≈ t.all
  latest : s.latest ≈ t.latest

found_same : (f g : List Record → List Record) → ((xs ys : List Record) → xs ≈ ys → f xs ≈ g ys) → (n : ℕ) (xs ys : List Record) → xs ≈ ys → SameFound (found_by f n xs) (found_by g n ys)
found_same f g h zero xs ys e = record { all = distinct_same xs ys e; latest = distinct_same xs ys e }
found_same f g h (suc n) xs ys e =
    let s = found_by f n xs in
    let t = found_by g n ys in
    let before = found_same f g h n xs ys e in
    let new = only_left_same (f s.latest) (g t.latest) s.all t.all (h s.latest t.latest before.latest) before.all in
    record { all = append_same s.all t.all (only_left (f s.latest) s.all) (only_left (g t.latest) t.all) before.all new; latest = new }

-- the rows of a query depend only on the multisets that the tables hold
rows_same : (q : Query) (a b : Contents) → ((t : Table) → a t ≈ b t) → rows_of q a ≈ rows_of q b
unfolding rows_of
rows_same (Query.select es t) a b h = linear_same (map (λ r. map (λ e. evaluated e r) es)) (map_linear (λ r. map (λ e. evaluated e r) es)) (a t) (b t) (h t)
rows_same (Query.select_where t c) a b h = linear_same (filter (is_true c)) (filter_linear (is_true c)) (a t) (b t) (h t)
rows_same (Query.select_join t u ps) a b h = join_same ps (a t) (b t) (a u) (b u) (h t) (h u)
rows_same (Query.select_group ks as' t) a b h = group_same ks as' (a t) (b t) (h t)
rows_same (Query.select_distinct t) a b h = distinct_same (a t) (b t) (h t)
rows_same (Query.union_all t u) a b h = append_same (a t) (b t) (a u) (b u) (h t) (h u)
rows_same (Query.except t u) a b h = only_left_same (a t) (b t) (a u) (b u) (h t) (h u)
rows_same (Query.intersect t u) a b h = in_both_same (a t) (b t) (a u) (b u) (h t) (h u)
rows_same (Query.recursive n t m) a b h = (found_same (term_rows m a) (term_rows m b) (term_same m a b h) n (a t) (b t) (h t)).all

table_same : (n : ℕ) (xs ys : List Record) (a b : Contents) → xs ≈ ys → ((t : Table) → a t ≈ b t) → (t : Table) → with_table n xs a t ≈ with_table n ys b t
table_same n xs ys a b e h (Table.given i) = h (Table.given i)
table_same n xs ys a b e h (Table.made m) = by (nat_eq m n)
  where
    by : (c : Bool) → cond c xs (a (Table.made m)) ≈ cond c ys (b (Table.made m))
    by true = e
    by false = h (Table.made m)

held_same : (qs : List Query) (tables : List (List Record)) (holds : Contents) → MayHold qs tables holds → (t : Table) → holds t ≈ contents qs tables t
held_same [] tables holds m t = m t
held_same (q ∷ earlier) tables holds m t =
    let ih = held_same earlier tables m.0 m.2 in
    ≈-trans (≈-from (m.4 t)) (table_same (length earlier) m.1 (rows_of q (contents earlier tables)) m.0 (contents earlier tables) (≈-trans m.3 (rows_same q m.0 (contents earlier tables) ih)) ih t)

nth_same : (a b : Contents) → ((t : Table) → a t ≈ b t) → (ts : List Table) (k : ℕ) → slice_index_or (map a ts) k [] ≈ slice_index_or (map b ts) k []
nth_same a b h [] k = ≈-from refl
nth_same a b h (t ∷ ts) zero = h t
nth_same a b h (t ∷ ts) (suc k) = nth_same a b h ts k

pub any_order : (s : Script) (tables : List (List Record)) (output : ℕ) (rows : List Record) → MayAnswer s tables output rows → rows ≈ slice_index_or (answers s tables) output []
any_order s tables k rows m = ≈-trans m.2 (nth_same m.0 (contents s.tables tables) (held_same s.tables tables m.0 m.1) s.results k)
