-- Scripts of all epochs at once: the first column of each table is the epoch. What such a script means on given tables.
use Rattle.std.specs.Prelude.{ℕ, ◌≤◌, ◌&&◌, List, [], ◌∷◌, ◌++◌, map, filter, length, ℤ}
use Rattle.std.specs.List.{AllByRecursion}
use Rattle.std.specs.Ordering.{int_eq}
use Rattle.semantics.specs.Multiset.{Record, same, each_once}
use Rattle.semantics.specs.Meaning.{field, project}
use Rattle.semantics.specs.Query.{Pair}
use Rattle.sql_meaning.specs.Script.{Aggregate, Term, Query, Script}
use Rattle.sql_meaning.specs.ScriptMeaning.{evaluated, is_true, row_pairs, is_joined, aggregated, Contents, found_by, rows_of, with_table, only_given}

-- the epoch of a row
abbrev pub epoch_of : Record → ℤ
epoch_of r = field 0 r

-- its fields, without the epoch
abbrev pub fields_of : Record → Record
fields_of [] = []
fields_of (z ∷ r) = r

-- each row has an epoch
abbrev pub HaveEpochs : List Record → Type 0
HaveEpochs rows = AllByRecursion (λ (r : Record). 1 ≤ length r) rows

-- the rows of an epoch, without it
abbrev pub rows_at : ℤ → List Record → List Record
rows_at e rows = map fields_of (filter (λ r. int_eq (epoch_of r) e) rows)

-- the epoch and those columns
abbrev pub epoch_and : List ℕ → Record → Record
epoch_and ks r = epoch_of r ∷ project ks (fields_of r)

-- the row of a group, as `group_row`, of which each epoch has its own
abbrev pub group_row_by_epoch : List ℕ → List Aggregate → List Record → Record → Record
group_row_by_epoch ks as' rows key = key ++ map (λ a. aggregated a (map fields_of (filter (λ r. same (epoch_and ks r) key) rows))) as'

-- l INNER JOIN r USING (epoch) WHERE l.i = r.j AND ..
abbrev pub joined_by_epoch : List Pair → List Record → List Record → List Record
joined_by_epoch ps xs ys =
    map (λ (x : Record × Record). x.0 ++ fields_of x.1)
    (filter (λ (x : Record × Record). int_eq (epoch_of x.0) (epoch_of x.1) && is_joined ps (fields_of x.0) (fields_of x.1)) (row_pairs xs ys))

-- the rows of a recursive term, by the rows that the turn before found
abbrev pub term_rows_by_epoch : Term → Contents → List Record → List Record
term_rows_by_epoch Term.latest holds xs = xs
term_rows_by_epoch (Term.select es m) holds xs = map (λ r. epoch_of r ∷ map (λ e. evaluated e (fields_of r)) es) (term_rows_by_epoch m holds xs)
term_rows_by_epoch (Term.select_where m c) holds xs = filter (λ r. is_true c (fields_of r)) (term_rows_by_epoch m holds xs)
term_rows_by_epoch (Term.join_left m t ps) holds xs = joined_by_epoch ps (term_rows_by_epoch m holds xs) (holds t)
term_rows_by_epoch (Term.join_right t m ps) holds xs = joined_by_epoch ps (holds t) (term_rows_by_epoch m holds xs)

-- the rows of a query
unfoldable pub rows_by_epoch : Query → Contents → List Record
-- SELECT epoch, e, .. FROM t
rows_by_epoch (Query.select es t) holds = map (λ r. epoch_of r ∷ map (λ e. evaluated e (fields_of r)) es) (holds t)
-- SELECT * FROM t WHERE c
rows_by_epoch (Query.select_where t c) holds = filter (λ r. is_true c (fields_of r)) (holds t)
-- SELECT * FROM t AS l INNER JOIN u AS r USING (epoch) WHERE l.i = r.j AND ..
rows_by_epoch (Query.select_join t u ps) holds = joined_by_epoch ps (holds t) (holds u)
-- SELECT epoch, k, .., a, .. FROM t GROUP BY epoch, k, ..
rows_by_epoch (Query.select_group ks as' t) holds = map (group_row_by_epoch ks as' (holds t)) (each_once (map (epoch_and ks) (holds t)))
-- the others take rows as they are, and so with their epochs
rows_by_epoch (Query.select_distinct t) holds = rows_of (Query.select_distinct t) holds
rows_by_epoch (Query.union_all t u) holds = rows_of (Query.union_all t u) holds
rows_by_epoch (Query.except t u) holds = rows_of (Query.except t u) holds
rows_by_epoch (Query.intersect t u) holds = rows_of (Query.intersect t u) holds
-- WITH RECURSIVE x AS (SELECT * FROM t UNION term) SELECT * FROM x
rows_by_epoch (Query.recursive n t m) holds = (found_by (term_rows_by_epoch m holds) n (holds t)).all

-- what each table holds after the tables of a script, the latest first; each query reads the tables before it
abbrev pub contents_by_epoch : List Query → List (List Record) → Contents
contents_by_epoch [] tables = only_given tables
contents_by_epoch (q ∷ earlier) tables =
    with_table (length earlier) (rows_by_epoch q (contents_by_epoch earlier tables)) (contents_by_epoch earlier tables)

-- the rows that a script gives for each output
abbrev pub answers_by_epoch : Script → List (List Record) → List (List Record)
answers_by_epoch s tables = map (contents_by_epoch s.tables tables) s.results
