-- What a script means on given tables: for each output a multiset of rows, written as a list.
use Rattle.std.specs.Prelude.{ℕ, Bool, true, cond, not, ◌&&◌, ◌||◌, List, [], ◌∷◌, ◌++◌, map, filter, flat_map, length, nat_eq, ℤ, pos, ◌+ℤ◌, ◌-ℤ◌, ◌*ℤ◌, neg_ℤ, slice_index_or}
use Rattle.std.specs.Ordering.{int_eq}
use Rattle.std.specs.Int.{int_wrap, int_min, int_max}
use mir.Syntax.{w64}
use Rattle.semantics.specs.Multiset.{Record, same, is_present, each_once}
use Rattle.semantics.specs.Meaning.{field, compares, project, repeated, Found, found_first, found_next}
use Rattle.semantics.specs.Query.{Pair}
use Rattle.sql_meaning.specs.Script.{Table, Expression, Search, Aggregate, Term, Query, Script}

-- the value of an expression on a row
abbrev pub evaluated : Expression → Record → ℤ
evaluated (Expression.column c) r = field c r
evaluated (Expression.number z) r = z
evaluated (Expression.sum a b) r = evaluated a r +ℤ evaluated b r
evaluated (Expression.difference a b) r = evaluated a r -ℤ evaluated b r
evaluated (Expression.product a b) r = evaluated a r *ℤ evaluated b r
evaluated (Expression.opposite a) r = neg_ℤ (evaluated a r)
evaluated (Expression.wrapped a) r = int_wrap w64 (evaluated a r)

-- the search condition is true of the row
abbrev pub is_true : Search → Record → Bool
is_true (Search.compare o a b) r = compares o (evaluated a r) (evaluated b r)
is_true (Search.both c d) r = is_true c r && is_true d r
is_true (Search.either c d) r = is_true c r || is_true d r
is_true (Search.no c) r = not (is_true c r)

-- the Cartesian product: each row of one table with each row of the other
abbrev pub row_pairs : List Record → List Record → List (Record × Record)
row_pairs xs ys = flat_map (λ a. map (λ b. (a, b)) ys) xs

-- the join condition l.i = r.j AND ..
abbrev pub is_joined : List Pair → Record → Record → Bool
is_joined [] a b = true
is_joined (p ∷ ps) a b = int_eq (field p.left a) (field p.right b) && is_joined ps a b

-- the values of a column
abbrev pub values : ℕ → List Record → List ℤ
values c rows = map (field c) rows

-- SUM: the numbers added
abbrev pub added : List ℤ → ℤ
added [] = pos 0
added (z ∷ zs) = z +ℤ added zs

-- MIN: the least of z and those after it
abbrev pub least_from : ℤ → List ℤ → ℤ
least_from z [] = z
least_from z (w ∷ ws) = int_min z (least_from w ws)

-- MAX: the greatest of z and those after it
abbrev pub greatest_from : ℤ → List ℤ → ℤ
greatest_from z [] = z
greatest_from z (w ∷ ws) = int_max z (greatest_from w ws)

-- MIN of a group, which has a row
abbrev pub least_of : List ℤ → ℤ
least_of [] = pos 0
least_of (z ∷ zs) = least_from z zs

-- MAX of a group, which has a row
abbrev pub greatest_of : List ℤ → ℤ
greatest_of [] = pos 0
greatest_of (z ∷ zs) = greatest_from z zs

-- an aggregate over the rows of a group
abbrev pub aggregated : Aggregate → List Record → ℤ
aggregated Aggregate.wrapped_count rows = int_wrap w64 (pos (length rows))
aggregated (Aggregate.wrapped_sum c) rows = int_wrap w64 (added (values c rows))
aggregated (Aggregate.least c) rows = least_of (values c rows)
aggregated (Aggregate.greatest c) rows = greatest_of (values c rows)

-- the row of a group: the values of its grouping columns, then the aggregates of the rows that have these
abbrev pub group_row : List ℕ → List Aggregate → List Record → Record → Record
group_row ks as' rows key = key ++ map (λ a. aggregated a (filter (λ r. same (project ks r) key) rows)) as'

-- the rows of an inner join
abbrev pub joined_rows : List Pair → List Record → List Record → List Record
joined_rows ps xs ys = map (λ (x : Record × Record). x.0 ++ x.1) (filter (λ (x : Record × Record). is_joined ps x.0 x.1) (row_pairs xs ys))

-- what each table holds
abbrev pub Contents : Type 0
Contents = Table → List Record

-- the rows of a recursive term, by the rows that the turn before found
abbrev pub term_rows : Term → Contents → List Record → List Record
term_rows Term.latest holds xs = xs
term_rows (Term.select es m) holds xs = map (λ r. map (λ e. evaluated e r) es) (term_rows m holds xs)
term_rows (Term.select_where m c) holds xs = filter (is_true c) (term_rows m holds xs)
term_rows (Term.join_left m t ps) holds xs = joined_rows ps (term_rows m holds xs) (holds t)
term_rows (Term.join_right t m ps) holds xs = joined_rows ps (holds t) (term_rows m holds xs)

-- SQL's recursive UNION: first each row of the start once; at a turn, each row once of what it makes that is none of those found before. PostgreSQL
-- calls the rows that the latest turn found its working table, and goes on until that is empty. `all` is found after so many turns.
abbrev pub found_by : (turn : List Record → List Record) → (turns : ℕ) → (start : List Record) → Found
found_by turn n xs = repeated (found_next turn) n (found_first xs)

-- the rows of a query
unfoldable pub rows_of : Query → Contents → List Record
rows_of (Query.select es t) holds = map (λ r. map (λ e. evaluated e r) es) (holds t)
rows_of (Query.select_where t c) holds = filter (is_true c) (holds t)
rows_of (Query.select_join t u ps) holds = joined_rows ps (holds t) (holds u)
rows_of (Query.select_group ks as' t) holds = map (group_row ks as' (holds t)) (each_once (map (project ks) (holds t)))
rows_of (Query.select_distinct t) holds = each_once (holds t)
rows_of (Query.union_all t u) holds = holds t ++ holds u
rows_of (Query.except t u) holds = each_once (filter (λ r. not (is_present r (holds u))) (holds t))
rows_of (Query.intersect t u) holds = each_once (filter (λ r. is_present r (holds u)) (holds t))
rows_of (Query.recursive n t m) holds = (found_by (term_rows m holds) n (holds t)).all

-- the script's table of that number holds these rows; the other tables hold what they held
abbrev pub with_table : ℕ → List Record → Contents → Contents
with_table n rows holds (Table.given i) = holds (Table.given i)
with_table n rows holds (Table.made m) = cond (nat_eq m n) rows (holds (Table.made m))

-- before the script: the given tables alone
abbrev pub only_given : List (List Record) → Contents
only_given tables (Table.given i) = slice_index_or tables i []
only_given tables (Table.made m) = []

-- what each table holds after the tables of a script, the latest first; each query reads the tables before it
abbrev pub contents : List Query → List (List Record) → Contents
contents [] tables = only_given tables
contents (q ∷ earlier) tables = with_table (length earlier) (rows_of q (contents earlier tables)) (contents earlier tables)

-- the rows that a script gives for each output
abbrev pub answers : Script → List (List Record) → List (List Record)
answers s tables = map (contents s.tables tables) s.results
