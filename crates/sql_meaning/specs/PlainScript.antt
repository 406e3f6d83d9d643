-- Scripts without wrapping: what they mean, and when no part of them is an error. A BIGINT whose exact value has more than 64 bits is one.
use Rattle.std.specs.Prelude.{◌≡◌, ◌<◌, ℕ, ℤ, pos, List, [], ◌∷◌, ◌++◌, map, filter, length}
use Rattle.std.specs.List.{AllByRecursion}
use Rattle.std.specs.Int.{int_wrap}
use mir.Syntax.{w64}
use Rattle.semantics.specs.Multiset.{Record, same, each_once}
use Rattle.semantics.specs.Meaning.{project}
use Rattle.sql_meaning.specs.Script.{Expression, Search, Aggregate, Term, Query, Script}
use Rattle.sql_meaning.specs.ScriptMeaning.{evaluated, is_true, values, added, least_of, greatest_of, Contents, term_rows, found_by, rows_of, with_table, only_given}
use Rattle.sql_meaning.specs.Plain.{HasNoError}

-- the expression, in which nothing is wrapped
abbrev pub unwrapped : Expression → Expression
unwrapped (Expression.column c) = Expression.column c
unwrapped (Expression.number z) = Expression.number z
unwrapped (Expression.sum a b) = Expression.sum (unwrapped a) (unwrapped b)
unwrapped (Expression.difference a b) = Expression.difference (unwrapped a) (unwrapped b)
unwrapped (Expression.product a b) = Expression.product (unwrapped a) (unwrapped b)
unwrapped (Expression.opposite a) = Expression.opposite (unwrapped a)
unwrapped (Expression.wrapped a) = unwrapped a

-- the condition, in which nothing is wrapped
abbrev pub unwrapped_search : Search → Search
unwrapped_search (Search.compare o a b) = Search.compare o (unwrapped a) (unwrapped b)
unwrapped_search (Search.both c d) = Search.both (unwrapped_search c) (unwrapped_search d)
unwrapped_search (Search.either c d) = Search.either (unwrapped_search c) (unwrapped_search d)
unwrapped_search (Search.no c) = Search.no (unwrapped_search c)

-- no operator in a condition is an error, whichever of its parts are evaluated
abbrev pub SearchHasNoError : Search → Record → Type 0
SearchHasNoError (Search.compare o a b) r = HasNoError a r × HasNoError b r
SearchHasNoError (Search.both c d) r = SearchHasNoError c r × SearchHasNoError d r
SearchHasNoError (Search.either c d) r = SearchHasNoError c r × SearchHasNoError d r
SearchHasNoError (Search.no c) r = SearchHasNoError c r

-- the recursive term, in which nothing is wrapped
abbrev pub unwrapped_term : Term → Term
unwrapped_term Term.latest = Term.latest
unwrapped_term (Term.select es m) = Term.select (map unwrapped es) (unwrapped_term m)
unwrapped_term (Term.select_where m c) = Term.select_where (unwrapped_term m) (unwrapped_search c)
unwrapped_term (Term.join_left m t ps) = Term.join_left (unwrapped_term m) t ps
unwrapped_term (Term.join_right t m ps) = Term.join_right t (unwrapped_term m) ps

-- no operator in a recursive term is an error, on the rows that the turn before found
abbrev pub TermHasNoError : Term → Contents → List Record → Type 0
TermHasNoError Term.latest holds xs = Unit {0}
TermHasNoError (Term.select es m) holds xs =
    TermHasNoError m holds xs
    × AllByRecursion (λ (r : Record). AllByRecursion (λ (e : Expression). HasNoError (unwrapped e) r) es) (term_rows (unwrapped_term m) holds xs)
TermHasNoError (Term.select_where m c) holds xs =
    TermHasNoError m holds xs × AllByRecursion (λ (r : Record). SearchHasNoError (unwrapped_search c) r) (term_rows (unwrapped_term m) holds xs)
TermHasNoError (Term.join_left m t ps) holds xs = TermHasNoError m holds xs
TermHasNoError (Term.join_right t m ps) holds xs = TermHasNoError m holds xs

-- an aggregate over the rows of a group, whose count and sum are exact
abbrev pub exactly_aggregated : Aggregate → List Record → ℤ
exactly_aggregated Aggregate.wrapped_count rows = pos (length rows)
exactly_aggregated (Aggregate.wrapped_sum c) rows = added (values c rows)
exactly_aggregated (Aggregate.least c) rows = least_of (values c rows)
exactly_aggregated (Aggregate.greatest c) rows = greatest_of (values c rows)

-- an aggregate of a group that has these values of the grouping columns
abbrev pub group_value : List ℕ → List Record → Record → Aggregate → ℤ
group_value ks rows key a = exactly_aggregated a (filter (λ r. same (project ks r) key) rows)

-- the rows of a query
abbrev pub plain_rows_of : Query → Contents → List Record
plain_rows_of (Query.select es t) holds = map (λ r. map (λ e. evaluated (unwrapped e) r) es) (holds t)
plain_rows_of (Query.select_where t c) holds = filter (is_true (unwrapped_search c)) (holds t)
plain_rows_of (Query.select_join t u ps) holds = rows_of (Query.select_join t u ps) holds
plain_rows_of (Query.select_group ks as' t) holds =
    map (λ key. key ++ map (group_value ks (holds t) key) as') (each_once (map (project ks) (holds t)))
plain_rows_of (Query.select_distinct t) holds = rows_of (Query.select_distinct t) holds
plain_rows_of (Query.union_all t u) holds = rows_of (Query.union_all t u) holds
plain_rows_of (Query.except t u) holds = rows_of (Query.except t u) holds
plain_rows_of (Query.intersect t u) holds = rows_of (Query.intersect t u) holds
plain_rows_of (Query.recursive n t m) holds = rows_of (Query.recursive n t (unwrapped_term m)) holds

-- no operator of a query is an error, on any row, and no count or sum
abbrev pub QueryHasNoError : Query → Contents → Type 0
QueryHasNoError (Query.select es t) holds = AllByRecursion (λ (r : Record). AllByRecursion (λ (e : Expression). HasNoError (unwrapped e) r) es) (holds t)
QueryHasNoError (Query.select_where t c) holds = AllByRecursion (λ (r : Record). SearchHasNoError (unwrapped_search c) r) (holds t)
QueryHasNoError (Query.select_join t u ps) holds = Unit {0}
QueryHasNoError (Query.select_group ks as' t) holds =
    AllByRecursion (λ (key : Record). AllByRecursion (λ (a : Aggregate). int_wrap w64 (group_value ks (holds t) key a) ≡ group_value ks (holds t) key a) as')
    (each_once (map (project ks) (holds t)))
QueryHasNoError (Query.select_distinct t) holds = Unit {0}
QueryHasNoError (Query.union_all t u) holds = Unit {0}
QueryHasNoError (Query.except t u) holds = Unit {0}
QueryHasNoError (Query.intersect t u) holds = Unit {0}
QueryHasNoError (Query.recursive n t m) holds =
    (turn : ℕ) → turn < n → TermHasNoError m holds (found_by (term_rows (unwrapped_term m) holds) turn (holds t)).latest

-- what each table holds after the tables of a script, the latest first
abbrev pub plain_contents : List Query → List (List Record) → Contents
plain_contents [] tables = only_given tables
plain_contents (q ∷ earlier) tables =
    with_table (length earlier) (plain_rows_of q (plain_contents earlier tables)) (plain_contents earlier tables)

-- no query of a script has an error
abbrev pub ScriptHasNoError : List Query → List (List Record) → Type 0
ScriptHasNoError [] tables = Unit {0}
ScriptHasNoError (q ∷ earlier) tables = ScriptHasNoError earlier tables × QueryHasNoError q (plain_contents earlier tables)

-- the rows that the script gives for each output
abbrev pub plain_answers : Script → List (List Record) → List (List Record)
plain_answers s tables = map (plain_contents s.tables tables) s.results
