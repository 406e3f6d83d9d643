-- What a database asks of a script: each query reads given tables and tables before its own, each column exists, and the sides of a UNION ALL, an
-- EXCEPT, an INTERSECT and a recursive UNION have equally many columns.
use Rattle.std.specs.Prelude.{◌≡◌, ℕ, ◌+◌, ◌<◌, cond, nat_eq, List, [], ◌∷◌, length, slice_index_or}
use Rattle.std.specs.List.{AllByRecursion}
use Rattle.semantics.specs.Query.{Pair}
use Rattle.sql_meaning.specs.Script.{Table, Expression, Search, Aggregate, Term, Query, Script}

-- how many columns each table has
abbrev pub Widths : Type 0
Widths = Table → ℕ

-- how many columns the rows of a recursive term have, by those of the recursive table
abbrev pub term_width : Term → ℕ → Widths → ℕ
term_width Term.latest w width = w
term_width (Term.select es m) w width = length es
term_width (Term.select_where m c) w width = term_width m w width
term_width (Term.join_left m t ps) w width = term_width m w width + width t
term_width (Term.join_right t m ps) w width = width t + term_width m w width

-- how many columns the rows of a query have
abbrev pub query_width : Query → Widths → ℕ
query_width (Query.select es t) width = length es
query_width (Query.select_where t c) width = width t
query_width (Query.select_join t u ps) width = width t + width u
query_width (Query.select_group ks as' t) width = length ks + length as'
query_width (Query.select_distinct t) width = width t
query_width (Query.union_all t u) width = width t
query_width (Query.except t u) width = width t
query_width (Query.intersect t u) width = width t
query_width (Query.recursive n t m) width = width t

-- the table of that number has k columns; the others have what they had
abbrev pub with_width : ℕ → ℕ → Widths → Widths
with_width n k width (Table.given i) = width (Table.given i)
with_width n k width (Table.made m) = cond (nat_eq m n) k (width (Table.made m))

-- the columns of the given tables alone
abbrev pub given_widths : List ℕ → Widths
given_widths given (Table.given i) = slice_index_or given i 0
given_widths given (Table.made m) = 0

-- the columns of each table after the tables of a script, the latest first; `given` has those of the given tables
abbrev pub widths : List Query → List ℕ → Widths
widths [] given = given_widths given
widths (q ∷ earlier) given = with_width (length earlier) (query_width q (widths earlier given)) (widths earlier given)

-- a given table, or one of the first n of the script
abbrev pub IsReadable : (given n : ℕ) → Table → Type 0
IsReadable given n (Table.given i) = i < given
IsReadable given n (Table.made m) = m < n

-- each column is below n
abbrev pub ExpressionFits : ℕ → Expression → Type 0
ExpressionFits n (Expression.column c) = c < n
ExpressionFits n (Expression.number z) = Unit {0}
ExpressionFits n (Expression.sum a b) = ExpressionFits n a × ExpressionFits n b
ExpressionFits n (Expression.difference a b) = ExpressionFits n a × ExpressionFits n b
ExpressionFits n (Expression.product a b) = ExpressionFits n a × ExpressionFits n b
ExpressionFits n (Expression.opposite a) = ExpressionFits n a
ExpressionFits n (Expression.wrapped a) = ExpressionFits n a

abbrev pub SearchFits : ℕ → Search → Type 0
SearchFits n (Search.compare o a b) = ExpressionFits n a × ExpressionFits n b
SearchFits n (Search.both c d) = SearchFits n c × SearchFits n d
SearchFits n (Search.either c d) = SearchFits n c × SearchFits n d
SearchFits n (Search.no c) = SearchFits n c

abbrev pub AggregateFits : ℕ → Aggregate → Type 0
AggregateFits n Aggregate.wrapped_count = Unit {0}
AggregateFits n (Aggregate.wrapped_sum c) = c < n
AggregateFits n (Aggregate.least c) = c < n
AggregateFits n (Aggregate.greatest c) = c < n

-- two tables of equally many columns can be read
abbrev pub SameWidth : (given n : ℕ) → Widths → Table → Table → Type 0
SameWidth given n width t u = IsReadable given n t × IsReadable given n u × (width t ≡ width u)

-- each pair is of columns of two tables with so many
abbrev pub PairsFit : ℕ → ℕ → List Pair → Type 0
PairsFit l r ps = AllByRecursion (λ (x : Pair). (x.left < l) × (x.right < r)) ps

-- the recursive term of a table of w columns may stand after n tables
abbrev pub TermFits : (given n : ℕ) → ℕ → Widths → Term → Type 0
TermFits given n w width Term.latest = Unit {0}
TermFits given n w width (Term.select es m) = TermFits given n w width m × AllByRecursion (ExpressionFits (term_width m w width)) es
TermFits given n w width (Term.select_where m c) = TermFits given n w width m × SearchFits (term_width m w width) c
TermFits given n w width (Term.join_left m t ps) =
    TermFits given n w width m × IsReadable given n t × PairsFit (term_width m w width) (width t) ps
TermFits given n w width (Term.join_right t m ps) =
    IsReadable given n t × TermFits given n w width m × PairsFit (width t) (term_width m w width) ps

-- the query may stand after n tables
abbrev pub QueryFits : (given n : ℕ) → Widths → Query → Type 0
QueryFits given n width (Query.select es t) = IsReadable given n t × AllByRecursion (ExpressionFits (width t)) es
QueryFits given n width (Query.select_where t c) = IsReadable given n t × SearchFits (width t) c
QueryFits given n width (Query.select_join t u ps) =
    IsReadable given n t × IsReadable given n u × PairsFit (width t) (width u) ps
QueryFits given n width (Query.select_group ks as' t) =
    IsReadable given n t × AllByRecursion (λ k. k < width t) ks × AllByRecursion (AggregateFits (width t)) as'
QueryFits given n width (Query.select_distinct t) = IsReadable given n t
QueryFits given n width (Query.union_all t u) = SameWidth given n width t u
QueryFits given n width (Query.except t u) = SameWidth given n width t u
QueryFits given n width (Query.intersect t u) = SameWidth given n width t u
QueryFits given n width (Query.recursive k t m) = IsReadable given n t × TermFits given n (width t) width m × (term_width m (width t) width ≡ width t)

-- each table fits after those before it
abbrev pub TablesFit : List ℕ → List Query → Type 0
TablesFit given [] = Unit {0}
TablesFit given (q ∷ earlier) = QueryFits (length given) (length earlier) (widths earlier given) q × TablesFit given earlier

-- each result can be read after n tables, and has so many columns
abbrev pub ResultsFit : (given n : ℕ) → Widths → List Table → List ℕ → Type 0
ResultsFit given n width [] [] = Unit {0}
ResultsFit given n width [] (w ∷ ws) = ⊥
ResultsFit given n width (t ∷ ts) [] = ⊥
ResultsFit given n width (t ∷ ts) (w ∷ ws) = IsReadable given n t × (width t ≡ w) × ResultsFit given n width ts ws

-- the script is well formed on given tables of these widths, and its results have so many columns
pub record IsWellFormed (given : List ℕ) (s : Script) (ns : List ℕ) : Type 0 where
  pub tables : TablesFit given s.tables
  pub results : ResultsFit (length given) (length s.tables) (widths s.tables given) s.results ns
