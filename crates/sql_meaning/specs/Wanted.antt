-- Scripts of which only some tables are made: those that are wanted, and those that these read.
use Rattle.std.specs.Prelude.{◌≡◌, ℕ, Bool, true, false, cond, nat_eq, ◌||◌, List, [], ◌∷◌, ◌++◌, length}
use Rattle.semantics.specs.Multiset.{Record}
use Rattle.sql_meaning.specs.Script.{Table, Term, Query}
use Rattle.sql_meaning.specs.ScriptMeaning.{Contents, with_table, only_given}

-- the number is in the list
abbrev pub is_in : ℕ → List ℕ → Bool
is_in n [] = false
is_in n (m ∷ ms) = nat_eq m n || is_in n ms

-- the number of a table, if the script makes it
abbrev pub number_of : Table → List ℕ
number_of (Table.given i) = []
number_of (Table.made n) = n ∷ []

-- the numbers of the tables that a recursive term reads, of those that the script makes
abbrev pub term_reads : Term → List ℕ
term_reads Term.latest = []
term_reads (Term.select es m) = term_reads m
term_reads (Term.select_where m c) = term_reads m
term_reads (Term.join_left m t ps) = term_reads m ++ number_of t
term_reads (Term.join_right t m ps) = number_of t ++ term_reads m

-- the numbers of the tables that a query reads, of those that the script makes
abbrev pub reads : Query → List ℕ
reads (Query.select es t) = number_of t
reads (Query.select_where t c) = number_of t
reads (Query.select_join t u ps) = number_of t ++ number_of u
reads (Query.select_group ks as' t) = number_of t
reads (Query.select_distinct t) = number_of t
reads (Query.union_all t u) = number_of t ++ number_of u
reads (Query.except t u) = number_of t ++ number_of u
reads (Query.intersect t u) = number_of t ++ number_of u
reads (Query.recursive n t m) = number_of t ++ term_reads m

-- what each table holds after the tables of a script, the latest first, if only those are made that are wanted, or that one reads that is made; `rows`
-- gives the rows of a query
abbrev pub contents_of_wanted : (rows : Query → Contents → List Record) → (wanted : List ℕ) → List Query → List (List Record) → Contents
contents_of_wanted rows wanted [] tables = only_given tables
contents_of_wanted rows wanted (q ∷ earlier) tables =
    cond (is_in (length earlier) wanted)
    (with_table (length earlier) (rows q (contents_of_wanted rows (wanted ++ reads q) earlier tables)) (contents_of_wanted rows (wanted ++ reads q) earlier tables))
    (contents_of_wanted rows wanted earlier tables)

-- a given table, or one that is wanted
abbrev pub IsWanted : List ℕ → Table → Type 0
IsWanted wanted (Table.given i) = Unit {0}
IsWanted wanted (Table.made n) = is_in n wanted ≡ true
