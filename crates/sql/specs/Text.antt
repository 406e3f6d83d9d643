-- The text of a script, or of a statement.
use Rattle.std.specs.Prelude.{ℕ, ℤ, Bool, true, false, cond, not, ◌&&◌, zero, suc, ◌+◌, List, [], ◌∷◌, ◌++◌, map, length, nat_eq, codes, decimal, slice_index_or, Option}
use Rattle.std.specs.Fmt.{signed_decimal}
use Rattle.semantics.specs.Query.{Comparison, Name, Pair, Input, Output, Program}
use Rattle.sql_meaning.specs.Script.{Table, Expression, Search, Aggregate, Term, Query, Script}
use Rattle.sql_meaning.specs.Translation.{script_of}
use Rattle.sql_meaning.specs.Wanted.{is_in, reads}
use Rattle.sql_meaning.specs.WellFormed.{Widths, term_width, widths}
use Rattle.sql.specs.Asked.{Asked, layout_of, is_asked, asked_tables}
use Rattle.sql.specs.Epochs.{reads_text, declared_epoch, made_epoch, epoch_text, join_word, inner_join_word, places}
use Rattle.sql.specs.Dialects.{dialect_of, arithmetic_of, database_name, has_recursion, quote, begin_text, end_text, create_word, promise_text, wrap_open, wrap_close, sum_open, sum_close, operand_open, operand_close}
use Rattle.sql.specs.declared.form.Dialect.{Dialect}
use Rattle.sql.specs.declared.form.Dialect.TheVariants.{Postgres, Sqlite, Spark}
use Rattle.sql.specs.declared.form.Epochs.{Epochs}
use Rattle.sql.specs.declared.form.Form.{Form}
use Rattle.sql.specs.declared.form.Layout.{Layout}
use Rattle.sql.specs.declared.form.Layout.TheVariants as layout
use Rattle.sql.specs.declared.form.Making.{Making}
use Rattle.sql.specs.declared.form.Making.TheVariants.{Alone, Within}

-- ---- lists

-- each text after a separator
abbrev pub continued : List ℕ → List (List ℕ) → List ℕ
continued separator [] = []
continued separator (t ∷ ts) = separator ++ (t ++ continued separator ts)

-- texts with a separator between each two
abbrev pub joined : List ℕ → List (List ℕ) → List ℕ
joined separator [] = []
joined separator (t ∷ ts) = t ++ continued separator ts

-- a comma before all but the first
abbrev pub comma_text : ℕ → List ℕ
comma_text zero = []
comma_text (suc n) = codes ", "

-- the texts of 0, 1, .. below n, with a comma between each two
abbrev pub numbered : (ℕ → List ℕ) → (n : ℕ) → List ℕ
numbered text zero = []
numbered text (suc n) = numbered text n ++ (comma_text n ++ text n)

-- ---- expressions and conditions

-- a column: c0, c1, ..
abbrev pub column_text : ℕ → List ℕ
column_text c = codes "c" ++ decimal c

-- an operand
abbrev pub operand_text : Form → List ℕ → List ℕ
operand_text a t = operand_open a ++ (t ++ operand_close a)

-- two operands with their operator
abbrev pub binary_text : Form → (operator l r : List ℕ) → List ℕ
binary_text a operator l r = codes "(" ++ (operand_text a l ++ (operator ++ (operand_text a r ++ codes ")")))

-- a number
abbrev pub number_text : ℤ → List ℕ
number_text z = codes "CAST(" ++ (signed_decimal z ++ codes " AS BIGINT)")

-- the negation of an operand
abbrev pub negated_text : Form → List ℕ → List ℕ
negated_text a t = codes "(- " ++ (operand_text a t ++ codes ")")

-- an expression
abbrev pub expression_text : Form → Expression → List ℕ
expression_text a (Expression.column c) = column_text c
expression_text a (Expression.number z) = number_text z
expression_text a (Expression.sum d e) = binary_text a (codes " + ") (expression_text a d) (expression_text a e)
expression_text a (Expression.difference d e) = binary_text a (codes " - ") (expression_text a d) (expression_text a e)
expression_text a (Expression.product d e) = binary_text a (codes " * ") (expression_text a d) (expression_text a e)
expression_text a (Expression.opposite e) = negated_text a (expression_text a e)
expression_text a (Expression.wrapped e) = wrap_open (arithmetic_of a) ++ (expression_text a e ++ wrap_close (arithmetic_of a))

-- a comparison
abbrev pub comparison_text : Comparison → List ℕ
comparison_text Comparison.equal = codes " = "
comparison_text Comparison.not_equal = codes " <> "
comparison_text Comparison.less = codes " < "
comparison_text Comparison.at_most = codes " <= "
comparison_text Comparison.greater = codes " > "
comparison_text Comparison.at_least = codes " >= "

-- two texts in brackets, with a third between them
abbrev pub bracketed : (between l r : List ℕ) → List ℕ
bracketed between l r = codes "(" ++ (l ++ (between ++ (r ++ codes ")")))

-- two texts with a third between them
abbrev pub between_text : (between l r : List ℕ) → List ℕ
between_text between l r = l ++ (between ++ r)

-- the expression is a column or a number
abbrev pub is_simple : Expression → Bool
is_simple (Expression.column c) = true
is_simple (Expression.number z) = true
is_simple (Expression.sum d e) = false
is_simple (Expression.difference d e) = false
is_simple (Expression.product d e) = false
is_simple (Expression.opposite e) = false
is_simple (Expression.wrapped e) = false

-- In SQLite an operator gives a REAL where a number would have more than 64 bits, and so does each operator on that. So a comparison of what was
-- computed is made only of integers; else it is an error.
abbrev pub needs_guard : Dialect → (both_simple : Bool) → Bool
needs_guard Postgres b = false
needs_guard Sqlite b = not b
needs_guard Spark b = false

-- the value is an integer
abbrev pub integer_text : List ℕ → List ℕ
integer_text t = codes "typeof(" ++ (t ++ codes ") = 'integer'")

-- a comparison of integers alone
abbrev pub guarded_text : (sign l r : List ℕ) → List ℕ
guarded_text sign l r =
    codes "(CASE WHEN " ++ (integer_text l ++ (codes " AND " ++ (integer_text r ++ (codes " THEN " ++ (between_text sign l r
    ++ codes " ELSE abs(-9223372036854775807 - 1) END)")))))

-- a comparison
abbrev pub compare_text : (guard : Bool) → (sign l r : List ℕ) → List ℕ
compare_text guard sign l r = cond guard (guarded_text sign l r) (bracketed sign l r)

-- a search condition
abbrev pub search_text : Form → Search → List ℕ
search_text a (Search.compare o d e) =
    compare_text (needs_guard (dialect_of a) (is_simple d && is_simple e)) (comparison_text o) (expression_text a d) (expression_text a e)
search_text a (Search.both c d) = bracketed (codes " AND ") (search_text a c) (search_text a d)
search_text a (Search.either c d) = bracketed (codes " OR ") (search_text a c) (search_text a d)
search_text a (Search.no c) = codes "(NOT " ++ (search_text a c ++ codes ")")

-- ---- queries

-- a sum; a wrapped one is added exactly, and a plain one is an error beyond BIGINT
abbrev pub sum_text : Form → ℕ → List ℕ
sum_text a c = sum_open (arithmetic_of a) ++ (operand_open a ++ (column_text c ++ (operand_close a ++ sum_close (arithmetic_of a))))

-- an aggregate
abbrev pub aggregate_text : Form → Aggregate → List ℕ
aggregate_text a Aggregate.wrapped_count = codes "COUNT(*)"
aggregate_text a (Aggregate.wrapped_sum c) = sum_text a c
aggregate_text a (Aggregate.least c) = codes "MIN(" ++ (column_text c ++ codes ")")
aggregate_text a (Aggregate.greatest c) = codes "MAX(" ++ (column_text c ++ codes ")")

-- a name in quotes
abbrev pub quoted : Dialect → List ℕ → List ℕ
quoted d name = quote d ++ (name ++ quote d)

-- a table: a given one by its name, and one that the script makes by its number, which no given one has for a name
abbrev pub table_text : Dialect → List Input → Table → List ℕ
table_text d inputs (Table.given i) = quoted d (slice_index_or (map (λ (a : Input). a.name) inputs) i [])
table_text d inputs (Table.made n) = quoted d (decimal n)

-- a pair of columns that a join compares
abbrev pub pair_text : Pair → List ℕ
pair_text p = codes "l." ++ (column_text p.left ++ (codes " = r." ++ column_text p.right))

-- all rows of two tables under an operator of sets
abbrev pub both_text : Dialect → List Input → (operator : List ℕ) → Table → Table → List ℕ
both_text d inputs operator t u = codes "SELECT * FROM " ++ (table_text d inputs t ++ (operator ++ (codes " SELECT * FROM " ++ table_text d inputs u)))

-- the columns that rows are grouped by, with the epoch
abbrev pub keys_text : Epochs → List ℕ → List ℕ
keys_text e ks = epoch_text e ++ joined (codes ", ") (map column_text ks)

-- a join
abbrev pub join_text : Dialect → Epochs → List Input → Table → Table → List Pair → List ℕ
join_text d e inputs t u ps =
    codes "SELECT * FROM " ++ (table_text d inputs t ++ (codes " AS l INNER JOIN " ++ (table_text d inputs u
    ++ (join_word e ++ joined (codes " AND ") (map pair_text ps)))))

-- a group
abbrev pub group_text : Form → Epochs → List Input → List ℕ → List Aggregate → Table → List ℕ
group_text a e inputs ks as' t =
    codes "SELECT " ++ (keys_text e ks ++ (continued (codes ", ") (map (aggregate_text a) as') ++ (codes " FROM " ++ (table_text (dialect_of a) inputs t
    ++ (codes " GROUP BY " ++ keys_text e ks)))))

-- a select
abbrev pub select_text : Form → Epochs → List Input → List Expression → Table → List ℕ
select_text a e inputs es t =
    codes "SELECT " ++ (epoch_text e ++ (joined (codes ", ") (map (expression_text a) es) ++ (codes " FROM " ++ table_text (dialect_of a) inputs t)))

-- a where
abbrev pub where_text : Form → List Input → Table → Search → List ℕ
where_text a inputs t c = codes "SELECT * FROM " ++ (table_text (dialect_of a) inputs t ++ (codes " WHERE " ++ search_text a c))

-- the names of so many columns, with the epoch
abbrev pub columns_text : Epochs → (width : ℕ) → List ℕ
columns_text e width = epoch_text e ++ numbered column_text width

-- a name for a subquery, and names for its columns
abbrev pub alias_text : Epochs → (alias : List ℕ) → (width : ℕ) → List ℕ
alias_text e alias width = alias ++ columns_text e width

-- a recursive term, in the query of the table number n, which has w columns
abbrev pub term_text : Form → Epochs → List Input → Widths → (n w : ℕ) → Term → List ℕ
term_text a e inputs width n w Term.latest = codes "SELECT * FROM " ++ quoted (dialect_of a) (decimal n)
term_text a e inputs width n w (Term.select es m) =
    codes "SELECT " ++ (epoch_text e ++ (joined (codes ", ") (map (expression_text a) es) ++ (codes " FROM (" ++ (term_text a e inputs width n w m
    ++ (alias_text e (codes ") AS s (") (term_width m w width) ++ codes ")")))))
term_text a e inputs width n w (Term.select_where m c) =
    codes "SELECT * FROM (" ++ (term_text a e inputs width n w m
    ++ (alias_text e (codes ") AS s (") (term_width m w width) ++ (codes ") WHERE " ++ search_text a c)))
term_text a e inputs width n w (Term.join_left m t ps) =
    codes "SELECT * FROM (" ++ (term_text a e inputs width n w m
    ++ (alias_text e (codes ") AS l (") (term_width m w width) ++ (codes ") INNER JOIN " ++ (table_text (dialect_of a) inputs t
    ++ (join_word e ++ joined (codes " AND ") (map pair_text ps))))))
term_text a e inputs width n w (Term.join_right t m ps) =
    codes "SELECT * FROM " ++ (table_text (dialect_of a) inputs t ++ (codes " AS l INNER JOIN (" ++ (term_text a e inputs width n w m
    ++ (alias_text e (codes ") AS r (") (term_width m w width) ++ (inner_join_word e ++ joined (codes " AND ") (map pair_text ps))))))

-- where a recursive table is right, as a comment
abbrev pub turns_text : (turns : ℕ) → List ℕ
turns_text turns = codes "-- The answer is the query's where nothing is new after " ++ (decimal turns ++ codes " turns.\n")

-- the recursive UNION of the table number n, after its columns
abbrev pub union_text : Form → Epochs → List Input → Widths → (n : ℕ) → Table → Term → List ℕ
union_text a e inputs width n t m =
    codes ") AS (SELECT * FROM " ++ (table_text (dialect_of a) inputs t ++ (codes " UNION " ++ (term_text a e inputs width n (width t) m
    ++ (codes ") SELECT * FROM " ++ quoted (dialect_of a) (decimal n)))))

-- the query of the recursive table number n
abbrev pub recursive_text : Form → Epochs → List Input → Widths → (n turns : ℕ) → Table → Term → List ℕ
recursive_text a e inputs width n turns t m =
    turns_text turns ++ (codes "WITH RECURSIVE " ++ (quoted (dialect_of a) (decimal n) ++ (codes " (" ++ (columns_text e (width t)
    ++ union_text a e inputs width n t m))))

-- the query of the table number n
abbrev pub query_text : Form → Epochs → List Input → Widths → (n : ℕ) → Query → List ℕ
query_text a e inputs width n (Query.select es t) = select_text a e inputs es t
query_text a e inputs width n (Query.select_where t c) = where_text a inputs t c
query_text a e inputs width n (Query.select_join t u ps) = join_text (dialect_of a) e inputs t u ps
query_text a e inputs width n (Query.select_group ks as' t) = group_text a e inputs ks as' t
query_text a e inputs width n (Query.select_distinct t) = codes "SELECT DISTINCT * FROM " ++ table_text (dialect_of a) inputs t
query_text a e inputs width n (Query.union_all t u) = both_text (dialect_of a) inputs (codes " UNION ALL") t u
query_text a e inputs width n (Query.except t u) = both_text (dialect_of a) inputs (codes " EXCEPT") t u
query_text a e inputs width n (Query.intersect t u) = both_text (dialect_of a) inputs (codes " INTERSECT") t u
query_text a e inputs width n (Query.recursive k t m) = recursive_text a e inputs width n k t m

-- ---- scripts and statements

-- how many columns each table has
abbrev pub widths_of : List Input → List Query → Widths
widths_of inputs tables = widths tables (map (λ (a : Input). a.arity) inputs)

-- a column of a table that is made; SQLite holds a table to integers only if it is told so
abbrev pub made_column_text : Dialect → ℕ → List ℕ
made_column_text Postgres c = column_text c
made_column_text Sqlite c = column_text c ++ (codes " CHECK (typeof(" ++ (column_text c ++ codes ") = 'integer')"))
made_column_text Spark c = column_text c

-- the columns of a table that is made, so many
abbrev pub made_columns_text : Dialect → Epochs → (width : ℕ) → List ℕ
made_columns_text d e width = made_epoch e d ++ numbered (made_column_text d) width

-- of a script each table is made alone, of a statement in its WITH, where the last one is the result's: the first that is wanted
abbrev pub making_of : Layout → (wanted : List ℕ) → Making
making_of layout.Script ns = Alone
making_of layout.Statement [] = Alone
making_of layout.Statement (n ∷ ns) = Within n

-- before the first table
abbrev pub with_text : Making → List ℕ
with_text Alone = []
with_text (Within last) = codes "WITH "

-- before the name of a table
abbrev pub made_word : Making → Dialect → List ℕ
made_word Alone d = create_word d
made_word (Within last) d = []

-- between the columns of the table number n, which is made alone, and its query
abbrev pub fill_text : Dialect → (n : ℕ) → List ℕ
fill_text Postgres n = codes ") ON COMMIT DROP AS\n"
fill_text Sqlite n = codes ");\nINSERT INTO " ++ (quoted Sqlite (decimal n) ++ codes "\n")
fill_text Spark n = codes ") AS\n"

-- after the query of one that is made alone; a view of Spark's is kept as a table
abbrev pub keep_text : Dialect → (n : ℕ) → List ℕ
keep_text Postgres n = codes ";\n"
keep_text Sqlite n = codes ";\n"
keep_text Spark n = codes ";\nCACHE TABLE " ++ (quoted Spark (decimal n) ++ codes ";\n")

-- between the columns of a table and its query
abbrev pub made_fill : Making → Dialect → (n : ℕ) → List ℕ
made_fill Alone d n = fill_text d n
made_fill (Within last) d n = codes ") AS (\n"

-- after its query; in a WITH a comma, but not after the last table
abbrev pub made_keep : Making → Dialect → (n : ℕ) → List ℕ
made_keep Alone d n = keep_text d n
made_keep (Within last) d n = cond (nat_eq n last) (codes ")\n") (codes "),\n")

-- what makes the table number n
abbrev pub create_text : Form → Epochs → Making → List Input → Widths → (n : ℕ) → Query → List ℕ
create_text a e m inputs width n q =
    made_word m (dialect_of a) ++ (quoted (dialect_of a) (decimal n) ++ (codes " (" ++ (made_columns_text (dialect_of a) e (width (Table.made n))
    ++ (made_fill m (dialect_of a) n ++ (query_text a e inputs width n q ++ made_keep m (dialect_of a) n)))))

-- what makes the tables that are wanted, or that one reads that is made, in order; the latest is first in the list
abbrev pub tables_text : Form → Epochs → Making → List Input → Widths → (wanted : List ℕ) → List Query → List ℕ
tables_text a e m inputs width wanted [] = []
tables_text a e m inputs width wanted (q ∷ earlier) =
    cond (is_in (length earlier) wanted)
    (tables_text a e m inputs width (wanted ++ reads q) earlier ++ create_text a e m inputs width (length earlier) q)
    (tables_text a e m inputs width wanted earlier)

-- a place in ORDER BY: 1, 2, ..
abbrev pub place_text : ℕ → List ℕ
place_text n = decimal (n + 1)

-- an output's name
abbrev pub title_text : Name → List ℕ
title_text x = codes "-- " ++ (x ++ codes "\n")

-- the names of the outputs that are asked for
abbrev pub names_text : Option Name → List Table → List Output → List ℕ
names_text y [] os = []
names_text y (t ∷ ts) [] = []
names_text y (t ∷ ts) (o ∷ os) = cond (is_asked y o.name) (title_text o.name) [] ++ names_text y ts os

-- in a statement they stand before the tables
abbrev pub titles_text : Layout → Option Name → List Table → List Output → List ℕ
titles_text layout.Script y ts os = []
titles_text layout.Statement y ts os = names_text y ts os

-- and in a script each before its rows
abbrev pub row_title : Layout → Name → List ℕ
row_title layout.Script x = title_text x
row_title layout.Statement x = []

-- the rows of an output's table of so many columns, in order
abbrev pub result_text : Layout → Dialect → Epochs → List Input → (width : ℕ) → Table → Name → List ℕ
result_text l d e inputs width t x =
    row_title l x
    ++ (codes "SELECT * FROM " ++ (table_text d inputs t ++ (codes " ORDER BY " ++ (numbered place_text (places e width) ++ codes ";\n"))))

-- the rows of each output that is asked for, in order
abbrev pub results_text : Layout → Dialect → Epochs → List Input → Widths → Option Name → List Table → List Output → List ℕ
results_text l d e inputs width y [] os = []
results_text l d e inputs width y (t ∷ ts) [] = []
results_text l d e inputs width y (t ∷ ts) (o ∷ os) =
    cond (is_asked y o.name) (result_text l d e inputs (width t) t o.name) [] ++ results_text l d e inputs width y ts os

-- a column of a given table
abbrev pub declared_text : ℕ → List ℕ
declared_text c = column_text c ++ codes " BIGINT NOT NULL"

-- the columns of a given table, so many
abbrev pub declared_columns_text : Epochs → (width : ℕ) → List ℕ
declared_columns_text e width = declared_epoch e ++ numbered declared_text width

-- a given table as it should be, in a comment
abbrev pub declaration_text : Dialect → Epochs → Input → List ℕ
declaration_text d e a = codes "--   CREATE TABLE " ++ (quoted d a.name ++ (codes " (" ++ (declared_columns_text e a.arity ++ codes ");\n")))

-- the given tables
abbrev pub inputs_text : Dialect → Epochs → List Input → List ℕ
inputs_text d e [] = []
inputs_text d e (a ∷ as') = declaration_text d e a ++ inputs_text d e as'

-- a statement sees the given tables as they are at one moment, and leaves nothing behind
abbrev pub opening_text : Layout → Dialect → List ℕ
opening_text layout.Script d = begin_text d
opening_text layout.Statement d = []

abbrev pub closing_text : Layout → Dialect → List ℕ
closing_text layout.Script d = end_text d
closing_text layout.Statement d = []

-- what stands before the tables
abbrev pub head_text : Form → Layout → Epochs → List Input → List ℕ
head_text a l e inputs =
    codes "-- A query as SQL, for " ++ (database_name (dialect_of a) ++ (reads_text e ++ (inputs_text (dialect_of a) e inputs
    ++ (promise_text (arithmetic_of a) ++ opening_text l (dialect_of a)))))

-- what makes the tables that are wanted, and gives the results
abbrev pub body_text : Asked → Layout → (wanted : List ℕ) → Program → Script → List ℕ
body_text a l wanted p s =
    titles_text l a.output s.results p.outputs
    ++ (with_text (making_of l wanted)
    ++ (tables_text a.form a.epochs (making_of l wanted) p.inputs (widths_of p.inputs s.tables) wanted s.tables
    ++ results_text l (dialect_of a.form) a.epochs p.inputs (widths_of p.inputs s.tables) a.output s.results p.outputs))

-- a program's script for the database that is asked for
abbrev pub asked_script : Asked → Program → Script
asked_script a p = script_of (has_recursion (dialect_of a.form)) p

-- its text, or that of the statement, as it is asked for
abbrev pub script_text : Asked → Program → List ℕ
script_text a p =
    head_text a.form (layout_of a) a.epochs p.inputs
    ++ (body_text a (layout_of a) (asked_tables a.output (asked_script a p).results p.outputs) p (asked_script a p)
    ++ closing_text (layout_of a) (dialect_of a.form))
