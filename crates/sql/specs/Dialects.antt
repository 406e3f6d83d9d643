-- What differs from database to database, and between plain and wrapped arithmetic.
use Rattle.std.specs.Prelude.{ℕ, Bool, true, false, List, [], codes}
use Rattle.sql.specs.declared.form.Arithmetic.{Arithmetic}
use Rattle.sql.specs.declared.form.Arithmetic.TheVariants.{Plain, Wrapped}
use Rattle.sql.specs.declared.form.Dialect.{Dialect}
use Rattle.sql.specs.declared.form.Dialect.TheVariants.{Postgres, Sqlite, Spark}
use Rattle.sql.specs.declared.form.Form.{Form}
use Rattle.sql.specs.declared.form.Form.TheVariants as form

-- the database of a form
abbrev pub dialect_of : Form → Dialect
dialect_of (form.Postgres a) = Postgres
dialect_of form.Sqlite = Sqlite
dialect_of (form.Spark a) = Spark

-- the arithmetic of a form
abbrev pub arithmetic_of : Form → Arithmetic
arithmetic_of (form.Postgres a) = a
arithmetic_of form.Sqlite = Plain
arithmetic_of (form.Spark a) = a

-- the database's name
abbrev pub database_name : Dialect → List ℕ
database_name Postgres = codes "PostgreSQL"
database_name Sqlite = codes "SQLite"
database_name Spark = codes "Spark"

-- recursive tables are made; SQLite knows no recursive table in a subquery, and Spark no recursive UNION
abbrev pub has_recursion : Dialect → Bool
has_recursion Postgres = true
has_recursion Sqlite = false
has_recursion Spark = false

-- on both sides of a name
abbrev pub quote : Dialect → List ℕ
quote Postgres = codes "\""
quote Sqlite = codes "\""
quote Spark = codes "`"

-- before the first table that is made: a transaction, which sees the given tables as they are at one moment; in Spark a number that is too large is an
-- error from there on
abbrev pub begin_text : Dialect → List ℕ
begin_text Postgres = codes "START TRANSACTION ISOLATION LEVEL REPEATABLE READ;\n"
begin_text Sqlite = codes "BEGIN;\n"
begin_text Spark = codes "SET spark.sql.ansi.enabled = true;\n"

-- after the last result: of the transaction nothing is left
abbrev pub end_text : Dialect → List ℕ
end_text Postgres = codes "COMMIT;\n"
end_text Sqlite = codes "ROLLBACK;\n"
end_text Spark = []

-- before the name of a table that is made
abbrev pub create_word : Dialect → List ℕ
create_word Postgres = codes "CREATE TEMPORARY TABLE "
create_word Sqlite = codes "CREATE TEMPORARY TABLE "
create_word Spark = codes "CREATE OR REPLACE TEMPORARY VIEW "

-- what a reader should know of numbers
abbrev pub promise_text : Arithmetic → List ℕ
promise_text Plain = codes "-- Right, or an error: where a number has more than 64 bits, an error ends it.\n"
promise_text Wrapped = codes "-- Numbers wrap at 64 bits, as in Loom.\n"

-- before what is wrapped: BIGINT is an error beyond 64 bits, and wrapped arithmetic takes remainders
abbrev pub wrap_open : Arithmetic → List ℕ
wrap_open Plain = []
wrap_open Wrapped = codes "CAST(MOD(MOD("

-- after what is wrapped
abbrev pub wrap_close : Arithmetic → List ℕ
wrap_close Plain = []
wrap_close Wrapped = codes " + 9223372036854775808, 18446744073709551616) + 18446744073709551616, 18446744073709551616) - 9223372036854775808 AS BIGINT)"

-- before a summand; a plain sum is taken to BIGINT, with an error beyond it
abbrev pub sum_open : Arithmetic → List ℕ
sum_open Plain = codes "CAST(SUM("
sum_open Wrapped = codes "CAST(MOD(MOD(SUM("

-- after a summand
abbrev pub sum_close : Arithmetic → List ℕ
sum_close Plain = codes ") AS BIGINT)"
sum_close Wrapped = codes ") + 9223372036854775808, 18446744073709551616) + 18446744073709551616, 18446744073709551616) - 9223372036854775808 AS BIGINT)"

-- before an operand: plain arithmetic is that of BIGINT, and wrapped arithmetic is done in 38 decimal digits
abbrev pub operand_open : Form → List ℕ
operand_open (form.Postgres Plain) = []
operand_open (form.Postgres Wrapped) = codes "CAST("
operand_open form.Sqlite = []
operand_open (form.Spark Plain) = []
operand_open (form.Spark Wrapped) = codes "CAST("

-- after an operand
abbrev pub operand_close : Form → List ℕ
operand_close (form.Postgres Plain) = []
operand_close (form.Postgres Wrapped) = codes " AS NUMERIC(38))"
operand_close form.Sqlite = []
operand_close (form.Spark Plain) = []
operand_close (form.Spark Wrapped) = codes " AS DECIMAL(38))"
