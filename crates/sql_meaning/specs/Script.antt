-- The SQL scripts that queries are written as: CREATE TEMPORARY TABLE t0 AS .., CREATE TEMPORARY TABLE t1 AS .., .., then SELECT * FROM t for each
-- output. Tables and columns are numbered; there is no NULL, and every field is a whole number.
use Rattle.std.specs.Prelude.{ℕ, ℤ, List}
use Rattle.semantics.specs.Query.{Comparison, Pair}

-- a given table, or a table of the script, by its number
pub data Table : Type 0 where
  given : ℕ → Table
  made : ℕ → Table

-- value expressions on a row; numbers are exact, as those of NUMERIC; `wrapped` takes a number to the one of 64 bits with a sign that is equal to it
-- modulo 2^64 (written by MOD)
pub data Expression : Type 0 where
  column : ℕ → Expression
  number : ℤ → Expression
  sum difference product : Expression → Expression → Expression
  opposite : Expression → Expression
  wrapped : Expression → Expression

-- search conditions on a row; without NULL each is true or false
pub data Search : Type 0 where
  compare : Comparison → Expression → Expression → Search
  both either : Search → Search → Search
  no : Search → Search

-- COUNT(*), SUM(c), MIN(c), MAX(c) over the rows of a group; count and sum are wrapped
pub data Aggregate : Type 0 where
  wrapped_count : Aggregate
  wrapped_sum : ℕ → Aggregate
  least greatest : ℕ → Aggregate

-- What a turn of a recursive query makes of the rows that the turn before found: the recursive term of WITH RECURSIVE, whose queries stand inside one
-- another.
pub data Term : Type 0 where
  -- SELECT * FROM the recursive table, which are those rows
  latest : Term
  -- SELECT e, .. FROM (term)
  select : List Expression → Term → Term
  -- SELECT * FROM (term) WHERE c
  select_where : Term → Search → Term
  -- SELECT * FROM (term) AS l JOIN t AS r ON l.i = r.j AND ..
  join_left : Term → Table → List Pair → Term
  -- SELECT * FROM t AS l JOIN (term) AS r ON l.i = r.j AND ..
  join_right : Table → Term → List Pair → Term

-- the tables that a query reads are named: no query is inside another but in a recursive term
pub data Query : Type 0 where
  -- SELECT e, .. FROM t
  select : List Expression → Table → Query
  -- SELECT * FROM t WHERE c
  select_where : Table → Search → Query
  -- SELECT * FROM t AS l JOIN u AS r ON l.i = r.j AND ..
  select_join : Table → Table → List Pair → Query
  -- SELECT k, .., a, .. FROM t GROUP BY k, ..
  select_group : List ℕ → List Aggregate → Table → Query
  -- SELECT DISTINCT * FROM t
  select_distinct : Table → Query
  -- TABLE t UNION ALL TABLE u; TABLE t EXCEPT TABLE u; TABLE t INTERSECT TABLE u
  union_all except intersect : Table → Table → Query
  -- WITH RECURSIVE x AS (SELECT * FROM t UNION term) SELECT * FROM x, after so many turns at most
  recursive : (turns : ℕ) → Table → Term → Query

-- tables made so far, and one that holds the rows of a relation; the latest table is first here, and its number is how many come after it in the list
pub record Written : Type 0 where
  pub tables : List Query
  pub result : Table

-- the tables of a script, and those that hold the rows of the outputs, in order
pub record Script : Type 0 where
  pub tables : List Query
  pub results : List Table
