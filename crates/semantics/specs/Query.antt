-- The trees of a query, without the places of the text. The forms are LINQ's Select, Where, Concat, Join, GroupBy, Distinct, Except and Intersect,
-- and two loops of a fixed number of turns.
use Rattle.std.specs.Prelude.{ℕ, ℤ, List}

-- what is computed from a record: a column, a number, or an operation on scalars
pub data Scalar : Type 0 where
  column : ℕ → Scalar
  literal : ℤ → Scalar
  plus minus times : Scalar → Scalar → Scalar
  negation : Scalar → Scalar

-- how two scalars are compared
pub data Comparison : Type 0 where
  equal not_equal less at_most greater at_least : Comparison

-- conditions on a record
pub data Cond : Type 0 where
  compare : Comparison → Scalar → Scalar → Cond
  conjunction disjunction : Cond → Cond → Cond
  negation : Cond → Cond

-- aggregates of a group; the number is a column
pub data Agg : Type 0 where
  count : Agg
  sum min max : ℕ → Agg

-- the bytes of a name
abbrev pub Name : Type 0
Name = List ℕ

-- a pair of columns of a join
pub record Pair : Type 0 where
  pub left : ℕ
  pub right : ℕ

-- What a turn of a loop gets: all that the turn before gave, or only the records of it that no turn gave before. The first gives the last turn's
-- records, the second those of all turns. (SQL: WITH RECURSIVE .. UNION.)
pub data Loop : Type 0 where
  iterate closure : Loop

-- Relations: a name; each form over the relations that it takes; and a loop with its turns, variable, start and body.
pub data Rel : Type 0 where
  named : Name → Rel
  select : Rel → List Scalar → Rel
  filter : Rel → Cond → Rel
  concat : Rel → Rel → Rel
  join : Rel → Rel → List Pair → Rel
  group : Rel → List ℕ → List Agg → Rel
  distinct : Rel → Rel
  except intersect : Rel → Rel → Rel
  loop : Loop → ℕ → Name → Rel → Rel → Rel

-- an input and its arity
pub record Input : Type 0 where
  pub name : Name
  pub arity : ℕ

-- a named relation
pub record Let : Type 0 where
  pub name : Name
  pub value : Rel

-- a named output, with the relation that it emits
pub record Output : Type 0 where
  pub name : Name
  pub value : Rel

-- inputs, named relations and outputs, each in order
pub record Program : Type 0 where
  pub inputs : List Input
  pub lets : List Let
  pub outputs : List Output
