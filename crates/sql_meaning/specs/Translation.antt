-- The script that a query is written as.
use Rattle.std.specs.Prelude.{◌≡◌, ℕ, suc, Bool, false, cond, not, ◌&&◌, nat_eq, List, [], ◌∷◌, map, length, ℤ}
use Rattle.std.specs.List.{AllByRecursion}
use Rattle.std.specs.Int.{int_wrap}
use mir.Syntax.{w64}
use Rattle.semantics.specs.Multiset.{Record}
use Rattle.semantics.specs.FreeNames.{free, has}
use Rattle.semantics.specs.Limits.{max_turns}
use Rattle.semantics.specs.Meaning.{same_name, repeated}
use Rattle.semantics.specs.Query.{Scalar, Cond, Agg, Name, Loop, Rel, Input, Let, Output, Program}
use Rattle.sql_meaning.specs.Script.{Table, Expression, Search, Aggregate, Term, Query, Written, Script}

-- each operation is wrapped, so no number has more than 128 bits on the way
abbrev pub expression : Scalar → Expression
expression (Scalar.column c) = Expression.column c
expression (Scalar.literal z) = Expression.number (int_wrap w64 z)
expression (Scalar.plus s t) = Expression.wrapped (Expression.sum (expression s) (expression t))
expression (Scalar.minus s t) = Expression.wrapped (Expression.difference (expression s) (expression t))
expression (Scalar.times s t) = Expression.wrapped (Expression.product (expression s) (expression t))
expression (Scalar.negation s) = Expression.wrapped (Expression.opposite (expression s))

abbrev pub search : Cond → Search
search (Cond.compare c s t) = Search.compare c (expression s) (expression t)
search (Cond.conjunction c d) = Search.both (search c) (search d)
search (Cond.disjunction c d) = Search.either (search c) (search d)
search (Cond.negation c) = Search.no (search c)

abbrev pub aggregate_of : Agg → Aggregate
aggregate_of Agg.count = Aggregate.wrapped_count
aggregate_of (Agg.sum c) = Aggregate.wrapped_sum c
aggregate_of (Agg.min c) = Aggregate.least c
aggregate_of (Agg.max c) = Aggregate.greatest c

-- the table that each name stands for
abbrev pub Tables : Type 0
Tables = Name → Table

-- x stands for t, and the other names for what they stood for
abbrev pub stands : Name → Table → Tables → Tables
stands x t tables y = cond (same_name x y) t (tables y)

-- one more table, which is the result
abbrev pub then_query : List Query → Query → Written
then_query earlier q = record { tables = q ∷ earlier; result = Table.made (length earlier) }

-- what a closure has found so far, and what of it the latest turn found
pub record Finding : Type 0 where
  pub tables : List Query
  pub all : Table
  pub latest : Table

-- before the first turn: the start's rows, each once
abbrev pub finding_first : Written → Finding
finding_first a =
    let d = then_query a.tables (Query.select_distinct a.result) in
    record { tables = d.tables; all = d.result; latest = d.result }

-- after a turn that made a table: what of it isn't found yet, and then all
abbrev pub finding_next : Finding → Written → Finding
finding_next f a =
    let new = then_query a.tables (Query.except a.result f.all) in
    let every = then_query new.tables (Query.union_all f.all new.result) in
    record { tables = every.tables; all = every.result; latest = new.result }

-- the tables of a loop, by those of its start and of one turn on a table
abbrev pub written_loop : Loop → ℕ → (turn : Table → List Query → Written) → Written → Written
written_loop Loop.iterate n turn a = repeated (λ (s : Written). turn s.result s.tables) n a
written_loop Loop.closure n turn a =
    let f = repeated (λ (f : Finding). finding_next f (turn f.latest f.tables)) n (finding_first a) in
    record { tables = f.tables; result = f.all }

-- ---- closures that are written as one recursive table

-- the relation takes x once, through selects, wheres and joins alone
abbrev pub is_linear : (x : Name) → Rel → Bool
is_linear x (Rel.named y) = same_name x y
is_linear x (Rel.select r ss) = is_linear x r
is_linear x (Rel.filter r c) = is_linear x r
is_linear x (Rel.concat p q) = false
is_linear x (Rel.join p q ps) = cond (is_linear x p) (not (has x (free q))) (not (has x (free p)) && is_linear x q)
is_linear x (Rel.group r ks as') = false
is_linear x (Rel.distinct r) = false
is_linear x (Rel.except p q) = false
is_linear x (Rel.intersect p q) = false
is_linear x (Rel.loop l n y r b) = false

-- a closure with the most turns, whose body is linear; `recursive` says whether recursive tables may be made
abbrev pub is_recursion : (recursive : Bool) → Loop → (turns : ℕ) → (x : Name) → (body : Rel) → Bool
is_recursion recursive Loop.iterate n x b = false
is_recursion recursive Loop.closure n x b = recursive && (nat_eq n max_turns && is_linear x b)

-- a recursive term, and the tables made before it
pub record WrittenTerm : Type 0 where
  pub tables : List Query
  pub term : Term

-- a part of a body that isn't linear; none is asked for
abbrev pub no_term : List Query → WrittenTerm
no_term earlier = record { tables = earlier; term = Term.latest }

module _ (recursive : Bool) where
  unfoldable mutual
    -- the tables of a relation, over those `earlier`, and the one that holds its records
    pub written : Rel → Tables → (earlier : List Query) → Written
    written (Rel.named x) names earlier = record { tables = earlier; result = names x }
    written (Rel.select r ss) names earlier =
        let a = written r names earlier in
        then_query a.tables (Query.select (map expression ss) a.result)
    written (Rel.filter r c) names earlier =
        let a = written r names earlier in
        then_query a.tables (Query.select_where a.result (search c))
    written (Rel.concat p q) names earlier =
        let a = written p names earlier in
        let b = written q names a.tables in
        then_query b.tables (Query.union_all a.result b.result)
    written (Rel.join p q ps) names earlier =
        let a = written p names earlier in
        let b = written q names a.tables in
        then_query b.tables (Query.select_join a.result b.result ps)
    written (Rel.group r ks as') names earlier =
        let a = written r names earlier in
        then_query a.tables (Query.select_group ks (map aggregate_of as') a.result)
    written (Rel.distinct r) names earlier =
        let a = written r names earlier in
        then_query a.tables (Query.select_distinct a.result)
    written (Rel.except p q) names earlier =
        let a = written p names earlier in
        let b = written q names a.tables in
        then_query b.tables (Query.except a.result b.result)
    written (Rel.intersect p q) names earlier =
        let a = written p names earlier in
        let b = written q names a.tables in
        then_query b.tables (Query.intersect a.result b.result)
    written (Rel.loop l n x r b) names earlier =
        let a = written r names earlier in
        cond (is_recursion recursive l n x b)
        (let m = written_term x b names a.tables in then_query m.tables (Query.recursive n a.result m.term))
        (written_loop l n (λ t made. written b (stands x t names) made) a)

    -- the term of a body that is linear in x, after the tables of the other sides of its joins
    pub written_term : (x : Name) → Rel → Tables → (earlier : List Query) → WrittenTerm
    written_term x (Rel.named y) names earlier = record { tables = earlier; term = Term.latest }
    written_term x (Rel.select r ss) names earlier =
        let a = written_term x r names earlier in
        record { tables = a.tables; term = Term.select (map expression ss) a.term }
    written_term x (Rel.filter r c) names earlier =
        let a = written_term x r names earlier in
        record { tables = a.tables; term = Term.select_where a.term (search c) }
    written_term x (Rel.concat p q) names earlier = no_term earlier
    written_term x (Rel.join p q ps) names earlier =
        cond (is_linear x p)
        (let a = written_term x p names earlier in
        let b = written q names a.tables in
        record { tables = b.tables; term = Term.join_left a.term b.result ps })
        (let a = written p names earlier in
        let b = written_term x q names a.tables in
        record { tables = b.tables; term = Term.join_right a.result b.term ps })
    written_term x (Rel.group r ks as') names earlier = no_term earlier
    written_term x (Rel.distinct r) names earlier = no_term earlier
    written_term x (Rel.except p q) names earlier = no_term earlier
    written_term x (Rel.intersect p q) names earlier = no_term earlier
    written_term x (Rel.loop l n y r b) names earlier = no_term earlier

-- the table of each name after the inputs, the first of which has the number i; a name that isn't known stands for a table beyond the inputs
abbrev pub input_tables : List Input → ℕ → Tables
input_tables [] i x = Table.given i
input_tables (a ∷ as') i x = stands a.name (Table.given i) (input_tables as' (suc i)) x

-- the table of each name, and the tables made, after lets
pub record Scope : Type 0 where
  pub names : Tables
  pub tables : List Query

module _ (recursive : Bool) where
  unfoldable pub after_lets : List Let → Scope → Scope
  after_lets [] s = s
  after_lets (a ∷ as') s =
      let w = written recursive a.value s.names s.tables in
      after_lets as' (record { names = stands a.name w.result s.names; tables = w.tables })

  -- the tables of each output, after those that there are
  unfoldable pub written_outputs : List Output → Tables → (earlier : List Query) → Script
  written_outputs [] names earlier = record { tables = earlier; results = [] }
  written_outputs (o ∷ os) names earlier =
      let a = written recursive o.value names earlier in
      let rest = written_outputs os names a.tables in
      record { tables = rest.tables; results = a.result ∷ rest.results }

  -- the script of a program: its lets, then its outputs
  unfoldable pub script_of : Program → Script
  script_of p =
      let s = after_lets p.lets (record { names = input_tables p.inputs 0; tables = [] }) in
      written_outputs p.outputs s.names s.tables

-- each field has 64 bits, with a sign
abbrev pub HaveWords : List Record → Type 0
HaveWords xs = AllByRecursion (λ (r : Record). AllByRecursion (λ (z : ℤ). int_wrap w64 z ≡ z) r) xs
