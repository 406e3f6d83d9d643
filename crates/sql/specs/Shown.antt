-- The script that the tables in memory show, and the table that a name in scope stands for.
use Rattle.std.specs.Prelude.{◌≡◌, ℕ, Bool, List, [], ◌∷◌, ◌++◌, map}
use Rattle.expr_tree.specs.Plain.{plain_agg, plain_cond, plain_pair}
use Rattle.expr_tree.specs.PlainLists.{plain_scalars}
use Rattle.expr_tree.specs.Views.{cond_tree}
use Rattle.expr_tree.specs.declared.relation.SetOperator.{SetOperator}
use Rattle.expr_tree.specs.declared.relation.SetOperator.TheVariants as operation
use Rattle.semantics.specs.Query.{Name, Rel}
use Rattle.sql.specs.declared.scope.Entry.{Entry}
use Rattle.sql.specs.declared.table.Query as declared_query
use Rattle.sql.specs.declared.table.Query.TheVariants as query
use Rattle.sql.specs.declared.table.Script as declared_script
use Rattle.sql.specs.declared.table.Term as declared_term
use Rattle.sql.specs.declared.table.Term.TheVariants as term
use Rattle.sql.specs.declared.table.Table as declared_table
use Rattle.sql.specs.declared.table.Table.TheVariants as table
use Rattle.sql_meaning.specs.Script.{Table, Term, Query, Written, Script}
use Rattle.sql_meaning.specs.Translation.{Tables, stands, WrittenTerm, written, expression, search, aggregate_of}

-- a table
abbrev pub shown_table : declared_table.Table → Table
shown_table (table.Given i) = Table.given i
shown_table (table.Made n) = Table.made n

-- two tables under a set operator
abbrev pub shown_operation : SetOperator → Table → Table → Query
shown_operation operation.Concat t u = Query.union_all t u
shown_operation operation.Except t u = Query.except t u
shown_operation operation.Intersect t u = Query.intersect t u

-- a recursive term
abbrev pub shown_term : {A : Type 0} → declared_term.Term A → Term
shown_term term.Latest = Term.latest
shown_term (term.Select' scalars p m) = Term.select (map expression (plain_scalars scalars.now)) (shown_term m)
shown_term (term.Where' p m c) = Term.select_where (shown_term m) (search (plain_cond (cond_tree c.now)))
shown_term (term.JoinLeft' p m t pairs) = Term.join_left (shown_term m) (shown_table t) (map plain_pair pairs.now)
shown_term (term.JoinRight' t p m pairs) = Term.join_right (shown_table t) (shown_term m) (map plain_pair pairs.now)

-- a query
abbrev pub shown_query : {A : Type 0} → declared_query.Query A → Query
shown_query (query.Select scalars t) = Query.select (map expression (plain_scalars scalars.now)) (shown_table t)
shown_query (query.Where t c) = Query.select_where (shown_table t) (search (plain_cond (cond_tree c.now)))
shown_query (query.Join t u pairs) = Query.select_join (shown_table t) (shown_table u) (map plain_pair pairs.now)
shown_query (query.Group keys aggregates t) =
    Query.select_group (map (λ k. k.index) keys.now) (map aggregate_of (map plain_agg aggregates.now)) (shown_table t)
shown_query (query.Distinct t) = Query.select_distinct (shown_table t)
shown_query (query.SetOperation o t u) = shown_operation o (shown_table t) (shown_table u)
shown_query (query.Recursive turns t m) = Query.recursive turns (shown_table t) (shown_term m)

-- the tables, the latest first, after those that there were
abbrev pub made_onto : {A : Type 0} → List Query → List (declared_query.Query A) → List Query
made_onto earlier [] = earlier
made_onto earlier (q ∷ qs) = made_onto (shown_query q ∷ earlier) qs

-- the tables, the latest first
abbrev pub made_of : {A : Type 0} → List (declared_query.Query A) → List Query
made_of qs = made_onto [] qs

-- what was written are these tables, with that result
abbrev pub IsWritten : {A : Type 0} → Written → List (declared_query.Query A) → declared_table.Table → Type 0
IsWritten w made t = w ≡ record { tables = made_of made; result = shown_table t }

-- what was written are these tables, and that recursive term
abbrev pub IsWrittenTerm : {A : Type 0} → WrittenTerm → List (declared_query.Query A) → declared_term.Term A → Type 0
IsWrittenTerm w made m = w ≡ record { tables = made_of made; term = shown_term m }

-- the script
abbrev pub shown_script : {A : Type 0} → declared_script.Script A → Script
shown_script s = record { tables = made_of s.made.items; results = map shown_table s.results.items }

-- the names in scope, the latest last, and the number of inputs
pub record Known : Type 0 where
  pub entries : List Entry
  pub inputs : ℕ

-- one entry more
abbrev pub with_entry : Known → Entry → Known
with_entry k e = record { entries = k.entries ++ (e ∷ []); inputs = k.inputs }

-- what each name stands for, after entries
abbrev pub names_from : Tables → List Entry → Tables
names_from names [] = names
names_from names (e ∷ es) = names_from (stands e.name (shown_table e.table) names) es

-- what each name stands for; a name that isn't there for a table beyond the inputs
abbrev pub names_of : Known → Tables
names_of k = names_from (λ x. Table.given k.inputs) k.entries

-- the tables of one turn of a loop, whose variable stands for a table
abbrev pub turn_of : (recursive : Bool) → Name → Rel → Tables → Table → List Query → Written
turn_of recursive x body names t earlier = written recursive body (stands x t names) earlier
