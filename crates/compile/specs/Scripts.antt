-- What the script of a query is.
use Rattle.std.specs.Prelude.{◌≡◌, ◌<◌, ◌⊎◌, ℕ, true, false, List, Option}
use Rattle.record_core.specs.declared.span.Refusal.TheVariants.{At}
use Rattle.semantics.specs.Query.{Name, Program}
use Rattle.sql.specs.Text.{script_text}
use Rattle.sql.specs.declared.counting.TheConstants.{MAX_TABLES, TOO_MANY_TABLES}
use Rattle.sql.specs.declared.wanted.TheConstants.{NO_SUCH_OUTPUT, SEVERAL_OUTPUTS}
use Rattle.sql.specs.Asked.{Asked, has_layout, has_output}
use Rattle.sql.specs.Limits.{asked_count}
use Rattle.compile.specs.Queries.{IsQuery, IsRefusal}
use Rattle.diagnostics.specs.declared.fault.Fault.{Fault}
use Rattle.diagnostics.specs.declared.fault.Fault.TheVariants.{Query, NoMemory}

-- the query text is a well-typed program that has the output that is asked for, one where it is a statement, and the text is that of its script
abbrev pub IsScript : Asked → (query text : List ℕ) → Type 0
IsScript a query text =
    (p : Program) × IsQuery query p × (has_output a.output p.outputs ≡ true) × (has_layout a p.outputs ≡ true) × (text ≡ script_text a p)

-- the query text is a well-typed program, whose script would take too many tables in the database that is asked for
abbrev pub HasTooManyTables : Asked → (query : List ℕ) → Type 0
HasTooManyTables a query = (p : Program) × IsQuery query p × (MAX_TABLES < asked_count a p)

-- the query text is a well-typed program that doesn't have the output that is asked for
abbrev pub LacksOutput : Option Name → (query : List ℕ) → Type 0
LacksOutput y query = (p : Program) × IsQuery query p × (has_output y p.outputs ≡ false)

-- the query text is a well-typed program, of several of whose outputs one statement is asked for
abbrev pub LacksLayout : Asked → (query : List ℕ) → Type 0
LacksLayout a query = (p : Program) × IsQuery query p × (has_layout a p.outputs ≡ false)

-- why a query text has no script
abbrev pub IsScriptFault : Asked → List ℕ → Fault → Type 0
IsScriptFault a query (Query code start end) =
    IsRefusal query (At code (record { start = start; end = end })) ⊎ ((code ≡ TOO_MANY_TABLES) × HasTooManyTables a query
    ⊎ ((code ≡ NO_SUCH_OUTPUT) × LacksOutput a.output query ⊎ (code ≡ SEVERAL_OUTPUTS) × LacksLayout a query))
IsScriptFault a query NoMemory = Unit {0}
IsScriptFault a query _ = ⊥
