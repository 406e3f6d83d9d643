-- When a query has no script.
use Rattle.std.specs.Prelude.{◌≡◌, ◌⊎◌, ℕ, ◌<◌, ◌≤◌, false, Option, Some, None}
use Rattle.semantics.specs.Query.{Program}
use Rattle.sql_meaning.specs.Count.{program_count}
use Rattle.record_core.specs.declared.span.Refusal.{Refusal}
use Rattle.record_core.specs.declared.span.Refusal.TheVariants.{At, NoMemory}
use Rattle.sql.specs.declared.counting.TheConstants.{MAX_TABLES, TOO_MANY_TABLES}
use Rattle.sql.specs.declared.wanted.TheConstants.{NO_SUCH_OUTPUT, SEVERAL_OUTPUTS}
use Rattle.sql.specs.Asked.{Asked, has_layout, has_output}
use Rattle.sql.specs.Dialects.{dialect_of, has_recursion}

-- how many tables a program's script has at most for the database that is asked for
abbrev pub asked_count : Asked → Program → ℕ
asked_count a p = program_count (has_recursion (dialect_of a.form)) p

-- it would have too many tables, or no output has the name, or one statement is asked for of several outputs, or memory gave out
abbrev pub IsSqlRefusal : Asked → Program → Refusal → Type 0
IsSqlRefusal a p (At code span) =
    (code ≡ TOO_MANY_TABLES) × (MAX_TABLES < asked_count a p) ⊎ ((code ≡ NO_SUCH_OUTPUT) × (has_output a.output p.outputs ≡ false)
    ⊎ (code ≡ SEVERAL_OUTPUTS) × (has_layout a p.outputs ≡ false))
IsSqlRefusal a p NoMemory = Unit {0}

-- the count, if it is within the limit
abbrev pub IsCount : Option ℕ → ℕ → Type 0
IsCount (Some n) count = (n ≡ count) × (n ≤ MAX_TABLES)
IsCount None count = MAX_TABLES < count
