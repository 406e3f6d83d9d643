-- What is written of the script of a query.
use Rattle.std.specs.Prelude.{◌≡◌, ℕ, List, Option, Result, Ok, Err}
use Rattle.std.specs.Io.KnownBytes.{Appends}
use Rattle.collector.specs.WrittenBytes.{AppendsFront}
use Rattle.compile.specs.Scripts.{IsScript, IsScriptFault}
use Rattle.sql.specs.Asked.{Asked}
use Rattle.diagnostics.specs.declared.fault.Fault.{Fault}
use Rattle.diagnostics.specs.declared.fault.Fault.TheVariants.{Query, NoMemory, ReadQuery, Write}

-- The script is written whole at Ok, and a beginning of it where the writer failed. Else nothing is written: the query is refused, or takes
-- too many tables, or lacks what is asked for, or its reader failed, or there was no memory.
abbrev pub ScriptEnds : Asked → List ℕ → Option (List ℕ) → Option (List ℕ) → Result (Unit {0}) Fault → Type 0
ScriptEnds a query old new (Ok u) = (text : List ℕ) × IsScript a query text × Appends old new text
ScriptEnds a query old new (Err Write) = (text : List ℕ) × IsScript a query text × AppendsFront old new text
ScriptEnds a query old new (Err (Query code start end)) = (new ≡ old) × IsScriptFault a query (Query code start end)
ScriptEnds a query old new (Err NoMemory) = new ≡ old
ScriptEnds a query old new (Err ReadQuery) = new ≡ old
ScriptEnds a query old new (Err _) = ⊥
