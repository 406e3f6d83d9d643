-- What a command does about its query, whatever its other text is.
use Rattle.std.specs.Prelude.{◌≡◌, ℕ, List, Option, Result, Ok, Err}
use Rattle.compile.specs.Compiled.{IsQueryFault, IsTaken}
use Rattle.diagnostics.specs.declared.fault.Fault.{Fault}
use Rattle.diagnostics.specs.declared.fault.Fault.TheVariants.{Query, TooManyVertices, Input, Schedule, NoMemory, Count}
use Rattle.diagnostics.specs.declared.fault.Fault.TheVariants.{NoWorker, Incomplete, ReadQuery, ReadInput, Write}

-- The query is taken, or it is refused for its fault. Only where it is taken, and the other text too, something is written.
abbrev pub Heeds : List ℕ → Option (List ℕ) → Option (List ℕ) → Result (Unit {0}) Fault → Type 0
Heeds query old new (Ok u) = IsTaken query
Heeds query old new (Err Write) = IsTaken query
Heeds query old new (Err (Input code line)) = (new ≡ old) × IsTaken query
Heeds query old new (Err (Schedule code line)) = (new ≡ old) × IsTaken query
Heeds query old new (Err Count) = (new ≡ old) × IsTaken query
Heeds query old new (Err NoWorker) = (new ≡ old) × IsTaken query
Heeds query old new (Err Incomplete) = (new ≡ old) × IsTaken query
Heeds query old new (Err (Query code start end)) = (new ≡ old) × IsQueryFault query (Query code start end)
Heeds query old new (Err TooManyVertices) = (new ≡ old) × IsQueryFault query TooManyVertices
Heeds query old new (Err NoMemory) = new ≡ old
Heeds query old new (Err ReadQuery) = new ≡ old
Heeds query old new (Err ReadInput) = new ≡ old
