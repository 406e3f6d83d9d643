-- What a check of a query does.
use Rattle.std.specs.Prelude.{◌≡◌, ℕ, List, Option, Result, Ok, Err}
use Rattle.std.specs.Io.KnownBytes.{Appends}
use Rattle.collector.specs.WrittenBytes.{AppendsFront}
use Rattle.compile.specs.Checked.{IsCheckFault, IsChecked}
use Rattle.diagnostics.specs.declared.fault.Fault.{Fault}
use Rattle.diagnostics.specs.declared.fault.Fault.TheVariants.{Query, NoMemory, ReadQuery, Write}

-- The arities are written whole at Ok, and a beginning of them where the writer failed. Else nothing is written: the query is
-- refused, or its reader failed, or there was no memory.
abbrev pub CheckEnds : List ℕ → Option (List ℕ) → Option (List ℕ) → Result (Unit {0}) Fault → Type 0
CheckEnds query old new (Ok u) = (text : List ℕ) × IsChecked query text × Appends old new text
CheckEnds query old new (Err Write) = (text : List ℕ) × IsChecked query text × AppendsFront old new text
CheckEnds query old new (Err (Query code start end)) = (new ≡ old) × IsCheckFault query (Query code start end)
CheckEnds query old new (Err NoMemory) = new ≡ old
CheckEnds query old new (Err ReadQuery) = new ≡ old
CheckEnds query old new (Err _) = ⊥
