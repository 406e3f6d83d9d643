-- What is written of the canonical form of a query.
use Rattle.std.specs.Prelude.{◌≡◌, ℕ, List, Option, Result, Ok, Err}
use Rattle.std.specs.Io.KnownBytes.{Appends}
use Rattle.collector.specs.WrittenBytes.{AppendsFront}
use Rattle.compile.specs.Canonical.{IsCanonical, IsFormatFault}
use Rattle.diagnostics.specs.declared.fault.Fault.{Fault}
use Rattle.diagnostics.specs.declared.fault.Fault.TheVariants.{Query, NoMemory, ReadQuery, Write}

-- The canonical text is written whole at Ok, and a beginning of it where the writer failed. Else nothing is written: the query is no
-- program, or its reader failed, or there was no memory.
abbrev pub FormatEnds : List ℕ → Option (List ℕ) → Option (List ℕ) → Result (Unit {0}) Fault → Type 0
FormatEnds query old new (Ok u) = (text : List ℕ) × IsCanonical query text × Appends old new text
FormatEnds query old new (Err Write) = (text : List ℕ) × IsCanonical query text × AppendsFront old new text
FormatEnds query old new (Err (Query code start end)) = (new ≡ old) × IsFormatFault query (Query code start end)
FormatEnds query old new (Err NoMemory) = new ≡ old
FormatEnds query old new (Err ReadQuery) = new ≡ old
FormatEnds query old new (Err _) = ⊥
