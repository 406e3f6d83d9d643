-- What a check of a query and an input does.
use Rattle.std.specs.Prelude.{◌≡◌, ℕ, List, Option, Result, Ok, Err}
use Rattle.std.specs.Io.KnownBytes.{Appends}
use Rattle.collector.specs.WrittenBytes.{AppendsFront}
use Rattle.compile.specs.CheckedInputs.{IsCheckedInput, IsInputCheckFault}
use Rattle.diagnostics.specs.declared.fault.Fault.{Fault}
use Rattle.diagnostics.specs.declared.fault.Fault.TheVariants.{Query, Input, NoMemory, ReadQuery, ReadInput, Write}

-- The arities are written whole at Ok, and a beginning of them where the writer failed. Else nothing is written: the query is
-- refused, or the input, or a reader failed, or there was no memory.
abbrev pub CheckInputEnds : List ℕ → List ℕ → Option (List ℕ) → Option (List ℕ) → Result (Unit {0}) Fault → Type 0
CheckInputEnds query input old new (Ok u) = (text : List ℕ) × IsCheckedInput query input text × Appends old new text
CheckInputEnds query input old new (Err Write) = (text : List ℕ) × IsCheckedInput query input text × AppendsFront old new text
CheckInputEnds query input old new (Err (Query code start end)) = (new ≡ old) × IsInputCheckFault query input (Query code start end)
CheckInputEnds query input old new (Err (Input code line)) = (new ≡ old) × IsInputCheckFault query input (Input code line)
CheckInputEnds query input old new (Err NoMemory) = new ≡ old
CheckInputEnds query input old new (Err ReadQuery) = new ≡ old
CheckInputEnds query input old new (Err ReadInput) = new ≡ old
CheckInputEnds query input old new (Err _) = ⊥
