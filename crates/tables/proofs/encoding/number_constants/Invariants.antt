use Rattle.std.proofs.Common.{take}
use Rattle.csv_cells.specs.Texts.{texts_of}
use Rattle.tables.specs.Inputs.{AreAdded}
use Rattle.tables.proofs.encoding.number_constants.Given as goal

abbrev pub invariant-loop-i : goal.invariant-loop-i
invariant-loop-i l = record { added : AreAdded (take l.i l.constants) (texts_of l.fn.dictionary) (texts_of l.dictionary) }
