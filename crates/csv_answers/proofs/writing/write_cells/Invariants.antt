use Rattle.std.proofs.Common.{◌++◌, [], map, take}
use Rattle.std.specs.Prelude.{option_map}
use Rattle.csv_answers.specs.Files.{HasBegun, IsBetween, labelled}
use Rattle.csv_answers.proofs.writing.write_cells.Given as goal

abbrev pub invariant-loop-i : goal.invariant-loop-i
invariant-loop-i l = record {
  begun : IsBetween l.fn.writer → HasBegun l.fn.writer l.writer (labelled (option_map (λ s. s.now) l.fn.first) [] ++ take l.i (map (λ v. v.items) l.cells));
}
