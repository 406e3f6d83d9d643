use Rattle.std.proofs.Common.{◌≡◌, ◌++◌, drop}
use Rattle.csv_cells.specs.Encoded.{line_text, numbers_text}
use Rattle.csv_cells.proofs.encoding.append_line.Given as goal

-- what is written, and then the numbers that are left, is the line
abbrev pub invariant-loop-i : goal.invariant-loop-i
invariant-loop-i l = l.out.items ++ numbers_text (drop l.i l.numbers) ≡ l.fn.out.items ++ line_text l.name l.numbers
