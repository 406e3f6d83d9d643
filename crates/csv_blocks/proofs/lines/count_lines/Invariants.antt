use Rattle.std.proofs.Common.{◌≡◌, take}
use Rattle.csv_blocks.specs.Texts.{lines}
use Rattle.csv_blocks.proofs.lines.count_lines.Given as goal

-- the line feeds so far
abbrev pub invariant-loop-byte : goal.invariant-loop-byte
invariant-loop-byte l = l.count ≡ lines (take l.byte-index l.text)
