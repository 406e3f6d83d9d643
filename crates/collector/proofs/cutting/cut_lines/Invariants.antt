use Rattle.std.proofs.Common.{◌≡◌, ◌++◌, map}
use Rattle.collector.specs.Parts.{together}
use Rattle.collector.proofs.cutting.cut_lines.Given as goal

abbrev pub invariant-loop-part : goal.invariant-loop-part
invariant-loop-part l = together (map (λ r. r.now) l.parts.items) ++ l.rest ≡ l.text
