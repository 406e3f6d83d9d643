use Rattle.std.proofs.Common.{map, take}
use Rattle.table_files.specs.Read.{AreNamed}
use Rattle.table_files.proofs.files.paths_of.Given as goal

abbrev pub invariant-loop-i : goal.invariant-loop-i
invariant-loop-i l = record { named : AreNamed (take l.i l.schema.inputs.items) (map (λ s. s.now) l.words) (map (λ s. s.now) l.paths.items) }
