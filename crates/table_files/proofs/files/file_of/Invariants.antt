use Rattle.std.proofs.Common.{◌++◌, ◌∷◌, map}
use Rattle.std.specs.Prelude.{Contains, IfSome}
use Rattle.table_files.proofs.files.file_of.Given as goal

abbrev pub invariant-loop-i : goal.invariant-loop-i
invariant-loop-i l = record { found : IfSome l.found (λ path. Contains (map (λ s. s.now) l.words) (l.name ++ 61 ∷ path.now)) }
