-- The codes of a row, as they are stored.
use Rattle.std.specs.Prelude.{ℕ, List}
use Rattle.path_summary.specs.declared.kept.Codes.{Codes}
use Rattle.path_summary.specs.declared.kept.Codes.TheVariants.{Narrow, Wide}

-- in either width
abbrev pub codes_of : Codes → List ℕ
codes_of (Narrow codes) = codes.items
codes_of (Wide codes) = codes.items
