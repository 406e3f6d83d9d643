-- How many columns tables have, as numbers in memory.
use Rattle.std.specs.Prelude.{◌≡◌, ℕ, List, map, length, slice_index_or}
use Rattle.semantics.specs.Query.{Input}
use Rattle.sql_meaning.specs.Script.{Table, Query}
use Rattle.sql_meaning.specs.WellFormed.{Widths}
use Rattle.sql.specs.Text.{widths_of}

-- of a given table, and of one that is made, by the numbers `ws` of those
abbrev pub width_in : List Input → (ws : List ℕ) → Widths
width_in inputs ws (Table.given i) = slice_index_or (map (λ (a : Input). a.arity) inputs) i 0
width_in inputs ws (Table.made n) = slice_index_or ws n 0

-- the numbers are those of the tables, the latest of which is first
abbrev pub AreWidths : List Input → List ℕ → List Query → Type 0
AreWidths inputs ws tables = (length ws ≡ length tables) × (width_in inputs ws ≡ widths_of inputs tables)
