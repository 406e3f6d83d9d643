use Rattle.std.proofs.Common.{◌≡◌, length}
use Rattle.path_summary.specs.Made.{ArePacked}
use Rattle.path_summary.proofs.paths.rows_of.Given as goal

abbrev pub invariant-loop-vertex : goal.invariant-loop-vertex
invariant-loop-vertex l = record {
  long : length l.rows.items ≡ l.vertex;
  packed : ArePacked l.fn.links l.summaries l.rows.items;
}
