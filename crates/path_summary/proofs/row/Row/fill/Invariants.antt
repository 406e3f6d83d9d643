use Rattle.std.proofs.Common.{◌*◌, ◌<◌, ℕ, length}
use Rattle.path_summary.specs.Codes.{row_of, AreCodes, Grows}
use Rattle.path_summary.specs.Walks.{HasGot}
use Rattle.path_summary.proofs.row.Row.fill.Given as goal

abbrev pub invariant-loop : goal.invariant-loop
invariant-loop l = record {
  grows : Grows l.fn.summaries l.summaries;
  codes : AreCodes l.summaries l.self;
  got : (v : ℕ) → v < length l.fn.links.depths → HasGot l.fn.links v 0 0 (row_of l.fn.summaries l.fn.self)
      → HasGot l.fn.links v (8192 * l.counter) l.counter (row_of l.summaries l.self);
}
