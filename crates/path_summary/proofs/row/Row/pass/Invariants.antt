use Rattle.std.proofs.Common.{◌≡◌, ◌+◌, ◌<◌, ℕ, Some, false, length}
use Rattle.semantics.specs.Summary.{Summary}
use Rattle.path_summary.specs.Codes.{row_of, AreCodes, Grows}
use Rattle.path_summary.specs.Rows.{entry}
use Rattle.path_summary.specs.Walks.{IsOfWalk, HasPassed}
use Rattle.path_summary.proofs.row.Row.pass.Given as goal

abbrev pub invariant-loop-link : goal.invariant-loop-link
invariant-loop-link l = record {
  grows : Grows l.fn.summaries l.summaries;
  codes : AreCodes l.summaries l.self;
  passed : (v b : ℕ) → v < length l.fn.links.depths → length (row_of l.fn.summaries l.fn.self) ≡ length l.fn.links.depths
      → ((x : ℕ) (f : Summary) → entry (row_of l.fn.summaries l.fn.self) x ≡ Some f → IsOfWalk l.fn.links v b x f)
      → HasPassed l.fn.links v (b + l.link-index) l.link-index (row_of l.fn.summaries l.fn.self) (row_of l.summaries l.self);
  still : l.changed ≡ false → row_of l.summaries l.self ≡ row_of l.fn.summaries l.fn.self;
}
