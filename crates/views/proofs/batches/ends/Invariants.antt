use Rattle.std.proofs.Common.{◌≡◌, ◌≤◌, ◌+◌, ℕ, drop, length}
use Rattle.views.specs.Queued.{batches_of}
use Rattle.views.proofs.batches.ends.Given as goal

abbrev pub invariant-loop-i : goal.invariant-loop-i
invariant-loop-i l = record {
  ends : (s : ℕ) → l.count + length (batches_of s (drop l.i l.fn.changes)) ≡ length (batches_of s l.fn.changes);
  few : l.count ≤ l.i;
}
