use Rattle.std.proofs.Common.{◌≡◌, ◌≤◌, ◌+◌, drop}
use Rattle.views.specs.Queued.{adds_in, removes_in}
use Rattle.views.proofs.batches.times.Given as goal

abbrev pub invariant-loop-i : goal.invariant-loop-i
invariant-loop-i l = record {
  adds : adds_in l.fn.changes l.fn.p ≡ l.adds + adds_in (drop l.i l.fn.changes) l.fn.p;
  removes : removes_in l.fn.changes l.fn.p ≡ l.removes + removes_in (drop l.i l.fn.changes) l.fn.p;
  few_adds : l.adds ≤ l.i;
  few_removes : l.removes ≤ l.i;
}
