use Rattle.std.proofs.Common.{◌≡◌, ◌+◌, ◌≤◌, drop, length}
use Rattle.std.specs.Prelude.{vec_len, vec_capacity}
use Rattle.simple_trackers.proofs.ChangesMade.{IsMade}
use Rattle.simple_trackers.proofs.asking.make.Given as goal

abbrev pub invariant-loop-i : goal.invariant-loop-i
invariant-loop-i g l = record {
  graph : g.P.Progress.graph l.tracker ≡ g.P.Progress.graph l.fn.tracker;
  made : IsMade (g.P.Progress.graph l.fn.tracker) (g.P.Progress.content l.fn.tracker) l.fn.changes (g.P.Progress.content l.tracker) (drop l.i l.fn.changes) l.answers.items;
  room : length l.fn.changes ≤ g.P.Progress.room l.tracker + l.i;
  len : vec_len l.answers ≤ l.i;
  capacity : vec_capacity l.answers ≡ vec_capacity l.fn.answers;
}
