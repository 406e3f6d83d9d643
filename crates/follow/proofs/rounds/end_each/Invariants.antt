use Rattle.std.proofs.Common.{◌≡◌, All, length}
use Rattle.std.specs.Prelude.{IfOk, OnOk}
use Rattle.board.specs.Shown.{tables}
use Rattle.alone.specs.Scenes.{AreFreeBut}
use Rattle.follow.specs.Working.{HasEnded}
use Rattle.follow.specs.Slots.{IsSlotOf, workers_of}
use Rattle.follow.proofs.rounds.end_each.Given as goal

abbrev pub invariant-loop-slot : goal.invariant-loop-slot
invariant-loop-slot g l = record {
  same : tables l.board.shown ≡ tables l.fn.board.shown;
  own : All (IsSlotOf (tables l.fn.board.shown)) l.slots.items;
  ended : IfOk l.round (λ r. HasEnded r l.slots.items l.fn.slots.items l.fn.board.shown l.board.shown);
  free : OnOk l.round (AreFreeBut l.fn.board.shown (workers_of l.fn.slots.items) → AreFreeBut l.board.shown (workers_of l.slots.items));
}

abbrev pub decreases-loop-slot : goal.decreases-loop-slot
decreases-loop-slot g l = length l.slots.items
