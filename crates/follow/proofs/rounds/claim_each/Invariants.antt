use Rattle.std.proofs.Common.{◌≡◌, ◌<◌, All, ℕ, length}
use Rattle.std.specs.List.{AllByRecursion}
use Rattle.board.specs.Shown.{tables}
use Rattle.alone.specs.Scenes.{AreFreeBut}
use Rattle.alone.specs.Moves.{Moves}
use Rattle.follow.specs.Working.{TookNothing}
use Rattle.follow.specs.Slots.{IsSlotOf, workers_of}
use Rattle.follow.proofs.rounds.claim_each.Given as goal

abbrev pub invariant-loop-worker : goal.invariant-loop-worker
invariant-loop-worker g l = record {
  end_is : l.worker-end ≡ length l.fn.board.shown.sides;
  same : tables l.board.shown ≡ tables l.fn.board.shown;
  own : All (IsSlotOf (tables l.fn.board.shown)) l.slots.items;
  moves : Moves l.fn.board.shown l.board.shown;
  free : AreFreeBut l.board.shown (workers_of l.slots.items);
  below : AllByRecursion (λ (k : ℕ). k < l.worker) (workers_of l.slots.items);
  none : TookNothing l.slots.items l.worker l.fn.board.shown l.board.shown;
}
