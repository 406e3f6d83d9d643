-- What an unseen keeps.
use Rattle.std.specs.Prelude.{◌≡◌, []}
use Rattle.semantics.specs.Shard.{Absorbed}
use Rattle.semantics.specs.Time.{Time}
use Rattle.vertices.specs.ByTime.{AreStatesOf}
use Rattle.vertices.specs.LoopRows.{IsLoopOf, by_turn}
use Rattle.vertices.specs.States.{AreSetsThen}
use Rattle.vertices.specs.declared.unseen.UnseenShard.{UnseenShard}

-- it has absorbed these records, in some order: they are counted by time, and by the time outside the loop it has the first turn of each
pub record IsUnseenOf (s : UnseenShard) (a : Absorbed) : Type 0 where
  pub counted : AreStatesOf (AreSetsThen s.came.arity) s.came.times a
  pub one_port : (t : Time) → a 1 t ≡ []
  pub loops : AreStatesOf (IsLoopOf s.came.arity) s.loops (by_turn a)
