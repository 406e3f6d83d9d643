-- What is kept of a time that has passed at its vertex is let go.
use Rattle.std.specs.Prelude.{◌≡◌, ℕ, false, length, Option, Some, None, slice_index_or, slice_set}
use Rattle.semantics.specs.Could.{IsTimeAt, Location, Pointstamp}
use Rattle.semantics.specs.Kinds.{looks_back}
use Rattle.semantics.specs.Time.{Time}
use Rattle.graph.specs.Shown.{shown_graph}
use Rattle.machine.specs.World.{World}
use Rattle.vertices.specs.ByTime.{Forgets}
use Rattle.vertices.specs.Shards as shards
use Rattle.vertices.specs.Shards.{TakesArity, shard_kind}
use Rattle.vertices.specs.declared.shard.Shard.{Shard}
use Rattle.board.specs.Shown.{Shown, Side, side_at, tables}
use Rattle.board.specs.Showing.{Shows}
use Rattle.board.specs.Steps.{with_side}

-- a shard lets go of what it keeps of a time
pub record LetsGo (time : Time) (before after : Shard) : Type 0 where
  pub kind : shard_kind after ≡ shard_kind before
  pub takes : (port arity : ℕ) → TakesArity before port arity → TakesArity after port arity
  pub forgets : Forgets (shards.Shows before) (shards.Shows after) time

-- the same of a shard that is at home
pub record LetsGoAt (time : Time) (before after : Option Shard) : Type 0 where
  pub old : Shard
  pub new : Shard
  pub was : before ≡ Some old
  pub is : after ≡ Some new
  pub go : LetsGo time old new

-- a shard at home whose notifications read only what came at their time
abbrev pub LooksHere : Option Shard → Type 0
LooksHere o = (x : Shard) × (o ≡ Some x) × (looks_back (shard_kind x) ≡ false)

-- the worker's shard of a vertex may let go of a time, once it has passed there
pub record MayForget (s : Shown) (worker : ℕ) (p : Pointstamp) : Type 0 where
  pub vertex : ℕ
  pub at : p.location ≡ Location.vertex vertex
  pub shard : LooksHere (slice_index_or (side_at s worker).shards vertex None)
  pub located : IsTimeAt (shown_graph s.graph) (Location.vertex vertex) p.time

-- a worker's shard of a vertex lets go of a time
pub record ForgetsIn (x y : Side) (vertex : ℕ) (time : Time) : Type 0 where
  pub old : Shard
  pub new : Shard
  pub was : slice_index_or x.shards vertex None ≡ Some old
  pub go : LetsGo time old new
  pub side : y ≡ record x { shards = slice_set x.shards vertex (Some new) }

-- the same on the board
pub record ForgetsAt (s t : Shown) (worker : ℕ) (p : Pointstamp) : Type 0 where
  pub vertex : ℕ
  pub at : p.location ≡ Location.vertex vertex
  pub old : Shard
  pub new : Shard
  pub was : slice_index_or (side_at s worker).shards vertex None ≡ Some old
  pub go : LetsGo p.time old new
  pub state : t ≡ with_side s worker (record (side_at s worker) { shards = slice_set (side_at s worker).shards vertex (Some new) })

-- Each world that was shown is still shown, and only what shards keep is another.
pub record KeepsLess (s t : Shown) (worker : ℕ) : Type 0 where
  pub shows : (w : World) → Shows s w → Shows t w
  pub graph : t.graph ≡ s.graph
  pub workers : length t.sides ≡ length s.sides
  pub inputs : t.inputs ≡ s.inputs
  pub emitted : t.emitted ≡ s.emitted
  pub stopped : t.stopped ≡ s.stopped
  pub mail : (side_at t worker).mail ≡ (side_at s worker).mail
  pub place : (side_at t worker).place ≡ (side_at s worker).place
  pub tables : tables t ≡ tables s
