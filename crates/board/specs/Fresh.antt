-- What a new board is made of.
use Rattle.std.specs.Prelude.{◌≡◌, [], ℕ, ◌<◌, false, List, length, Option, None, slice_index_or}
use Rattle.semantics.specs.Graph.{input_count}
use Rattle.graph.specs.Shown.{GraphValue, shown_graph}
use Rattle.vertices.specs.Shards.{Shows}
use Rattle.vertices.specs.declared.shard.Shard.{Shard}
use Rattle.events.specs.Stations.{IsShardAt, arity_in}
use Rattle.events.specs.Wired.{Wired, graph_in}
use Rattle.board.specs.Shown.{Shown, Side, emitted_by, input_at, no_input, side_in}
use Rattle.board.specs.Showing.{OnShard}
use Rattle.board.specs.WorkerShown.{IsIdle}

-- a shard of the vertex is at home, and has absorbed nothing
abbrev pub IsFreshSlot : GraphValue → (vertex : ℕ) → Option Shard → Type 0
IsFreshSlot g v o = OnShard (λ x. IsShardAt (shown_graph g) (arity_in g) v x × Shows x (λ p t. [])) o

-- such a shard of each of the first n vertices
pub record HasShards (g : GraphValue) (n : ℕ) (shards : List (Option Shard)) : Type 0 where
  pub long : length shards ≡ n
  pub each : (v : ℕ) → v < n → IsFreshSlot g v (slice_index_or shards v None)

-- a worker with this wiring, with such a shard of each vertex, and nothing to do
pub record IsFreshSide (w : Wired) (x : Side) : Type 0 where
  pub wired : x.wired ≡ w
  pub idle : IsIdle x
  pub shards : HasShards w.graph (length (graph_in w)) x.shards

-- n such workers
pub record HasFreshSides (w : Wired) (n : ℕ) (sides : List Side) : Type 0 where
  pub long : length sides ≡ n
  pub each : (k : ℕ) → k < n → IsFreshSide w (side_in sides k)

-- a state of a graph and n workers, with nothing done yet
pub record IsNew (g : GraphValue) (n : ℕ) (s : Shown) : Type 0 where
  pub graph : s.graph ≡ g
  pub inputs : length s.inputs ≡ input_count (shown_graph g)
  pub unfed : (i : ℕ) → input_at s i ≡ no_input
  pub sides : HasFreshSides (record { graph = g; workers = n }) n s.sides
  pub room : length s.emitted ≡ length (shown_graph g)
  pub emitted : (v : ℕ) → emitted_by s.emitted v ≡ []
  pub runs : s.stopped ≡ false
