-- The world that a board shows.
use Rattle.std.specs.Prelude.{◌≡◌, ◌≢◌, ◌<◌, ℕ, length, Option, Some, None, slice_index_or}
use Rattle.std.specs.List.{AllByRecursion}
use Rattle.graph.specs.Shown.{shown_graph}
use Rattle.semantics.specs.Multiset.{◌≈◌}
use Rattle.semantics.specs.Could.{Pointstamp, at_vertex}
use Rattle.semantics.specs.Shard.{Absorbed}
use Rattle.semantics.specs.Time.{Time}
use Rattle.machine.specs.Active.{IsActive}
use Rattle.machine.specs.Network.{Network}
use Rattle.machine.specs.World.{World}
use Rattle.vertices.specs.Shards as shards
use Rattle.vertices.specs.declared.shard.Shard.{Shard}
use Rattle.tokens.specs.declared.rule.Place.{Place}
use Rattle.tokens.specs.declared.rule.Place.TheVariants.{Home, Out, Lost}
use Rattle.events.specs.Jobs.{Job}
use Rattle.board.specs.Shown.{Shown, Side, input_at, side_at, emitted_by, records_at, held_of, event_at, net}

-- a shard that is at home, or the one that is out, as it was when it went
abbrev pub known : Option Shard → Place Job → Option Shard
known (Some s) place = Some s
known None Home = None
known None (Out j) = Some j.before
known None (Lost j) = Some j.before

abbrev pub known_shard : Side → (vertex : ℕ) → Option Shard
known_shard x v = known (slice_index_or x.shards v None) x.place

-- there is a shard, and P holds of it
abbrev pub OnShard : (Shard → Type 0) → Option Shard → Type 0
OnShard P None = ⊥
OnShard P (Some s) = P s

-- each worker has a shard of each vertex, and P holds of it
abbrev pub EachShard : Shown → (P : (worker vertex : ℕ) → Shard → Type 0) → Type 0
EachShard s P = (k v : ℕ) → k < length s.sides → v < length (shown_graph s.graph) → OnShard (P k v) (known_shard (side_at s k) v)

-- something that is active could result in the time at the vertex
abbrev pub CanCome : Network → World → (vertex : ℕ) → Time → Type 0
CanCome g w v t = (p : Pointstamp) × IsActive g w p × g.Could p (at_vertex v t)

-- the two are the same at a time, and at the other times of which the vertex then reads what came
pub record AgreeAt (g : Network) (vertex : ℕ) (a b : Absorbed) (t : Time) : Type 0 where
  pub here : (p : ℕ) → a p t ≡ b p t
  pub back : AllByRecursion (λ u. (p : ℕ) → a p u ≡ b p u) (g.reads_back vertex t)

-- The shard shows what its worker has absorbed according to the world, at each time that can still come. What was absorbed at other times may have
-- been let go. (Naiad, SOSP 2013, section 2.3: once no event can come before a notification, the state for its time can be discarded.)
pub record ShowsIn (g : Network) (w : World) (worker vertex : ℕ) (x : Shard) : Type 0 where
  pub kept : Absorbed
  pub shows : shards.Shows x kept
  pub same : (t : Time) → CanCome g w vertex t → AgreeAt g vertex kept (w.absorbed worker vertex) t

-- The board shows this world. Only the world has `sent`, and in it what was emitted is a multiset.
pub record Shows (s : Shown) (w : World) : Type 0 where
  pub stopped : w.stopped ≡ s.stopped
  pub open_epoch : (i : ℕ) → w.open_epoch i ≡ (input_at s i).open_epoch
  pub closed : (i : ℕ) → w.closed i ≡ (input_at s i).closed
  pub fed : (i e : ℕ) → w.fed i e ≡ records_at (input_at s i).fed e
  pub mail : (k : ℕ) → k < length s.sides → w.mail k ≡ (side_at s k).mail
  pub requests : (k : ℕ) → k < length s.sides → w.requests k ≡ (side_at s k).requests
  pub held : (k : ℕ) → k < length s.sides → w.held k ≡ held_of (side_at s k).place
  pub absorbed : EachShard s (ShowsIn (net s) w)
  pub emitted : (v e : ℕ) → w.emitted v e ≈ records_at (emitted_by s.emitted v) e

-- An event that is out is of this board; only its shard isn't at home.
pub record IsOwn (s : Shown) (x : Side) (j : Job) : Type 0 where
  pub wired : j.wired ≡ x.wired
  pub vertex : event_at (shown_graph s.graph) j.happening < length (shown_graph s.graph)
  pub away : slice_index_or x.shards (event_at (shown_graph s.graph) j.happening) None ≡ None
  pub others : (v : ℕ) → v < length (shown_graph s.graph) → v ≢ event_at (shown_graph s.graph) j.happening
      → (y : Shard) × (slice_index_or x.shards v None ≡ Some y)

-- the worker is wired for this graph and that many workers and has a shard of each vertex, and any event that is out is its own
pub record IsSideOf (s : Shown) (workers : ℕ) (x : Side) : Type 0 where
  pub wired : x.wired ≡ record { graph = s.graph; workers = workers }
  pub shards : length x.shards ≡ length (shown_graph s.graph)
  pub own : (j : Job) → x.place ≡ Out j → IsOwn s x j

abbrev pub AreSidesOf : Shown → ℕ → Type 0
AreSidesOf s workers = (k : ℕ) → k < length s.sides → IsSideOf s workers (side_at s k)
