-- One summary for each two vertices that a path connects, and what the summaries decide.
use Rattle.std.specs.Prelude.{◌≡◌, ◌⊎◌, ℕ, ◌≤◌, ◌<◌, List, length, Option, Some}
use Rattle.semantics.specs.Time.{Time, Action, IsAtMost}
use Rattle.semantics.specs.Kinds.{action}
use Rattle.semantics.specs.Graph.{Graph, vertex, edge_count, target, edge_source}
use Rattle.semantics.specs.Could.{Location, Pointstamp, PathStep, IsPath, path_time}
use Rattle.semantics.specs.Summary.{Summary, then_action}
use Rattle.path_summary.specs.Order.{Later}
use Rattle.path_summary.specs.Carried.{carried, counters_after, identity, Sits, Below}

-- some path from v to x does exactly what the summary does
pub record IsOfPath (g : Graph) (v x : ℕ) (f : Summary) : Type 0 where
  pub path : List PathStep
  pub leads : IsPath g (Location.vertex v) path (Location.vertex x)
  pub does : (t : Time) → length t.counters ≡ (vertex g v).depth → path_time g path t ≡ record { epoch = t.epoch; counters = carried f t.counters }
  pub sits : Sits (vertex g v).depth f

-- the entry exists, and takes no counters to ones after those of f
pub record Reaches (depth : ℕ) (entry : Option Summary) (f : Summary) : Type 0 where
  pub least : Summary
  pub known : entry ≡ Some least
  pub below : Below depth least f

-- Each entry is of a path, and no edge leads below an entry. This is enough for a table to be exact, however it was made.
pub record IsTable (g : Graph) (table : ℕ → ℕ → Option Summary) : Type 0 where
  pub sound : (v x : ℕ) (f : Summary) → v < length g → table v x ≡ Some f → IsOfPath g v x f
  pub self : (v : ℕ) → v < length g → Reaches (vertex g v).depth (table v v) (identity (vertex g v).depth)
  pub closed : (v e : ℕ) (f : Summary) → v < length g → e < edge_count g → table v (edge_source g e).vertex ≡ Some f →
      Reaches (vertex g v).depth (table v (target g e)) (then_action (action (vertex g (edge_source g e).vertex).kind) f)

-- the vertex from which paths from a location go on
abbrev pub home_of : Graph → Location → ℕ
home_of g (Location.edge e) = target g e
home_of g (Location.vertex v) = v

-- the entry followed by the action takes t to a time at or before u
pub record Covers (entry : Option Summary) (a : Action) (t u : Time) : Type 0 where
  pub epochs : t.epoch ≤ u.epoch
  pub least : Summary
  pub known : entry ≡ Some least
  pub counters : Later (counters_after a (carried least t.counters)) u.counters

-- what is at l at t is still there at u
pub record Stays (l : Location) (t : Time) (m : Location) (u : Time) : Type 0 where
  pub same : l ≡ m
  pub in_time : IsAtMost t u

-- What the table decides about p and another's location and time. To a vertex: by the entry from p's home. To an edge: p stays on it, or by the entry
-- to the vertex that the edge leaves and then that vertex's action.
abbrev pub Decided : Graph → (ℕ → ℕ → Option Summary) → Pointstamp → Location → Time → Type 0
Decided g table p (Location.vertex x) u = Covers (table (home_of g p.location) x) Action.stay p.time u
Decided g table p (Location.edge e) u =
    Stays p.location p.time (Location.edge e) u
    ⊎ Covers (table (home_of g p.location) (edge_source g e).vertex) (action (vertex g (edge_source g e).vertex).kind) p.time u
