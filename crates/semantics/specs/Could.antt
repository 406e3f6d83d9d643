-- Pointstamps, and which could result in which. (Naiad, SOSP 2013, section 2.3.)
use Rattle.std.specs.Prelude.{◌≡◌, ℕ, ◌<◌, List, [], ◌∷◌, length}
use Rattle.semantics.specs.Time.{Time, after_action, IsAtMost}
use Rattle.semantics.specs.Kinds.{action}
use Rattle.semantics.specs.Graph.{Graph, vertex as vertex_of, edge_count, target, edge_source}

-- the edge or the vertex of that number
pub data Location : Type 0 where
  edge : ℕ → Location
  vertex : ℕ → Location

-- a time with a location
pub record Pointstamp : Type 0 where
  pub time : Time
  pub location : Location

-- on an edge, at a time
abbrev pub on_edge : ℕ → Time → Pointstamp
on_edge e t = record { time = t; location = Location.edge e }

-- at a vertex, at a time
abbrev pub at_vertex : ℕ → Time → Pointstamp
at_vertex v t = record { time = t; location = Location.vertex v }

-- the graph has the location, and the time has its depth
abbrev pub IsTimeAt : Graph → Location → Time → Type 0
IsTimeAt g (Location.edge e) t = (e < edge_count g) × (length t.counters ≡ (vertex_of g (target g e)).depth)
IsTimeAt g (Location.vertex v) t = (v < length g) × (length t.counters ≡ (vertex_of g v).depth)

-- ---- paths

-- by the number of an edge: from it to the vertex that it enters, or from the vertex that it leaves to it
pub data PathStep : Type 0 where
  enters leaves : ℕ → PathStep

-- the edge of a step
abbrev pub step_edge : PathStep → ℕ
step_edge (PathStep.enters e) = e
step_edge (PathStep.leaves e) = e

-- the location at which a step starts
abbrev pub step_from : Graph → PathStep → Location
step_from g (PathStep.enters e) = Location.edge e
step_from g (PathStep.leaves e) = Location.vertex (edge_source g e).vertex

-- the location at which a step ends
abbrev pub step_to : Graph → PathStep → Location
step_to g (PathStep.enters e) = Location.vertex (target g e)
step_to g (PathStep.leaves e) = Location.edge e

-- a vertex's action applies on the way out
abbrev pub step_time : Graph → PathStep → Time → Time
step_time g (PathStep.enters e) t = t
step_time g (PathStep.leaves e) t = after_action (action (vertex_of g (edge_source g e).vertex).kind) t

-- the steps lead from l to m
abbrev pub IsPath : Graph → Location → List PathStep → Location → Type 0
IsPath g l [] m = l ≡ m
IsPath g l (s ∷ path) m = (step_edge s < edge_count g) × (l ≡ step_from g s) × IsPath g (step_to g s) path m

-- the time to which a path takes a time
abbrev pub path_time : Graph → List PathStep → Time → Time
path_time g [] t = t
path_time g (s ∷ path) t = path_time g path (step_time g s t)

-- some path, perhaps of no steps, takes p's time to one at or before q's
pub record CouldResultIn (g : Graph) (p q : Pointstamp) : Type 0 where
  pub starts : IsTimeAt g p.location p.time
  pub ends : IsTimeAt g q.location q.time
  pub path : List PathStep
  pub leads : IsPath g p.location path q.location
  pub in_time : IsAtMost (path_time g path p.time) q.time

-- ---- frontiers, for any set of pointstamps and any such relation

-- none of these could result in p
abbrev pub NoneOf : (could : Pointstamp → Pointstamp → Type 0) → (these : Pointstamp → Type 0) → Pointstamp → Type 0
NoneOf could these p = (q : Pointstamp) → these q → could q p → ⊥

-- none of these, except p itself, could result in p
abbrev pub NoOtherOf : (could : Pointstamp → Pointstamp → Type 0) → (these : Pointstamp → Type 0) → Pointstamp → Type 0
NoOtherOf could these p = (q : Pointstamp) → these q → could q p → q ≡ p
