-- A network: the vertices and edges of a dataflow graph, with the worker to which each record goes. That is all that the engine needs to know of a
-- graph. (Naiad, SOSP 2013, sections 2.1 and 3.1: the logical graph, and the workers that run it.)
use Rattle.std.specs.Prelude.{ℕ, List}
use Rattle.semantics.specs.Multiset.{Record}
use Rattle.semantics.specs.Kinds.{Role}
use Rattle.semantics.specs.Time.{Time}
use Rattle.semantics.specs.Could.{Pointstamp}

pub record Network : Type 1 where
  pub workers : ℕ
  -- vertices below this are the inputs
  pub inputs : ℕ
  pub edges : ℕ
  -- how a vertex answers what comes in
  pub role : (vertex : ℕ) → Role
  -- each edge leads from an out port of a vertex to an in port of a vertex
  pub source : (edge : ℕ) → ℕ
  pub out_port : (edge : ℕ) → ℕ
  pub target : (edge : ℕ) → ℕ
  pub in_port : (edge : ℕ) → ℕ
  -- how many in ports a vertex has
  pub ports : (vertex : ℕ) → ℕ
  -- what a vertex does to the time of what it sends
  pub act : (vertex : ℕ) → Time → Time
  -- what the equation of a vertex reads at a time, by place, if `at` is what comes to the in ports
  pub reads : (vertex : ℕ) → (at : (port : ℕ) → Time → List Record) → Time → (place : ℕ) → List Record
  -- what a vertex makes at a time, for an out port, from what it reads
  pub op : (vertex out : ℕ) → Time → (ins : ℕ → List Record) → List Record
  -- the worker to which a record goes on an edge, from a worker
  pub home : (sender edge : ℕ) → Record → ℕ
  -- the first pointstamp could result in the second
  pub Could : Pointstamp → Pointstamp → Type 0
  -- used by proofs only: the edge into an in port; the times that a vertex's action takes to this one; the other times of which a vertex reads what
  -- came; and that the location is in the graph and the time has its depth
  pub edge_into : (vertex port : ℕ) → ℕ
  pub times_before : (vertex : ℕ) → Time → List Time
  pub reads_back : (vertex : ℕ) → Time → List Time
  pub IsPointstamp : Pointstamp → Type 0
