-- Walks over the edges of a graph, and the progress of a row by passes over them.
use Rattle.std.specs.Prelude.{◌≡◌, ℕ, zero, suc, ◌*◌, ◌≤◌, ◌<◌, Bool, true, cond, List, length, Option, Some, slice_get, slice_index_or}
use Rattle.semantics.specs.Dataflow.{Goes}
use Rattle.semantics.specs.Limits.{max_loops}
use Rattle.semantics.specs.Summary.{Summary, then_action}
use Rattle.graph.specs.Limits.{max_vertices, max_edges}
use Rattle.path_summary.specs.Carried.{identity}
use Rattle.path_summary.specs.Linking.{Link, Links}
use Rattle.path_summary.specs.Rows.{entry, HasBelow, IsClosed}

-- each edge respects the loops, and a vertex's depth is the number of loops around it: as in the definition's IsNested
pub record AreNested (w : Links) (loops : ℕ → List ℕ) : Type 0 where
  pub homes : (v : ℕ) → v < length w.depths → length (loops v) ≡ slice_index_or w.depths v 0
  pub shallow : (v : ℕ) → v < length w.depths → slice_index_or w.depths v 0 ≤ max_loops
  pub goes : (e : ℕ) (k : Link) → slice_get w.edges e ≡ Some k → Goes loops k.source k.target k.acts
  pub into : (e : ℕ) (k : Link) → slice_get w.edges e ≡ Some k → k.target < length w.depths

-- the same for some loops
pub record HaveLoops (w : Links) : Type 0 where
  pub loops : ℕ → List ℕ
  pub nested : AreNested w loops

-- A walk of n edges from v to x, through vertices of a set only, and its summary.
abbrev pub Walk : (w : Links) (v : ℕ) (within : ℕ → Bool) (n x : ℕ) → Summary → Type 0
Walk w v within zero x f = (x ≡ v) × (f ≡ identity (slice_index_or w.depths v 0)) × (within x ≡ true)
Walk w v within (suc n) x h =
    (e : ℕ) × (k : Link) × (f : Summary) × (slice_get w.edges e ≡ Some k) × Walk w v within n k.source f
    × (x ≡ k.target) × (h ≡ then_action k.acts f) × (within x ≡ true)

-- all vertices
abbrev pub every : ℕ → Bool
every x = true

-- how many of the first vertices are in the set
abbrev pub size : (ℕ → Bool) → ℕ → ℕ
size within zero = 0
size within (suc n) = cond (within n) (suc (size within n)) (size within n)

-- the summary of a walk of at most that many edges
pub record IsOfWalk (w : Links) (v bound x : ℕ) (f : Summary) : Type 0 where
  pub steps : ℕ
  pub few : steps ≤ bound
  pub walk : Walk w v every steps x f

-- The row of v after `passes` passes: each entry is of a walk, v's own entry is there from the start, and for each walk through that many vertices
-- there is an entry at or below its summary.
pub record HasGot (w : Links) (v bound passes : ℕ) (row : List (Option Summary)) : Type 0 where
  pub long : length row ≡ length w.depths
  pub of_walks : (x : ℕ) (f : Summary) → entry row x ≡ Some f → IsOfWalk w v bound x f
  pub self : HasBelow row v (identity (slice_index_or w.depths v 0))
  pub ahead : (within : ℕ → Bool) → size within (length w.depths) ≤ passes → (n x : ℕ) (f : Summary) → Walk w v within n x f → HasBelow row x f

-- A row after part of a pass, over the first edges: no entry is lost, and for each entry that there was at first and each of these edges, there is an
-- entry at or below where they lead.
pub record HasPassed (w : Links) (v bound edges : ℕ) (old row : List (Option Summary)) : Type 0 where
  pub long : length row ≡ length w.depths
  pub of_walks : (x : ℕ) (f : Summary) → entry row x ≡ Some f → IsOfWalk w v bound x f
  pub kept : (x : ℕ) (f : Summary) → entry old x ≡ Some f → HasBelow row x f
  pub done : (e : ℕ) (k : Link) (f : Summary) → e < edges → slice_get w.edges e ≡ Some k → entry old k.source ≡ Some f
      → HasBelow row k.target (then_action k.acts f)

-- It is the row of some vertex before the first pass.
pub record IsOpened (w : Links) (row : List (Option Summary)) : Type 0 where
  pub vertex : ℕ
  pub known : vertex < length w.depths
  pub got : HasGot w vertex 0 0 row

-- It is the row of some vertex after some passes, of which there are at most `max_vertices`, each over at most `max_edges` edges.
pub record IsUnderWay (w : Links) (row : List (Option Summary)) : Type 0 where
  pub vertex : ℕ
  pub known : vertex < length w.depths
  pub passes : ℕ
  pub few : passes ≤ max_vertices
  pub got : HasGot w vertex (max_edges * passes) passes row

-- It is a whole row of the table.
pub record IsGoodRow (w : Links) (v : ℕ) (row : List (Option Summary)) : Type 0 where
  pub bound : ℕ
  pub of_walks : (x : ℕ) (f : Summary) → entry row x ≡ Some f → IsOfWalk w v bound x f
  pub closed : IsClosed w row
  pub self : HasBelow row v (identity (slice_index_or w.depths v 0))
