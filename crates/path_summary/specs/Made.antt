-- The whole table of a graph.
use Rattle.std.specs.Prelude.{◌≡◌, ◌⊎◌, ℕ, ◌<◌, List, [], length, Option, slice_index_or}
use Rattle.semantics.specs.Time.{Action, Time}
use Rattle.semantics.specs.Could.{Location, Pointstamp}
use Rattle.semantics.specs.Graph.{Graph}
use Rattle.semantics.specs.Dataflow.{IsDataflow}
use Rattle.semantics.specs.Summary.{Summary}
use Rattle.path_summary.specs.Linking.{Links, Draws, home_in, link_of}
use Rattle.path_summary.specs.Tables.{Covers, Stays}
use Rattle.path_summary.specs.Walks.{IsGoodRow}
use Rattle.path_summary.specs.Codes.{decoded, row_of, AreCodes}

-- the code from v to x; 0 if there is none
abbrev pub code_at : List (List ℕ) → ℕ → ℕ → ℕ
code_at rows v x = slice_index_or (slice_index_or rows v []) x 0

-- the entry from v to x
abbrev pub entry_at : List Summary → List (List ℕ) → ℕ → ℕ → Option Summary
entry_at summaries rows v x = decoded summaries (code_at rows v x)

-- the codes give a whole row of v
pub record IsPacked (w : Links) (summaries : List Summary) (codes : List ℕ) (v : ℕ) : Type 0 where
  pub good : IsGoodRow w v (row_of summaries codes)
  pub known : AreCodes summaries codes

-- each row so far is whole
abbrev pub ArePacked : Links → List Summary → List (List ℕ) → Type 0
ArePacked w summaries rows = (v : ℕ) → v < length rows → IsPacked w summaries (slice_index_or rows v []) v

-- what is stored for a graph: its edges, and a row for each vertex
pub record IsMade (g : Graph) (w : Links) (summaries : List Summary) (rows : List (List ℕ)) : Type 0 where
  pub draws : Draws w g
  pub dataflow : ∥ IsDataflow g ∥₁
  pub long : length rows ≡ length w.depths
  pub packed : ArePacked w summaries rows

-- what the rows decide about p and another's location and time
abbrev pub DecidedIn : Links → List Summary → List (List ℕ) → Pointstamp → Location → Time → Type 0
DecidedIn w summaries rows p (Location.vertex x) u = Covers (entry_at summaries rows (home_in w p.location) x) Action.stay p.time u
DecidedIn w summaries rows p (Location.edge e) u =
    Stays p.location p.time (Location.edge e) u
    ⊎ Covers (entry_at summaries rows (home_in w p.location) (link_of w e).source) (link_of w e).acts p.time u
