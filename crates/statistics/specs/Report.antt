-- The lines of a report of what each vertex did.
use Rattle.std.specs.Prelude.{◌≡◌, ◌⊎◌, ◌≤◌, ℕ, zero, suc, List, [], ◌++◌, codes, decimal, length, slice_index_or}
use Rattle.semantics.specs.Graph.{input_count, output_numbers, vertex}
use Rattle.semantics.specs.Multiset.{total}
use Rattle.graph.specs.Shown.{GraphValue, shown_graph, shown_names}
use Rattle.graph_text.specs.Text.{name_beside, vertex_text}
use Rattle.events.specs.Outputs.{counted}
use Rattle.driver.specs.Tallies.{Rows}
use Rattle.driver.specs.declared.tally.Counts.{Counts}

-- counters as numbers
abbrev pub numbers : Counts → List ℕ
numbers c = codes " events " ++ (decimal c.events ++ (codes " in " ++ (decimal c.received ++ (codes " sent " ++ (decimal c.sent ++ codes "\n")))))

-- the line of a vertex, and that of one of its workers; the head is the vertex's number and kind
abbrev pub line : (head : List ℕ) → Counts → List ℕ
line head c = head ++ numbers c

abbrev pub worker_line : (head : List ℕ) → (worker : ℕ) → Counts → List ℕ
worker_line head k c = head ++ (codes " worker " ++ (decimal k ++ numbers c))

-- the lines of the first n workers
abbrev pub worker_lines : (head : List ℕ) → List Counts → (n : ℕ) → List ℕ
worker_lines head row zero = []
worker_lines head row (suc n) = worker_lines head row n ++ worker_line head n (slice_index_or row n (record { events = 0; received = 0; sent = 0 }))

-- the counters of all workers together
abbrev pub sum_of : List Counts → Counts
sum_of row = record { events = counted (total (λ c. c.events) row); received = counted (total (λ c. c.received) row); sent = counted (total (λ c. c.sent) row) }

-- a line for all workers together, and perhaps one for each
abbrev pub IsOfVertex : (head : List ℕ) → List Counts → (text : List ℕ) → Type 0
IsOfVertex head row text = (text ≡ line head (sum_of row)) ⊎ (text ≡ line head (sum_of row) ++ worker_lines head row (length row))

-- the number and the kind of a vertex, of an output with its name
abbrev pub head_of : GraphValue → (vertex : ℕ) → List ℕ
head_of g v = vertex_text v (vertex (shown_graph g) v).kind (name_beside (output_numbers (shown_graph g)) (shown_names g) v)

-- the lines of the first n vertices
abbrev pub AreOfVertices : GraphValue → (rows : ℕ → List Counts) → (n : ℕ) → (text : List ℕ) → Type 0
AreOfVertices g rows zero text = text ≡ []
AreOfVertices g rows (suc n) text = (before : List ℕ) × (here : List ℕ) × AreOfVertices g rows n before × IsOfVertex (head_of g n) (rows n) here × (text ≡ before ++ here)

-- two lines more: how many messages and epochs there were
abbrev pub EndsReport : (lines text : List ℕ) → Type 0
EndsReport lines text = (messages : ℕ) × (epochs : ℕ) × (text ≡ lines ++ (codes "messages " ++ (decimal messages ++ (codes "\nepochs " ++ (decimal epochs ++ codes "\n")))))

-- the lines of all vertices, of each that is no input with its counters, and then two lines more
pub record IsReport (g : GraphValue) (rows : Rows) (text : List ℕ) : Type 0 where
  pub shown : ℕ → List Counts
  pub counted_are : (v : ℕ) → input_count (shown_graph g) ≤ v → shown v ≡ slice_index_or rows v []
  pub lines : List ℕ
  pub vertices : AreOfVertices g shown (length (shown_graph g)) lines
  pub ends : EndsReport lines text
