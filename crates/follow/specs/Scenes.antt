-- The state of following: the board, what was taken of the input, and what was written.
use Rattle.std.specs.Prelude.{◌≡◌, ◌<◌, ◌≤◌, ℕ, ◌+◌, ◌-◌, ◌==◌, cond, List, [], ◌∷◌, ◌++◌, length, map, take, Option, slice_index_or}
use Rattle.std.specs.Io.KnownBytes.{Appends}
use Rattle.semantics.specs.Multiset.{Record, ◌≈◌}
use Rattle.semantics.specs.Query.{Input}
use Rattle.graph.specs.Shown.{GraphValue, shown_graph, shown_inputs}
use Rattle.rows.specs.FlatRows.{RowList, joined}
use Rattle.semantics.specs.Graph.{output_number, output_numbers}
use Rattle.board.specs.Shown.{Shown, batches_at}
use Rattle.collector.specs.Pieces.{split_on}
use Rattle.collector.specs.Lines.{Item}
use Rattle.collector.specs.InputText.{LinesSay, epochs_after}
use Rattle.follow.specs.Entries.{Entry, records_of}
use Rattle.follow.specs.Follows.{IsPart, IsReport, max_line, said_records}
use Rattle.follow.specs.declared.intake.Intake.{Intake}
use Rattle.follow.specs.declared.position.Position.{Position}
use Rattle.follow.specs.declared.reporting.Reporting.{Reporting}
use Rattle.alone.specs.Scenes.{IsLive, IsReady, fed_at, open_at}

-- ---- the board

-- the batches that were emitted at an output for an epoch
abbrev pub batches_of : Shown → (output epoch : ℕ) → List (List Record)
batches_of s k e = batches_at s.emitted (output_number (shown_graph s.graph) k) e

-- ---- what was taken of the input

abbrev pub no_rows : RowList
no_rows = record { arity = 1; rows = [] }

-- the records of an input that aren't fed yet
abbrev pub waiting : Intake → (input : ℕ) → List Record
waiting x i = (slice_index_or x.portion.items i no_rows).rows

-- how many fields the records of an input have
abbrev pub arity_at : Intake → (input : ℕ) → ℕ
arity_at x i = (slice_index_or x.portion.items i no_rows).arity

-- what an epoch on the board still lacks: what waits belongs to the last one that began
abbrev pub missing : Intake → (input epoch : ℕ) → List Record
missing x i e = cond (e + 1 == x.begun) (waiting x i) []

-- the numbers of fields of the records that wait, by input
abbrev pub arities_of : Intake → List ℕ
arities_of x = map (λ (r : RowList). r.arity) x.portion.items

-- the numbers of fields that a graph's inputs declare
abbrev pub declared_arities : GraphValue → List ℕ
declared_arities g = map (λ (i : Input). i.arity) (shown_inputs g)

-- What the items say of the epochs from the base on was fed, or waits. The board counts its epochs from the base, and the open epoch of each input is
-- the last that began.
pub record IsFed (s : Shown) (base : ℕ) (x : Intake) (items : List Item) : Type 0 where
  pub live : IsLive s
  pub ready : IsReady s
  pub fits : arities_of x ≡ declared_arities s.graph
  pub start : x.begun ≡ 0 → base ≡ 0
  pub begun : base + x.begun ≡ epochs_after 0 items
  -- what was fed, in the order of the lines
  pub order : (i e : ℕ) → List Record
  pub alike : (i e : ℕ) → fed_at s i e ≈ order i e
  pub fed : (i e : ℕ) → order i e ++ missing x i e ≡ said_records items (base + e) i
  pub opened : (i : ℕ) → i < length x.portion.items → open_at s i ≡ x.begun - 1
  pub none : x.begun ≡ 0 → (i : ℕ) → waiting x i ≡ []

-- the same for some items
abbrev pub IsFedSo : Shown → Intake → Type 0
IsFedSo s x = (base : ℕ) × (items : List Item) × IsFed s base x items

-- all that the items say of the epochs from the base on was fed
pub record IsAllFed (s : Shown) (base : ℕ) (items : List Item) : Type 0 where
  pub live : IsLive s
  pub fed : (i e : ℕ) → fed_at s i e ≈ said_records items (base + e) i

-- these lines of the bytes were taken, and the rest wasn't
pub record HasTaken (s : Shown) (base : ℕ) (x : Intake) (inputs : List Input) (bytes rest : List ℕ) (lines : List (List ℕ)) (items : List Item) : Type 0 where
  pub fed : IsFed s base x items
  pub parts : split_on 10 bytes ≡ lines ++ split_on 10 rest
  pub said : LinesSay inputs 0 lines items
  pub counted : x.line ≡ length lines

-- the same for some lines
abbrev pub IsTakenSo : Shown → (base : ℕ) → Intake → List Input → (text : List ℕ) → Type 0
IsTakenSo s base x inputs text = (bytes : List ℕ) × (lines : List (List ℕ)) × (items : List Item) × HasTaken s base x inputs bytes text lines items

-- ---- what was written

-- how many batches of an output were written for the first incomplete epoch
abbrev pub reported_count : Reporting → (output : ℕ) → ℕ
reported_count t k = slice_index_or t.reported.items k 0

-- no more batches were written than were emitted
abbrev pub IsWithin : Shown → Reporting → Type 0
IsWithin s t = (k : ℕ) → reported_count t k ≤ length (batches_of s k t.done)

-- there is a number for each output
abbrev pub HasRoom : Shown → Reporting → Type 0
HasRoom s t = length t.reported.items ≡ length (output_numbers (shown_graph s.graph))

-- All epochs before the base and the next `done` are complete; the entries are the first batches that were emitted for the epoch after those, `count`
-- at each output.
pub record HasReported (offset : ℕ) (s : Shown) (base done : ℕ) (count : (output : ℕ) → ℕ) (records : (epoch input : ℕ) → List Record)
    (entries : List Entry) (text : List ℕ) : Type 0 where
  pub reported : IsReport offset s.graph records (base + done) entries text
  pub within : (k : ℕ) → count k ≤ length (batches_of s k done)
  pub first : (k : ℕ) → records_of k entries ≡ joined (take (count k) (batches_of s k done))

-- these lines of the bytes were taken, and the answer to them is written as far as the board has worked
pub record IsKnown (offset : ℕ) (g : GraphValue) (s : Shown) (base : ℕ) (x : Intake) (t : Reporting) (bytes pending : List ℕ) : Type 0 where
  pub lines : List (List ℕ)
  pub items : List Item
  pub entries : List Entry
  pub text : List ℕ
  pub graph : s.graph ≡ g
  pub taken : HasTaken s base x (shown_inputs g) bytes pending lines items
  pub reported : HasReported offset s base t.done (reported_count t) (said_records items) entries text
  pub part : IsPart g (said_records items (base + t.done)) entries
  pub room : HasRoom s t
  pub sealed : t.done ≤ x.begun - 1
  pub none : t.done ≡ x.begun → entries ≡ []

-- the answer to the lines that were taken is written
pub record IsWritten (offset : ℕ) (g : GraphValue) (s : Shown) (base : ℕ) (x : Intake) (t : Reporting) (bytes pending : List ℕ) (old new : Option (List ℕ)) : Type 0 where
  pub known : IsKnown offset g s base x t bytes pending
  pub written : Appends old new known.text

-- the same for some bytes and some start
abbrev pub IsWrittenSo : (offset : ℕ) → GraphValue → Shown → Position → (now : Option (List ℕ)) → Type 0
IsWrittenSo offset g s p now = (bytes : List ℕ) × (start : Option (List ℕ)) × IsWritten offset g s p.base p.intake p.reporting bytes p.pending.items start now

-- the position once these bytes were read: the answer to their lines is written, and what is pending may be part of a line
pub record IsPositionAfter (offset : ℕ) (g : GraphValue) (s : Shown) (p : Position) (bytes : List ℕ) (old new : Option (List ℕ)) : Type 0 where
  pub written : IsWritten offset g s p.base p.intake p.reporting bytes p.pending.items old new
  pub unended : split_on 10 p.pending.items ≡ p.pending.items ∷ []
  pub short : length p.pending.items ≤ max_line
