-- What calls and steps of workers leave of what a board was fed and of what it emitted.
use Rattle.std.specs.Prelude.{◌≡◌, ◌≢◌, ◌<◌, ◌≤◌, ◌+◌, ◌++◌, ℕ, true, false, List, [], length}
use Rattle.std.specs.List.{AllByRecursion}
use Rattle.semantics.specs.Multiset.{Record}
use Rattle.machine.specs.World.{World}
use Rattle.machine.specs.Step.{put}
use Rattle.tokens.specs.declared.rule.Place.TheVariants.{Home}
use Rattle.board.specs.Shown.{EmitsBehind, Shown, input_at, records_at, side_at}
use Rattle.board.specs.Showing.{Shows}

-- what an input was fed for an epoch
abbrev pub fed_at : Shown → (input epoch : ℕ) → List Record
fed_at s i e = records_at (input_at s i).fed e

-- an input's open epoch
abbrev pub open_at : Shown → (input : ℕ) → ℕ
open_at s i = (input_at s i).open_epoch

-- there is a world that the board shows
abbrev pub IsLive : Shown → Type 0
IsLive s = (w : World) × Shows s w

-- the board runs, and no worker holds an event but those in the list
pub record AreFreeBut (s : Shown) (held : List ℕ) : Type 0 where
  pub runs : s.stopped ≡ false
  pub home : (k : ℕ) → k < length s.sides → AllByRecursion (λ (j : ℕ). j ≢ k) held → (side_at s k).place ≡ Home

-- the board runs, and no worker holds an event
abbrev pub AreFree : Shown → Type 0
AreFree s = AreFreeBut s []

-- the same, and every input is open
pub record IsReady (s : Shown) : Type 0 where
  pub free : AreFree s
  pub unclosed : (i : ℕ) → (input_at s i).closed ≡ false

-- the graph, the workers and what was emitted stay
pub record Grows (s t : Shown) : Type 0 where
  pub live : IsLive t
  pub graph : t.graph ≡ s.graph
  pub sides : length t.sides ≡ length s.sides
  pub emitted : EmitsBehind s.emitted t.emitted

-- nothing is fed, sealed or closed
pub record Works (s t : Shown) : Type 0 where
  pub grows : Grows s t
  pub fed : (i e : ℕ) → fed_at t i e ≡ fed_at s i e
  pub opened : (i : ℕ) → open_at t i ≡ open_at s i
  pub closed : (i : ℕ) → (input_at t i).closed ≡ (input_at s i).closed

-- the first n inputs were closed
pub record Closes (s t : Shown) (n : ℕ) : Type 0 where
  pub grows : Grows s t
  pub fed : (i e : ℕ) → fed_at t i e ≡ fed_at s i e
  pub free : AreFree t
  pub closed : (i : ℕ) → i < n → (input_at t i).closed ≡ true
  pub others : (i : ℕ) → n ≤ i → (input_at t i).closed ≡ false

-- an input was fed records at its open epoch
pub record Feeds (s t : Shown) (input : ℕ) (batch : List Record) : Type 0 where
  pub grows : Grows s t
  pub fed : (i e : ℕ) → fed_at t i e ≡ put (fed_at s) input (put (fed_at s input) (open_at s input) (fed_at s input (open_at s input) ++ batch)) i e
  pub opened : (i : ℕ) → open_at t i ≡ open_at s i
  pub ready : IsReady t

-- an input was fed the records of several batches at its open epoch
pub record FeedsAll (s t : Shown) (input : ℕ) (records : List Record) : Type 0 where
  pub grows : Grows s t
  pub here : fed_at t input (open_at s input) ≡ fed_at s input (open_at s input) ++ records
  pub others : (i e : ℕ) → (i ≡ input → e ≡ open_at s input → ⊥) → fed_at t i e ≡ fed_at s i e
  pub opened : (i : ℕ) → open_at t i ≡ open_at s i
  pub ready : IsReady t

-- the first n inputs were sealed, once each
pub record Seals (s t : Shown) (n : ℕ) : Type 0 where
  pub ready : IsReady t
  pub grows : Grows s t
  pub fed : (i e : ℕ) → fed_at t i e ≡ fed_at s i e
  pub sealed : (i : ℕ) → i < n → open_at t i ≡ open_at s i + 1
  pub others : (i : ℕ) → n ≤ i → open_at t i ≡ open_at s i

-- an input was sealed
pub record SealsOne (s t : Shown) (input : ℕ) : Type 0 where
  pub ready : IsReady t
  pub grows : Grows s t
  pub fed : (i e : ℕ) → fed_at t i e ≡ fed_at s i e
  pub here : open_at t input ≡ open_at s input + 1
  pub others : (i : ℕ) → i ≢ input → open_at t i ≡ open_at s i
