-- A worker as the board's code sees it.
use Rattle.std.specs.Prelude.{◌≡◌, [], ℕ, ◌<◌, ◌≤◌, Bool, true, false, List, length, map, slice_index_or, Option, Some, None}
use Rattle.std.specs.List.{AllByRecursion}
use Rattle.semantics.specs.Multiset.{total}
use Rattle.semantics.specs.Graph.{Graph}
use Rattle.semantics.specs.Could.{Pointstamp, Location, IsTimeAt}
use Rattle.machine.specs.Active.{one_if_same, message_pointstamp, request_pointstamp}
use Rattle.machine.specs.World.{Request}
use Rattle.events.specs.declared.letter.Letter.{Letter}
use Rattle.events.specs.Letters.{sent_to}
use Rattle.tokens.specs.declared.rule.Place.{Place}
use Rattle.tokens.specs.declared.rule.Place.TheVariants.{Home, Out, Lost}
use Rattle.events.specs.Jobs.{Job}
use Rattle.events.specs.Wired.{Wired}
use Rattle.board.specs.Shown.{Shown, Side, input_at, side_at, no_side, no_wired}

-- what it shows, and for how many more messages and requests it has room
pub record WorkerShown : Type 0 where
  pub side : Side
  pub mail_room : ℕ
  pub request_room : ℕ

abbrev pub no_worker_shown : WorkerShown
no_worker_shown = record { side = no_side; mail_room = 0; request_room = 0 }

-- the wiring, which is here or with the event that is out
abbrev pub wired_of : {X : Type 0} → (X → Wired) → Place Job → Option X → Wired
wired_of f Home (Some x) = f x
wired_of f Home None = no_wired
wired_of f (Out j) o = j.wired
wired_of f (Lost j) o = j.wired

abbrev pub IsHome : {X : Type 0} → Place Job → Option X → (lost : Bool) → Type 0
IsHome Home (Some x) false = Unit {0}
IsHome Home (Some x) true = ⊥
IsHome Home None lost = ⊥
IsHome (Out j) (Some x) lost = ⊥
IsHome (Out j) None false = Unit {0}
IsHome (Out j) None true = ⊥
IsHome (Lost j) (Some x) lost = ⊥
IsHome (Lost j) None false = ⊥
IsHome (Lost j) None true = Unit {0}

-- an event is out
abbrev pub is_out : Place Job → Bool
is_out Home = false
is_out (Out j) = true
is_out (Lost j) = false

abbrev pub worker_in : List WorkerShown → ℕ → WorkerShown
worker_in ds k = slice_index_or ds k no_worker_shown

abbrev pub sides_of : List WorkerShown → List Side
sides_of ds = map (λ d. d.side) ds

-- each mailbox has room for its letters
abbrev pub HasRoom : List WorkerShown → List Letter → Type 0
HasRoom ds ls = (k : ℕ) → k < length ds → length (sent_to k ls) ≤ (worker_in ds k).mail_room

-- each letter goes to one of that many workers
abbrev pub AreWithin : ℕ → List Letter → Type 0
AreWithin n ls = AllByRecursion (λ (l : Letter). l.to < n) ls

-- the letters' edges are the graph's, and their times have the depth
abbrev pub AreAtEdges : Graph → List Letter → Type 0
AreAtEdges g ls = AllByRecursion (λ (l : Letter). IsTimeAt g (Location.edge l.message.edge) l.message.time) ls

-- how many letters have this pointstamp
abbrev pub letters_count : Pointstamp → List Letter → ℕ
letters_count p ls = total (λ l. one_if_same p (message_pointstamp l.message)) ls

-- how many requests have this pointstamp
abbrev pub requests_count : Pointstamp → List Request → ℕ
requests_count p rs = total (λ n. one_if_same p (request_pointstamp n)) rs

-- nothing waits at a worker, and no event is out or abandoned
pub record IsIdle (x : Side) : Type 0 where
  pub place : x.place ≡ Home
  pub mail : x.mail ≡ []
  pub requests : x.requests ≡ []

-- every input is closed
abbrev pub AreClosed : Shown → Type 0
AreClosed s = (i : ℕ) → i < length s.inputs → (input_at s i).closed ≡ true

-- every worker is idle
abbrev pub AreIdle : Shown → Type 0
AreIdle s = (k : ℕ) → k < length s.sides → IsIdle (side_at s k)
