-- What the calls of a board answer.
use Rattle.std.specs.Prelude.{◌≡◌, ◌<◌, ℕ, ◌==◌, nat_lt, cond, true, false, length, List, [], ◌∷◌, Option, Some, None, Result, Ok, Err}
use Rattle.semantics.specs.Multiset.{Record}
use Rattle.machine.specs.Step.{Step}
use Rattle.tokens.specs.declared.rule.Place.TheVariants.{Out}
use Rattle.events.specs.Jobs.{Pass}
use Rattle.board.specs.Shown.{Shown, side_at, input_at}
use Rattle.board.specs.Kept.{Goes}
use Rattle.board.specs.Promises.{IsDrained}
use Rattle.machine.specs.Choices.{IsClaimBy}
use Rattle.machine.specs.World.{Message, World}
use Rattle.machine.specs.Step.{Allowed}
use Rattle.board.specs.Shown.{net}
use Rattle.board.specs.Showing.{Shows}
use Rattle.board.specs.Commits.{IsOf}
use Rattle.tokens.specs.declared.rule.Place.TheVariants.{Home}
use Rattle.rows.specs.FlatRows.{arity_of}
use Rattle.board.specs.Fitting.{arity_in}
use Rattle.board.specs.declared.refusal.StepRefusal.{StepRefusal}
use Rattle.board.specs.declared.refusal.StepRefusal.TheVariants as refusal
use Rattle.board.specs.declared.claimed.Claimed.{Claimed}
use Rattle.board.specs.declared.claimed.Claimed.TheVariants.{Stopped, Busy, Work, Drained, Idle}
use Rattle.board.specs.declared.claimed.CommitRefusal.{CommitRefusal}
use Rattle.board.specs.declared.claimed.CommitRefusal.TheVariants.{NoMemory}

-- the worker holds this event, and hasn't abandoned it
abbrev pub Holds : Shown → Pass → Type 0
Holds s p = (side_at s p.worker).place ≡ Out p.job

-- Ok ends the event by a step; without memory the board is unchanged, and the event comes back whole
abbrev pub Commits : Shown → Shown → Pass → {T : Type 0} → Result T CommitRefusal → Type 0
Commits s t p (Ok _) = Holds s p × ((out : ℕ → List Record) × Goes s (Step.commit p.worker p.job.happening out) t)
Commits s t p (Err (NoMemory d)) = (d ≡ p) × (t ≡ s)

-- the worker has no choice: no claim of it is allowed
abbrev pub HasNoChoice : Shown → ℕ → Type 0
HasNoChoice s k = (w : World) (step : Step) → Shows s w → Allowed (net s) w step → IsClaimBy k step → ⊥

-- the worker has a choice: some claim of it is allowed
abbrev pub HasChoice : Shown → ℕ → Type 0
HasChoice s k = (w : World) → Shows s w → (step : Step) × Allowed (net s) w step × IsClaimBy k step

-- the event was handed out by a claim of this worker
pub record Hands (s : Shown) (k : ℕ) (t : Shown) (p : Pass) : Type 0 where
  pub taken : Step
  pub by : IsClaimBy k taken
  pub goes : Goes s taken t
  pub worker : p.worker ≡ k
  pub holds : Holds t p
  pub own : IsOf t p

-- a message of this worker is merged into its first message, by a step
abbrev pub Merges : Shown → (worker at : ℕ) → Shown → Type 0
Merges s k at t = (first : Message) × (second : Message) × Goes s (Step.merge k at first second) t

-- the answers, in the order in which they are tried
abbrev pub Claims : Shown → Shown → ℕ → Claimed → Type 0
Claims s t k Stopped = (s.stopped ≡ true) × (t ≡ s)
Claims s t k Busy = (s.stopped ≡ false) × (k < length s.sides → (side_at s k).place ≡ Home → ⊥) × (t ≡ s)
Claims s t k (Work x) = Hands s k t x.0 × (x.1 ≡ None)
Claims s t k Drained = (s.stopped ≡ false) × (k < length s.sides) × IsDrained s × (t ≡ s)
Claims s t k Idle = (s.stopped ≡ false) × (k < length s.sides) × ((side_at s k).place ≡ Home) × HasNoChoice s k × (IsDrained s → ⊥) × (t ≡ s)

-- the claim found no event, and said so
abbrev pub IfNothing : Claimed → Type 0 → Type 0
IfNothing Stopped P = Unit {0}
IfNothing Busy P = Unit {0}
IfNothing (Work x) P = Unit {0}
IfNothing Drained P = P
IfNothing Idle P = P

-- ---- refusals of calls on an input

-- the first, or the second if there is no first
abbrev pub first : Option StepRefusal → Option StepRefusal → Option StepRefusal
first None second = second
first (Some r) second = Some r

-- of every call on an input: stopped, unknown, closed
abbrev pub input_refusal : Shown → ℕ → Option StepRefusal
input_refusal s i =
    first (cond s.stopped (Some refusal.Stopped) None)
    (first (cond (nat_lt i (length s.inputs)) None (Some refusal.UnknownInput))
    (cond (input_at s i).closed (Some refusal.InputClosed) None))

-- of a seal: the same, then the last epoch
abbrev pub seal_refusal : Shown → ℕ → Option StepRefusal
seal_refusal s i = first (input_refusal s i) (cond ((input_at s i).open_epoch == 4294967295) (Some refusal.LastEpoch) None)

-- this refusal is the answer; where there is none, Ok or lack of memory
abbrev pub AnswersOr : {T : Type 0} → Option StepRefusal → Result T StepRefusal → Type 0
AnswersOr (Some r) (Ok _) = ⊥
AnswersOr (Some r) (Err e) = e ≡ r
AnswersOr None (Ok _) = Unit {0}
AnswersOr None (Err e) = e ≡ refusal.NoMemory

-- the same for a call that takes no memory
abbrev pub AnswersOnly : {T : Type 0} → Option StepRefusal → Result T StepRefusal → Type 0
AnswersOnly (Some r) (Ok _) = ⊥
AnswersOnly (Some r) (Err e) = e ≡ r
AnswersOnly None (Ok _) = Unit {0}
AnswersOnly None (Err e) = ⊥

-- of a feed: the same, then records of another arity
abbrev pub feed_refusal : Shown → ℕ → List Record → Option StepRefusal
feed_refusal s i batch = first (input_refusal s i) (cond (arity_of batch == arity_in s.graph i) None (Some refusal.WrongFieldCount))

-- the messages at these places, the last place first, are merged into the worker's first message one after another
abbrev pub MergesAll : (worker : ℕ) → (places : List ℕ) → Shown → Shown → Type 0
MergesAll k [] s t = t ≡ s
MergesAll k (at ∷ places) s t = (u : Shown) × MergesAll k places s u × Merges u k at t

-- messages at some places are merged, or none
abbrev pub Gathers : Shown → (worker : ℕ) → Shown → Type 0
Gathers s k t = (places : List ℕ) × MergesAll k places s t
