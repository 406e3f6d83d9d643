-- What rounds of work do on a board.
use Rattle.std.specs.Prelude.{◌≡◌, ◌≢◌, ◌<◌, ℕ, false, List, [], ◌∷◌, ◌++◌}
use Rattle.std.specs.List.{AllByRecursion}
use Rattle.tokens.specs.declared.rule.Place.TheVariants.{Home}
use Rattle.board.specs.Answers.{HasNoChoice}
use Rattle.board.specs.Shown.{Shown, side_at}
use Rattle.alone.specs.Rests.{HasPassedOver, IsAtRest}
use Rattle.alone.specs.Scenes.{AreFree, AreFreeBut}
use Rattle.follow.specs.declared.rounds.Round.{Round}
use Rattle.follow.specs.declared.rounds.Round.TheVariants.{Idle, Sent}
use Rattle.alone.specs.Moves.{Advances}

-- the worker is free
abbrev pub IsFreeAt : Shown → (worker : ℕ) → Type 0
IsFreeAt s worker = (held : List ℕ) × AllByRecursion (λ (j : ℕ). j ≢ worker) held × AreFreeBut s held

-- once this worker has taken an event too, no other worker holds one
abbrev pub TakesAlone : (s t : Shown) → (worker : ℕ) → Type 0
TakesAlone s t worker = (held : List ℕ) → AreFreeBut s held → AreFreeBut t (held ++ worker ∷ [])

-- once this worker's event has ended, it is free
abbrev pub EndsAlone : (s t : Shown) → (worker : ℕ) → Type 0
EndsAlone s t worker = (held : List ℕ) → AreFreeBut s (held ++ worker ∷ []) → AreFreeBut t held

-- the board runs, and the worker is free and has no event
pub record HasNoEvent (s : Shown) (worker : ℕ) : Type 0 where
  pub runs : s.stopped ≡ false
  pub home : (side_at s worker).place ≡ Home
  pub none : HasNoChoice s worker

-- the first n workers have no event
abbrev pub HaveNoEvent : Shown → (n : ℕ) → Type 0
HaveNoEvent s n = (k : ℕ) → k < n → HasNoEvent s k

-- if no event was taken from the first n workers, they have none, and nothing was done
abbrev pub TookNothing : {X : Type 0} → (taken : List X) → (n : ℕ) → (s t : Shown) → Type 0
TookNothing taken n s t = taken ≡ [] → (t ≡ s) × HaveNoEvent s n

-- after the first n workers: none of them had an event, or some event was processed
abbrev pub HasWorked : Round → (n : ℕ) → (s t : Shown) → Type 0
HasWorked Idle n s t = (t ≡ s) × HaveNoEvent s n
HasWorked (Sent rows) n s t = Advances s t

-- of all the events these are left: none was ended, or some was
abbrev pub HasEnded : Round → {X : Type 0} → (rest all : List X) → (s t : Shown) → Type 0
HasEnded Idle rest all s t = (all ≡ rest) × (t ≡ s)
HasEnded (Sent rows) rest all s t = Advances s t

-- some event was ended
abbrev pub IsBusy : Round → Type 0
IsBusy Idle = ⊥
IsBusy (Sent rows) = Unit {0}

-- nothing is left to do now: no worker may take a step, and each epoch that is over at every input has passed at every output
pub record IsWorkedOff (s : Shown) : Type 0 where
  pub free : AreFree s
  pub rests : IsAtRest s
  pub passed : HasPassedOver s
