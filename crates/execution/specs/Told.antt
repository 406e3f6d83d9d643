-- What a watcher is told: how many epochs have passed and how many records were received, as numbers that rise.
use Rattle.std.specs.Prelude.{◌≡◌, ◌≤◌, ◌<◌, ◌+◌, ◌⊎◌, ℕ, zero, suc, List, [], ◌∷◌, ◌++◌, Option, Some, None, codes, decimal}
use Rattle.std.specs.Io.KnownBytes.{Appends}
use Rattle.std.specs.List.{flat_map}
use Rattle.collector.specs.WrittenBytes.{AppendsFront}
use Rattle.execution.specs.declared.watching.Note.{Note}
use Rattle.execution.specs.declared.watching.Note.TheVariants.{Passed, Received}
use Rattle.execution.specs.declared.watching.Progress.{Progress}
use Rattle.execution.specs.declared.watching.Telling.{Telling}
use Rattle.execution.specs.declared.watching.Telling.TheVariants.{Lines, InPlace, Silent}
use Rattle.execution.specs.declared.watching.Watcher.{Watcher}

-- nothing was told
abbrev pub untold : Progress
untold = record { passed = 0; received = 0 }

-- the fewest records between two notes of what was received
abbrev pub interval : ℕ
interval = 1048576

-- in place, what follows the number of epochs once records were told
abbrev pub beside : ℕ → List ℕ
beside zero = []
beside (suc n) = codes " received " ++ decimal (suc n)

abbrev pub in_place : Progress → List ℕ
in_place p = 13 ∷ (codes "passed " ++ (decimal p.passed ++ beside p.received))

-- how a note is told
abbrev pub told : Telling → Note → List ℕ
told Lines (Passed p) = codes "passed " ++ (decimal p.passed ++ 10 ∷ [])
told Lines (Received p) = codes "received " ++ (decimal p.received ++ 10 ∷ [])
told InPlace (Passed p) = in_place p
told InPlace (Received p) = in_place p
told Silent note = []

-- what follows the last note; zeros were never told
abbrev pub ended : (passed received : ℕ) → List ℕ
ended zero zero = []
ended zero (suc r) = 10 ∷ []
ended (suc n) r = 10 ∷ []

abbrev pub line_end : Telling → Progress → List ℕ
line_end Lines p = []
line_end InPlace p = ended p.passed p.received
line_end Silent p = []

-- the notes rise from m, each by its own number, and the last is n
abbrev pub Rise : Progress → List Note → Progress → Type 0
Rise m [] n = n ≡ m
Rise m (Passed p ∷ notes) n = (m.passed < p.passed) × (p.received ≡ m.received) × Rise p notes n
Rise m (Received p ∷ notes) n = (p.passed ≡ m.passed) × (m.received + interval ≤ p.received) × Rise p notes n

-- what was told is at most this number, and less than an interval behind it
abbrev pub IsNear : (told received : ℕ) → Type 0
IsNear m n = (m ≤ n) × (n < m + interval)

module _ {W : Type 0} (contents : W → Option (List ℕ)) where
  -- The writer was given the text; or it failed, was given a beginning of it, and is told nothing more.
  abbrev pub Takes : Watcher W → Watcher W → List ℕ → Type 0
  Takes w x text = ((x.telling ≡ w.telling) × Appends (contents w.writer) (contents x.writer) text)
      ⊎ ((x.telling ≡ Silent) × AppendsFront (contents w.writer) (contents x.writer) text)

  -- notes were told that rise from m to n
  abbrev pub Tells : Option (Watcher W) → Option (Watcher W) → (m n : Progress) → Type 0
  Tells None y m n = y ≡ None
  Tells (Some w) None m n = ⊥
  Tells (Some w) (Some x) m n = (notes : List Note) × Rise m notes n × Takes w x (flat_map (told w.telling) notes)

  -- the same from nothing, and the line of the last note has ended
  abbrev pub IsTold : Option (Watcher W) → Option (Watcher W) → (n : Progress) → Type 0
  IsTold None y n = y ≡ None
  IsTold (Some w) None n = ⊥
  IsTold (Some w) (Some x) n = (notes : List Note) × Rise untold notes n × Takes w x (flat_map (told w.telling) notes ++ line_end w.telling n)
