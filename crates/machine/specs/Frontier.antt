-- What can still come to a pointstamp, and to an output for an epoch. (Naiad, SOSP 2013, section 2.3: the frontier.)
use Rattle.std.specs.Prelude.{◌≡◌, ◌⊎◌, ℕ, ◌≤◌, ◌<◌}
use Rattle.semantics.specs.Could.{Pointstamp, at_vertex, NoneOf, NoOtherOf}
use Rattle.semantics.specs.Time.{at_epoch}
use Rattle.semantics.specs.Kinds.{Role}
use Rattle.machine.specs.Network.{Network}
use Rattle.machine.specs.World.{World}
use Rattle.machine.specs.Active.{IsActive}

-- no active pointstamp could result in it
abbrev pub NoneBefore : Network → World → Pointstamp → Type 0
NoneBefore g w p = NoneOf g.Could (IsActive g w) p

-- no other active pointstamp could result in it
abbrev pub NoOtherBefore : Network → World → Pointstamp → Type 0
NoOtherBefore g w p = NoOtherOf g.Could (IsActive g w) p

-- nothing more can come to the output vertex for the epoch
abbrev pub Passed : Network → World → (output epoch : ℕ) → Type 0
Passed g w v n = NoneBefore g w (at_vertex v (at_epoch n))

-- each epoch below n has passed at each output
abbrev pub PassedBelow : Network → World → ℕ → Type 0
PassedBelow g w n = (v epoch : ℕ) → g.role v ≡ Role.output → epoch < n → Passed g w v epoch

-- some input was sealed n times or more, or n is 0
abbrev pub SealedTo : Network → World → ℕ → Type 0
SealedTo g w n = (n ≡ 0) ⊎ ((i : ℕ) × (i < g.inputs) × (n ≤ w.open_epoch i))

-- n is the number of epochs that have passed: the greatest number, up to the most seals, below which every epoch has passed
pub record IsPassedCount (g : Network) (w : World) (n : ℕ) : Type 0 where
  pub sealed : SealedTo g w n
  pub passed : PassedBelow g w n
  pub greatest : (m : ℕ) → SealedTo g w m → PassedBelow g w m → m ≤ n
