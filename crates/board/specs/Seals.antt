-- How far the inputs are sealed, and up to where each epoch has passed.
use Rattle.std.specs.Prelude.{◌≡◌, ◌⊎◌, ◌<◌, ◌≤◌, ℕ, length}
use Rattle.semantics.specs.Could.{CouldResultIn, IsTimeAt, Location, NoneOf, Pointstamp, at_vertex}
use Rattle.semantics.specs.Graph.{Graph, output_number}
use Rattle.semantics.specs.Time.{at_epoch}
use Rattle.graph.specs.Shown.{shown_graph}
use Rattle.machine.specs.World.{World}
use Rattle.machine.specs.Frontier.{PassedBelow, SealedTo}
use Rattle.board.specs.Shown.{Shown, input_at, net}
use Rattle.board.specs.Showing.{Shows}
use Rattle.board.specs.Lateness.{BoardShown, CallsPassed}
use Rattle.board.specs.Promises.{IsOutputPlace}

-- the greatest number of seals of an input; 0 if there are no inputs
pub record IsMostSeals (s : Shown) (n : ℕ) : Type 0 where
  pub most : (i : ℕ) → i < length s.inputs → (input_at s i).open_epoch ≤ n
  pub some : (n ≡ 0) ⊎ ((i : ℕ) × (i < length s.inputs) × ((input_at s i).open_epoch ≡ n))

-- some input was sealed n times or more, and each epoch below n has passed
abbrev pub HavePassed : Shown → ℕ → Type 0
HavePassed s n = (w : World) → Shows s w → SealedTo (net s) w n × PassedBelow (net s) w n

-- none of these could result at the output for the epoch
abbrev pub NoneLeft : Graph → (these : Pointstamp → Type 0) → Shown → (output epoch : ℕ) → Type 0
NoneLeft graph these s k e = NoneOf (CouldResultIn graph) these (at_vertex (output_number (shown_graph s.graph) k) (at_epoch e))

-- the same for each output
abbrev pub NoneLeftAtAll : Graph → (these : Pointstamp → Type 0) → Shown → (epoch : ℕ) → Type 0
NoneLeftAtAll graph these s e = (k : ℕ) → IsOutputPlace s k → NoneLeft graph these s k e

-- the same for each epoch below n
abbrev pub AreSeenBelow : Graph → (these : Pointstamp → Type 0) → Shown → (n : ℕ) → Type 0
AreSeenBelow graph these s n = (e : ℕ) → e < n → NoneLeftAtAll graph these s e

-- Each epoch below n is seen to have passed, as far as inputs are sealed: n is at most the greatest number of seals, and if it is below, some of
-- these could still result at an output for the epoch n.
abbrev pub IsMostSeen : Graph → (these : Pointstamp → Type 0) → Shown → ℕ → Type 0
IsMostSeen graph these s n = (m : ℕ) → IsMostSeals s m → (n ≤ m) × (n < m → NoneLeftAtAll graph these s n → ⊥)

-- the outputs are vertices of that graph, outside all loops
abbrev pub AreOutputsIn : Graph → Shown → Type 0
AreOutputsIn graph s = (k e : ℕ) → IsOutputPlace s k → IsTimeAt graph (Location.vertex (output_number (shown_graph s.graph) k)) (at_epoch e)

-- the first worker calls the epoch passed at each output
abbrev pub CallsPassedAtAll : BoardShown → (epoch : ℕ) → Type 0
CallsPassedAtAll b e = (k : ℕ) → IsOutputPlace b.shown k → CallsPassed b k e

-- the first worker calls each epoch below n passed at each output, and n is the first that it doesn't, or the greatest number of seals
pub record IsFirstUncalled (b : BoardShown) (n : ℕ) : Type 0 where
  pub called : (e : ℕ) → e < n → CallsPassedAtAll b e
  pub first : (m : ℕ) → IsMostSeals b.shown m → (n ≤ m) × (n < m → CallsPassedAtAll b n → ⊥)
