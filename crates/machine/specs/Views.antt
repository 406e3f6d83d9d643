-- Changes of the active pointstamps as a list, and what a viewer sees that has applied only some of them. (Naiad, SOSP 2013, section 3.3: each
-- worker's view of the progress updates.)
use Rattle.std.specs.Prelude.{◌≡◌, ◌<◌, ℕ, ◌+◌, Bool, true, false, List, [], ◌∷◌}
use Rattle.semantics.specs.Multiset.{total}
use Rattle.semantics.specs.Could.{Pointstamp}

-- one step's changes: the sender, how often each pointstamp is added and removed, and whether the viewer has applied them
pub record Changes : Type 0 where
  pub sender : ℕ
  pub adds : Pointstamp → ℕ
  pub removes : Pointstamp → ℕ
  pub applied : Bool

-- ---- all changes: `first` is how often each pointstamp was there at first, and the list has the oldest changes first

-- how often a pointstamp was ever added, `first` included
abbrev pub all_adds : (first : Pointstamp → ℕ) → List Changes → Pointstamp → ℕ
all_adds first log p = first p + total (λ b. b.adds p) log

-- how often a pointstamp was ever removed
abbrev pub all_removes : List Changes → Pointstamp → ℕ
all_removes log p = total (λ b. b.removes p) log

-- the pointstamp is there now: its count is above 0
abbrev pub IsThere : (first : Pointstamp → ℕ) → List Changes → Pointstamp → Type 0
IsThere first log p = all_removes log p < all_adds first log p

-- ---- what is seen of them

-- n if the flag is set, and otherwise 0
abbrev pub when : Bool → ℕ → ℕ
when true n = n
when false n = 0

-- the adds that were applied
abbrev pub seen_adds : (first : Pointstamp → ℕ) → List Changes → Pointstamp → ℕ
seen_adds first log p = first p + total (λ b. when b.applied (b.adds p)) log

-- the removals that were applied
abbrev pub seen_removes : List Changes → Pointstamp → ℕ
seen_removes log p = total (λ b. when b.applied (b.removes p)) log

-- the pointstamp's count in the view is above 0; a negative count means that it isn't seen
abbrev pub IsSeen : (first : Pointstamp → ℕ) → List Changes → Pointstamp → Type 0
IsSeen first log p = seen_removes log p < seen_adds first log p

-- ---- which part may be applied

-- none of this sender's changes is applied
abbrev pub NoneApplied : (sender : ℕ) → List Changes → Type 0
NoneApplied sender [] = Unit {0}
NoneApplied sender (b ∷ log) = (b.sender ≡ sender → b.applied ≡ false) × NoneApplied sender log

-- each sender's changes are applied in order
abbrev pub InOrder : List Changes → Type 0
InOrder [] = Unit {0}
InOrder (b ∷ log) = (b.applied ≡ false → NoneApplied b.sender log) × InOrder log

-- nothing waits
abbrev pub AllApplied : List Changes → Type 0
AllApplied [] = Unit {0}
AllApplied (b ∷ log) = (b.applied ≡ true) × AllApplied log

-- the same changes, and what was applied stays applied
abbrev pub AppliesMore : List Changes → List Changes → Type 0
AppliesMore [] [] = Unit {0}
AppliesMore [] (c ∷ more) = ⊥
AppliesMore (b ∷ log) [] = ⊥
AppliesMore (b ∷ log) (c ∷ more) =
    (c.sender ≡ b.sender) × (c.adds ≡ b.adds) × (c.removes ≡ b.removes) × (b.applied ≡ true → c.applied ≡ true) × AppliesMore log more
