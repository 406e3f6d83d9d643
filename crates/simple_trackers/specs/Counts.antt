-- Occurrence and precursor counts of active pointstamps. (Naiad, SOSP 2013, section 2.3.)
use Rattle.std.specs.Prelude.{◌≡◌, ◌⊎◌, ℕ, suc, ◌+◌, ◌*◌, ◌<◌, ◌≤◌, List, [], ◌∷◌, Some, map, slice_get}
use Rattle.semantics.specs.Multiset.{total}
use Rattle.semantics.specs.Graph.{Graph}
use Rattle.semantics.specs.Could.{Pointstamp, IsTimeAt, CouldResultIn}
use Rattle.machine.specs.Active.{one_if_same}
use Rattle.progress.specs.Content.{times_in}
use Rattle.simple_trackers.specs.declared.counted.Counted.{Counted}

-- how often a pointstamp is active, by the occurrence counts
abbrev pub occurrences_in : List Counted → Pointstamp → ℕ
occurrences_in counted q = total (λ c. one_if_same q c.pointstamp * c.occurrences) counted

-- the total of all occurrence counts
abbrev pub all_occurrences : List Counted → ℕ
all_occurrences counted = total (λ c. c.occurrences) counted

-- the pointstamps that are counted
abbrev pub pointstamps : List Counted → List Pointstamp
pointstamps counted = map (λ c. c.pointstamp) counted

-- a precursor of p is another pointstamp that could result in it
abbrev pub IsPrecursor : Graph → Pointstamp → Pointstamp → Type 0
IsPrecursor g q p = (q ≡ p → ⊥) × CouldResultIn g q p

-- n of these are precursors of p
abbrev pub IsPrecursorCount : Graph → List Pointstamp → Pointstamp → ℕ → Type 0
IsPrecursorCount g [] p n = n ≡ 0
IsPrecursorCount g (q ∷ qs) p n =
    (IsPrecursor g q p × ((m : ℕ) × (n ≡ suc m) × IsPrecursorCount g qs p m)) ⊎ ((IsPrecursor g q p → ⊥) × IsPrecursorCount g qs p n)

-- each has a location of the graph, and a time of its depth
abbrev pub AreKnown : Graph → List Counted → Type 0
AreKnown g counted = (i : ℕ) (c : Counted) → slice_get counted i ≡ Some c → IsTimeAt g c.pointstamp.location c.pointstamp.time

-- each of which p is a precursor has a precursor count above 0
abbrev pub AllHavePrecursor : Graph → Pointstamp → List Counted → Type 0
AllHavePrecursor g p counted = (i : ℕ) (c : Counted) → slice_get counted i ≡ Some c → IsPrecursor g p c.pointstamp → 0 < c.precursors

-- each is active and occurs once in the list, and its precursor count is exact
pub record AreExact (g : Graph) (counted : List Counted) : Type 0 where
  pub known : AreKnown g counted
  pub active : (i : ℕ) (c : Counted) → slice_get counted i ≡ Some c → 0 < c.occurrences
  pub once : (q : Pointstamp) → times_in (pointstamps counted) q ≤ 1
  pub precursors : (i : ℕ) (c : Counted) → slice_get counted i ≡ Some c → IsPrecursorCount g (pointstamps counted) c.pointstamp c.precursors

-- the same with p added to the precursor count, if p is a precursor
pub record CountsPrecursor (g : Graph) (p : Pointstamp) (old new : Counted) : Type 0 where
  pub pointstamp : new.pointstamp ≡ old.pointstamp
  pub occurrences : new.occurrences ≡ old.occurrences
  pub precursors : (IsPrecursor g p old.pointstamp × (new.precursors ≡ suc old.precursors))
      ⊎ ((IsPrecursor g p old.pointstamp → ⊥) × (new.precursors ≡ old.precursors))

-- the same for each of them
pub record AllCountPrecursor (g : Graph) (p : Pointstamp) (old new : List Counted) : Type 0 where
  pub same : pointstamps new ≡ pointstamps old
  pub each : (i : ℕ) (c d : Counted) → slice_get old i ≡ Some c → slice_get new i ≡ Some d → CountsPrecursor g p c d

-- one more occurrence of p, and no other change
pub record OccursOnceMore (p : Pointstamp) (old new : List Counted) : Type 0 where
  pub content : (q : Pointstamp) → occurrences_in new q ≡ one_if_same q p + occurrences_in old q
  pub all : all_occurrences new ≡ suc (all_occurrences old)
