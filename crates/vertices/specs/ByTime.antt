-- A state for each exact time at which something was absorbed.
use Rattle.std.specs.Prelude.{◌≡◌, ℕ, false, List, [], Option, Some, None}
use Rattle.indexmap.specs.IndexMap.{IndexMap, get}
use Rattle.semantics.specs.Multiset.{Record}
use Rattle.semantics.specs.Time.{Time, same_time}
use Rattle.semantics.specs.Shard.{Absorbed, with_records}

-- a state that is one of these records, by port; where there is none, nothing was absorbed
abbrev pub IsStateOf : {S : Type 0} → (S → (ℕ → List Record) → Type 0) → Option S → (ℕ → List Record) → Type 0
IsStateOf P None records = (p : ℕ) → records p ≡ []
IsStateOf P (Some s) records = P s records

-- at each time there is a state of what was absorbed then
abbrev pub AreStatesOf : {S H : Type 0} → (S → (ℕ → List Record) → Type 0) → IndexMap Time S H → Absorbed → Type 0
AreStatesOf P states a = (t : Time) → IsStateOf P (get same_time states t) (λ p. a p t)

-- the fact holds of the records that were absorbed at that time, by port
abbrev pub ForAbsorbed : {S H : Type 0} → (S → (ℕ → List Record) → Type 0) → IndexMap Time S H → Time → ((ℕ → List Record) → Type 0) → Type 0
ForAbsorbed P states t Q = (a : Absorbed) → AreStatesOf P states a → Q (λ p. a p t)

-- the new states are of the records of the old ones, and of these more at a port and time
abbrev pub Absorbs : {S H : Type 0} → (S → (ℕ → List Record) → Type 0) → (old new : IndexMap Time S H) → (port : ℕ) → Time → List Record → Type 0
Absorbs P old new port t records = (a : Absorbed) → AreStatesOf P old a → AreStatesOf P new (with_records a port t records)

-- the two are the same at every time but this one
abbrev pub AgreeBut : Time → Absorbed → Absorbed → Type 0
AgreeBut t a b = (u : Time) → same_time t u ≡ false → (p : ℕ) → b p u ≡ a p u

-- what was shown before is still shown, but for what came at this time
abbrev pub Forgets : (old new : Absorbed → Type 0) → Time → Type 0
Forgets old new t = (a : Absorbed) → old a → (b : Absorbed) × new b × AgreeBut t a b
