-- What a watched reader or writer shows.
use Rattle.std.specs.Prelude.{◌≡◌, ◌++◌, true, Bool, ℕ, List}
use Rattle.collector.specs.declared.watched.Watched.{Watched}

-- the reader or the writer itself
abbrev pub inner_of : {T : Type 0} → Watched T → T
inner_of w = w.inner

-- a call on it failed
abbrev pub has_failed : {T : Type 0} → Watched T → Bool
has_failed w = w.failed

-- all bytes that the reader has handed over
abbrev pub handed : {T : Type 0} → Watched T → List ℕ
handed w = w.trace.items

-- the last read that did not fail said that there are no more bytes
abbrev pub has_ended : {T : Type 0} → Watched T → Bool
has_ended w = w.ended

-- between the two the reader handed over these bytes
abbrev pub Hands : {T : Type 0} → (old new : Watched T) → List ℕ → Type 0
Hands old new bytes = handed new ≡ handed old ++ bytes

-- it handed over these bytes, and then said that there are no more
abbrev pub HandsAll : {T : Type 0} → (old new : Watched T) → List ℕ → Type 0
HandsAll old new bytes = Hands old new bytes × (has_ended new ≡ true)

-- it handed over some bytes
abbrev pub HandsSome : {T : Type 0} → (old new : Watched T) → Type 0
HandsSome old new = (bytes : List ℕ) × Hands old new bytes
