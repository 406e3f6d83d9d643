-- How a number's spelling begins.
use Rattle.std.specs.Prelude.{◌≡◌, ◌<◌, ◌≤◌, ℕ, List, [], ◌∷◌, length, slice_index, ◌⊎◌}

-- a digit comes first, and nothing follows a leading zero
abbrev pub MayBegin : List ℕ → Type 0
MayBegin [] = ⊥
MayBegin (b ∷ bs) = (48 ≤ b) × (b ≤ 57) × (b ≡ 48 → length bs ≡ 0)

-- the same, or a minus and a digit from 1 on
abbrev pub MayBeginSigned : List ℕ → Type 0
MayBeginSigned [] = ⊥
MayBeginSigned (b ∷ bs) = MayBegin (b ∷ bs) ⊎ ((b ≡ 45) × (48 < slice_index bs 0) × (slice_index bs 0 ≤ 57))
