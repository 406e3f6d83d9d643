-- Times as one number, by which they are distributed over a tree.
use Rattle.std.specs.Prelude.{◌≡◌, ◌⊎◌, ℕ, ◌+◌, ◌*◌, ◌^◌, ◌%◌, true, List, [], ◌∷◌}
use Rattle.semantics.specs.Time.{Time, is_before}

-- the counters mixed into a number below 2^32
abbrev pub mixed_from : ℕ → List ℕ → ℕ
mixed_from n [] = n
mixed_from n (c ∷ cs) = mixed_from ((n * 31 + c) % (2 ^ 32)) cs

-- the epoch, then the counters mixed
abbrev pub key_of : Time → ℕ
key_of t = t.epoch * 2 ^ 32 + mixed_from 0 t.counters

-- the first counters are at or before the second
abbrev pub NoLater : Time → Time → Type 0
NoLater t u = (t.counters ≡ u.counters) ⊎ (is_before t.counters u.counters ≡ true)
