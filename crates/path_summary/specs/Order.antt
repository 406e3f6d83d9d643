-- The lexicographic order of counters, as a test.
use Rattle.std.specs.Prelude.{◌≡◌, ◌⊎◌, ℕ, nat_lt, nat_eq, Bool, true, false, ◌&&◌, ◌||◌, List, [], ◌∷◌}
use Rattle.semantics.specs.Time.{is_before}

-- the lists are equal, or the first comes before the second
abbrev pub Later : List ℕ → List ℕ → Type 0
Later cs ds = (cs ≡ ds) ⊎ (is_before cs ds ≡ true)

-- the same as a test
abbrev pub in_order : List ℕ → List ℕ → Bool
in_order [] ds = true
in_order (c ∷ cs) [] = false
in_order (c ∷ cs) (d ∷ ds) = nat_lt c d || (nat_eq c d && in_order cs ds)
