-- Lists one behind the other.
use Rattle.std.proofs.Common.{◌≡◌, ◌++◌, ℕ, List, refl, append_assoc}

-- one part after another
pub joined : (header body tail piece first second third all : List ℕ) → first ≡ header → second ≡ first ++ body → third ≡ second ++ tail → all ≡ third ++ piece
    → all ≡ (header ++ (body ++ tail)) ++ piece
joined header body tail piece first second third all a b c d = rw (d, c, b, a, append_assoc header body tail) refl
