-- The place of a name among those that are left.
use Rattle.std.proofs.Common.{◌≡◌, ◌<◌, ◌+◌, true, false, ℕ, List, [], drop, get_or, length, refl}
use Rattle.std.specs.Str.{bytes_eq}
use Rattle.std.proofs.lemmas.List.{drop_more}
use Rattle.schema_lines.specs.Words.{place_in}

pub place-here : (name : List ℕ) (names : List (List ℕ)) (i : ℕ) → i < length names → bytes_eq (get_or names i []) name ≡ true
    → place_in name (drop i names) ≡ 0
place-here name names i below e = rw (drop_more names i [] below) (rw e refl)

pub place-next : (name : List ℕ) (names : List (List ℕ)) (i : ℕ) → i < length names → bytes_eq (get_or names i []) name ≡ false
    → place_in name (drop i names) ≡ place_in name (drop (i + 1) names) + 1
place-next name names i below e = rw (drop_more names i [] below) (rw e refl)
