-- Which lines are of `encode`, `decode` and `kinds`.
use Rattle.std.specs.Prelude.{◌≡◌, ◌⊎◌, ℕ, List, [], ◌∷◌, codes}
pub use Rattle.table_files.specs.Written.{IsWriteFault}

abbrev pub IsTablesWord : List ℕ → Type 0
IsTablesWord word = (word ≡ codes "encode") ⊎ (word ≡ codes "decode") ⊎ (word ≡ codes "kinds")

-- the second word is a command, or asks for the help of the third
abbrev pub IsOfTables : List (List ℕ) → Type 0
IsOfTables [] = ⊥
IsOfTables (program ∷ []) = ⊥
IsOfTables (program ∷ first ∷ []) = IsTablesWord first
IsOfTables (program ∷ first ∷ second ∷ words) = IsTablesWord first ⊎ ((first ≡ codes "help") × IsTablesWord second)
