-- The mark at the end of an input.
use Rattle.std.specs.Prelude.{ℕ, List, [], ◌∷◌, ◌++◌, codes}

-- a line `end`
abbrev pub end_mark : List ℕ
end_mark = codes "end" ++ 10 ∷ []
