-- What messages hold.
use Rattle.std.specs.Prelude.{◌+◌, ℕ, List, [], ◌∷◌, length}
use Rattle.events.specs.declared.letter.Letter.{Letter}

-- how many records messages hold, with their repeats
abbrev pub records_in : List Letter → ℕ
records_in [] = 0
records_in (letter ∷ letters) = length letter.message.records + records_in letters
