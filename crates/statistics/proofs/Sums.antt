-- Sums of records.
use Rattle.std.proofs.Common.{◌≡◌, ◌+◌, List, [], ◌∷◌, ◌++◌, length, refl, arith}
use Rattle.events.specs.declared.letter.Letter.{Letter}
use Rattle.statistics.specs.Counted.{records_in}

pub records_push : (letters : List Letter) (letter : Letter) → records_in (letters ++ letter ∷ []) ≡ records_in letters + length letter.message.records
records_push [] letter = omega arith
records_push (l ∷ letters) letter = let more = records_push letters letter in omega (arith, more)
