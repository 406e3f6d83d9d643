-- What a fault says of a phrase.
use Rattle.std.specs.Prelude.{ℕ}
use Rattle.parser.specs.declared.fault.Fault.{Fault}
use Rattle.parser.specs.declared.fault.Fault.TheVariants.{Unexpected, TooHigh, NoMemory}

-- where `above m` says that each reading of the phrase is higher than m: at an unexpected token it has no reading at all, and
-- where it is too high none that fits into the room
abbrev pub Denies : Fault → (ℕ → Type 0) → ℕ → Type 0
Denies (Unexpected s) above room = (m : ℕ) → above m
Denies (TooHigh s) above room = above room
Denies NoMemory above room = Unit {0}
