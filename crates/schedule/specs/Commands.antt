-- What a line of a schedule says to do, and the words that spell it.
use Rattle.std.specs.Prelude.{◌<◌, ◌^◌, ℕ, ℤ, List, [], ◌∷◌, map, decimal, FitsSigned}
use Rattle.std.specs.Fmt.{signed_decimal}
use Rattle.std.specs.Int.{w64}
use Rattle.std.specs.List.{AllByRecursion}
use Rattle.collector.specs.Lines.{IsWord}
use Rattle.schedule.specs.declared.verb.Verb.{Verb}
use Rattle.schedule.specs.declared.verb.Verb.TheVariants as verb
use Rattle.schedule.specs.declared.verb.ViewKind.{ViewKind}
use Rattle.schedule.specs.declared.verb.ViewKind.TheVariants.{Shared, Local}

-- a record comes to an input; an input's open epoch ends; an input is closed; a worker takes one of its choices, commits what it holds, or does both;
-- what was emitted for an epoch is asked for; a worker applies the next batch of changes that a sender posted
pub data Command : Type 0 where
  feed : (input : List ℕ) → (fields : List ℤ) → Command
  seal : (input : List ℕ) → Command
  close : (input : List ℕ) → Command
  take : (worker choice : ℕ) → Command
  commit : (worker : ℕ) → Command
  deliver : (worker choice : ℕ) → Command
  print : (epoch : ℕ) → Command
  apply : (worker sender : ℕ) → Command

-- the letter of a verb
abbrev pub letter : Verb → ℕ
letter verb.Feed = 102
letter verb.Seal = 115
letter verb.Close = 120
letter verb.Take = 116
letter verb.Commit = 99
letter verb.Deliver = 100
letter verb.Print = 112
letter verb.Apply = 118

-- the verbs that a schedule may have; the one about views only if each worker has its own
abbrev pub IsKnown : ViewKind → Verb → Type 0
IsKnown Local v = Unit {0}
IsKnown Shared verb.Feed = Unit {0}
IsKnown Shared verb.Seal = Unit {0}
IsKnown Shared verb.Close = Unit {0}
IsKnown Shared verb.Take = Unit {0}
IsKnown Shared verb.Commit = Unit {0}
IsKnown Shared verb.Deliver = Unit {0}
IsKnown Shared verb.Print = Unit {0}
IsKnown Shared verb.Apply = ⊥

abbrev pub verb_of : Command → Verb
verb_of (Command.feed input fields) = verb.Feed
verb_of (Command.seal input) = verb.Seal
verb_of (Command.close input) = verb.Close
verb_of (Command.take worker choice) = verb.Take
verb_of (Command.commit worker) = verb.Commit
verb_of (Command.deliver worker choice) = verb.Deliver
verb_of (Command.print epoch) = verb.Print
verb_of (Command.apply worker sender) = verb.Apply

-- the words after the verb's letter; each number has one spelling
abbrev pub arguments : Command → List (List ℕ)
arguments (Command.feed input fields) = input ∷ map signed_decimal fields
arguments (Command.seal input) = input ∷ []
arguments (Command.close input) = input ∷ []
arguments (Command.take worker choice) = decimal worker ∷ decimal choice ∷ []
arguments (Command.commit worker) = decimal worker ∷ []
arguments (Command.deliver worker choice) = decimal worker ∷ decimal choice ∷ []
arguments (Command.print epoch) = decimal epoch ∷ []
arguments (Command.apply worker sender) = decimal worker ∷ decimal sender ∷ []

-- inputs are spelled like names or keywords; fields are signed 64-bit numbers, and other numbers have 32 bits
abbrev pub IsProper : Command → Type 0
IsProper (Command.feed input fields) = IsWord input × AllByRecursion (FitsSigned w64) fields
IsProper (Command.seal input) = IsWord input
IsProper (Command.close input) = IsWord input
IsProper (Command.take worker choice) = (worker < 2 ^ 32) × (choice < 2 ^ 32)
IsProper (Command.commit worker) = worker < 2 ^ 32
IsProper (Command.deliver worker choice) = (worker < 2 ^ 32) × (choice < 2 ^ 32)
IsProper (Command.print epoch) = epoch < 2 ^ 32
IsProper (Command.apply worker sender) = (worker < 2 ^ 32) × (sender < 2 ^ 32)
