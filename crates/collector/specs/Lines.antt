-- What a line of an input text says, and what is wrong with it.
use Rattle.std.specs.Prelude.{◌≡◌, ◌≢◌, ◌<◌, ◌≤◌, ℕ, ℤ, List, [], ◌∷◌, length, codes, slice_get, IsTrue, FitsSigned, Some}
use Rattle.std.specs.Fmt.{signed_decimal}
use Rattle.std.specs.Int.{w64}
use Rattle.std.specs.List.{AllByRecursion, list_all}
use Rattle.record_core.specs.Names.{begins_name, is_name_byte}
use Rattle.record_core.specs.Records.{IsRecord}
use Rattle.semantics.specs.Query.{Input}
use Rattle.collector.specs.Pieces.{split_on}
use Rattle.collector.specs.declared.codes.TheConstants.{NO_EPOCH, UNKNOWN_INPUT, BAD_NUMBER, WRONG_FIELDS, MALFORMED, TOO_MANY_EPOCHS}
use Rattle.collector.specs.declared.refusal.Fault.{Fault}
use Rattle.collector.specs.declared.refusal.Fault.TheVariants.{Malformed, TooManyEpochs, NoEpoch, Unknown, BadNumber, WrongFields}

-- what a line says: the next epoch begins, or a record joins the input of that number
pub data Item : Type 0 where
  epoch : Item
  row : ℕ → List ℤ → Item

-- the most epochs of a text
abbrev pub max_epochs : ℕ
max_epochs = 4294967295

-- spelled like a name or a keyword, in at most 32 bytes
abbrev pub IsWord : List ℕ → Type 0
IsWord word = IsTrue (begins_name word) × IsTrue (list_all is_name_byte word) × (length word ≤ 32)

-- the word isn't empty
abbrev pub IsFilled : List ℕ → Type 0
IsFilled word = 0 < length word

-- a line of words, the first of them spelled like a name and none empty, that doesn't begin an epoch
pub record HasWords (line first : List ℕ) (rest : List (List ℕ)) : Type 0 where
  pub other : line ≢ codes "epoch"
  pub words : split_on 32 line ≡ first ∷ rest
  pub spelled : IsWord first
  pub filled : AllByRecursion IsFilled rest

-- the words are these numbers, each in its one spelling
abbrev pub AreNumbers : List (List ℕ) → List ℤ → Type 0
AreNumbers [] [] = Unit {0}
AreNumbers [] (z ∷ zs) = ⊥
AreNumbers (word ∷ words) [] = ⊥
AreNumbers (word ∷ words) (z ∷ zs) = (FitsSigned w64 z × (word ≡ signed_decimal z)) × AreNumbers words zs

-- the first input of that name has the number i and that arity
pub record IsInput (inputs : List Input) (name : List ℕ) (i arity : ℕ) : Type 0 where
  pub there : slice_get inputs i ≡ Some (record { name = name; arity = arity })
  pub first : (k : ℕ) (input : Input) → k < i → slice_get inputs k ≡ Some input → input.name ≢ name

-- no input has that name
pub record IsAbsent (inputs : List Input) (name : List ℕ) : Type 0 where
  pub none : (k : ℕ) (input : Input) → slice_get inputs k ≡ Some input → input.name ≢ name

-- the numbers make a record of an input of that arity
abbrev pub MakeRecord : ℕ → List ℤ → Type 0
MakeRecord arity zs = (length zs ≡ arity) × IsRecord zs

-- what a line says after that many epochs have begun
abbrev pub Says : List Input → ℕ → List ℕ → Item → Type 0
Says inputs epochs line Item.epoch = (line ≡ codes "epoch") × (epochs < max_epochs)
Says inputs epochs line (Item.row i zs) =
    (name : List ℕ) × (rest : List (List ℕ)) × HasWords line name rest × (0 < epochs) × IsInput inputs name i (length zs) × IsRecord zs × AreNumbers rest zs

-- The fault of a line, the first in this order: one epoch too many; or a line that isn't well formed, a record before the first epoch, an unknown
-- input, a word that isn't a number, a wrong number of fields.
abbrev pub IsFault : List Input → ℕ → List ℕ → Fault → Type 0
IsFault inputs epochs line TooManyEpochs = (line ≡ codes "epoch") × (max_epochs ≤ epochs)
IsFault inputs epochs line Malformed = (line ≢ codes "epoch") × ((name : List ℕ) (rest : List (List ℕ)) → HasWords line name rest → ⊥)
IsFault inputs epochs line NoEpoch = (name : List ℕ) × (rest : List (List ℕ)) × HasWords line name rest × (epochs ≡ 0)
IsFault inputs epochs line Unknown = (name : List ℕ) × (rest : List (List ℕ)) × HasWords line name rest × (0 < epochs) × IsAbsent inputs name
IsFault inputs epochs line BadNumber =
    (name : List ℕ) × (rest : List (List ℕ)) × HasWords line name rest × (0 < epochs) × (i : ℕ) × (arity : ℕ)
    × IsInput inputs name i arity × ((zs : List ℤ) → AreNumbers rest zs → ⊥)
IsFault inputs epochs line WrongFields =
    (name : List ℕ) × (rest : List (List ℕ)) × HasWords line name rest × (0 < epochs) × (i : ℕ) × (arity : ℕ)
    × IsInput inputs name i arity × (zs : List ℤ) × AreNumbers rest zs × (MakeRecord arity zs → ⊥)

-- the code of a fault
abbrev pub code_of : Fault → ℕ
code_of NoEpoch = NO_EPOCH
code_of Unknown = UNKNOWN_INPUT
code_of BadNumber = BAD_NUMBER
code_of WrongFields = WRONG_FIELDS
code_of Malformed = MALFORMED
code_of TooManyEpochs = TOO_MANY_EPOCHS
