-- Records at the head of a text, spelled as they print.
use Rattle.std.specs.Prelude.{◌≡◌, ◌<◌, ℕ, ℤ, List, [], ◌∷◌, ◌++◌, length, FitsSigned, Result, Ok, Err}
use Rattle.std.specs.Int.{w64}
use Rattle.std.specs.List.{AllByRecursion, flat_map}
use Rattle.record_core.specs.Names.{IsName}
use Rattle.record_core.specs.Records.{IsRecord}
use Rattle.semantics.specs.Query.{Input}
use Rattle.std.specs.Borrow.{Bor}
use Rattle.collector.specs.Lines.{IsInput, Says, IsFault}
use Rattle.collector.specs.Pieces.{split_on}
use Rattle.collector.specs.Said.{item_of}
use Rattle.collector.specs.declared.line.Line.{Line}
use Rattle.collector.specs.declared.first_line.Stop.{Stop}
use Rattle.collector.specs.declared.first_line.Stop.TheVariants as stop
use Rattle.collector.specs.OutputText.{spaced}

-- each is a number of 64 bits
abbrev pub Fit : List ℤ → Type 0
Fit zs = AllByRecursion (λ z. FitsSigned w64 z) zs

-- a record of the input of that number, its line, and the rest of the text
pub record IsRowAt (inputs : List Input) (text : List ℕ) (fields : List ℤ) (input : ℕ) (rest : List ℕ) : Type 0 where
  pub name : List ℕ
  pub named : IsName name
  pub of : IsInput inputs name input (length fields)
  pub shape : IsRecord fields
  pub fits : Fit fields
  pub spelled : text ≡ name ++ (flat_map spaced fields ++ 10 ∷ rest)

-- what the first line of a text says, and the text after it; or its fault, or that it has no line feed
abbrev pub NextEnds : List Input → ℕ → List ℕ → List ℤ → Result (Line × Bor (List ℕ)) Stop → Type 0
NextEnds inputs epochs text fields (Ok r) =
    (line : List ℕ) × (split_on 10 text ≡ line ∷ split_on 10 r.1.now) × (length r.1.now < length text) × Says inputs epochs line (item_of r.0 fields)
NextEnds inputs epochs text fields (Err stop.NoMemory) = Unit {0}
NextEnds inputs epochs text fields (Err (stop.Fault fault)) =
    (line : List ℕ) × (after : List ℕ) × (split_on 10 text ≡ line ∷ split_on 10 after) × IsFault inputs epochs line fault
NextEnds inputs epochs text fields (Err stop.NoLineFeed) = split_on 10 text ≡ text ∷ []
