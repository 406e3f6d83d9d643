-- The input text: the epochs that it holds, and its first faulty line.
use Rattle.std.specs.Prelude.{◌≡◌, ◌<◌, ◌+◌, ℕ, ℤ, List, [], ◌∷◌, ◌++◌, length, ◌==◌, ◌&&◌, if◌then◌else◌, ◌⊎◌}
use Rattle.semantics.specs.Query.{Input}
use Rattle.semantics.specs.Multiset.{◌≈◌}
use Rattle.collector.specs.ReadEpochs.{epoch_count, records_at}
use Rattle.collector.specs.Pieces.{split_on}
use Rattle.collector.specs.Lines.{Item, Says, IsFault, code_of}
use Rattle.collector.specs.declared.codes.TheConstants.{NO_LINE_FEED}
use Rattle.collector.specs.declared.epochs.Epochs.{Epochs}
use Rattle.collector.specs.declared.refusal.Fault.{Fault}
use Rattle.collector.specs.declared.refusal.InputRefusal.{InputRefusal}
use Rattle.collector.specs.declared.refusal.InputRefusal.TheVariants.{At, NoMemory}

-- how many epochs have begun after an item, if that many had before it
abbrev pub begun_after : ℕ → Item → ℕ
begun_after epochs Item.epoch = epochs + 1
begun_after epochs (Item.row i zs) = epochs

-- how many epochs have begun after a list of items
abbrev pub epochs_after : ℕ → List Item → ℕ
epochs_after epochs [] = epochs
epochs_after epochs (item ∷ items) = epochs_after (begun_after epochs item) items

-- the records of an input in an epoch, in the order of their lines: those that come while that epoch was the last to begin
abbrev pub records_in : ℕ → ℕ → ℕ → List Item → List (List ℤ)
records_in epoch input begun [] = []
records_in epoch input begun (Item.epoch ∷ items) = records_in epoch input (begun + 1) items
records_in epoch input begun (Item.row i zs ∷ items) =
    if (input == i) && (epoch + 1 == begun) then zs ∷ records_in epoch input begun items else records_in epoch input begun items

-- the lines say these items, one each
abbrev pub LinesSay : List Input → ℕ → List (List ℕ) → List Item → Type 0
LinesSay inputs epochs [] [] = Unit {0}
LinesSay inputs epochs [] (item ∷ items) = ⊥
LinesSay inputs epochs (line ∷ lines) [] = ⊥
LinesSay inputs epochs (line ∷ lines) (item ∷ items) = Says inputs epochs line item × LinesSay inputs (begun_after epochs item) lines items

-- the text holds that many epochs, each line ended by a line feed; an epoch has a list of records for each input
pub record IsInputText (inputs : List Input) (text : List ℕ) (count : ℕ) (records : ℕ → ℕ → List (List ℤ)) : Type 0 where
  pub lines : List (List ℕ)
  pub items : List Item
  pub parts : split_on 10 text ≡ lines ++ [] ∷ []
  pub said : LinesSay inputs 0 lines items
  pub epochs : count ≡ epochs_after 0 items
  pub holds : (epoch input : ℕ) → records epoch input ≡ records_in epoch input 0 items

-- the text is these epochs: each has for each input the text's records, in some order
abbrev pub IsReadFrom : List Input → (text : List ℕ) → Epochs → Type 0
IsReadFrom inputs text e =
    (records : ℕ → ℕ → List (List ℤ)) × IsInputText inputs text (epoch_count e) records × ((epoch input : ℕ) → records_at e epoch input ≈ records epoch input)

-- A refusal names the first faulty line, counted from 1: the lines before it say items; and it has a fault, or it is the last line and has no line
-- feed.
abbrev pub IsRefused : List Input → List ℕ → InputRefusal → Type 0
IsRefused inputs text NoMemory = Unit {0}
IsRefused inputs text (At code number) =
    (before : List (List ℕ)) × (items : List Item) × LinesSay inputs 0 before items × (number ≡ length before + 1)
    × (line : List ℕ) × (rest : List (List ℕ)) × (split_on 10 text ≡ before ++ line ∷ rest)
    × (((code ≡ NO_LINE_FEED) × (0 < length line) × (rest ≡ []))
    ⊎ ((fault : Fault) × (code ≡ code_of fault) × (0 < length rest) × IsFault inputs (epochs_after 0 items) line fault))
