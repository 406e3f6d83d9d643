-- A part of an input text, read by itself.
use Rattle.std.specs.Prelude.{◌≡◌, ◌≤◌, ◌<◌, ◌+◌, ◌-◌, ℕ, ℤ, List, [], ◌∷◌, ◌++◌, if◌then◌else◌, nat_lt}
use Rattle.semantics.specs.Query.{Input}
use Rattle.semantics.specs.Multiset.{◌≈◌}
use Rattle.collector.specs.InputText.{LinesSay, epochs_after, records_in}
use Rattle.collector.specs.Lines.{Item, max_epochs}
use Rattle.collector.specs.Pieces.{split_on}
use Rattle.collector.specs.ReadEpochs.{epoch_count, records_at}
use Rattle.collector.specs.declared.epochs.Epochs.{Epochs}

-- The lines of a text, each ended by a line feed, are read where that many epochs have begun before them, 0 or 1. An epoch that had begun is the
-- first of these, with the records that come before the next one begins.
pub record IsPart (inputs : List Input) (begun : ℕ) (text : List ℕ) (e : Epochs) : Type 0 where
  pub lines : List (List ℕ)
  pub items : List Item
  pub parts : split_on 10 text ≡ lines ++ [] ∷ []
  pub said : LinesSay inputs begun lines items
  pub epochs : epoch_count e ≡ epochs_after begun items
  pub holds : (epoch input : ℕ) → records_at e epoch input ≈ records_in epoch input begun items

-- texts, one behind the other
abbrev pub together : List (List ℕ) → List ℕ
together [] = []
together (text ∷ texts) = text ++ together texts

-- lists by epoch, and those of the next part behind them, whose first epoch is the last one here
pub record Stitches (old more new : List (List (List ℤ))) : Type 0 where
  pub before : List (List (List ℤ))
  pub last : List (List ℤ)
  pub first : List (List ℤ)
  pub behind : List (List (List ℤ))
  pub old_is : old ≡ before ++ last ∷ []
  pub more_is : more ≡ first ∷ behind
  pub new_is : new ≡ before ++ (last ++ first) ∷ behind

-- the epochs of a text, and those of its next part behind them
pub record Appends (old part new : Epochs) : Type 0 where
  pub some : 0 < epoch_count old
  pub count : epoch_count new + 1 ≡ epoch_count old + epoch_count part
  pub few : epoch_count new ≤ max_epochs
  pub records : (epoch input : ℕ)
      → records_at new epoch input ≡ records_at old epoch input ++ (if nat_lt (epoch + 1) (epoch_count old) then [] else records_at part (epoch + 1 - epoch_count old) input)
