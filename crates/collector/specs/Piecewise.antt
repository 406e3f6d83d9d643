-- An input text that is read piece by piece, by lines or by records.
use Rattle.std.specs.Prelude.{◌≡◌, ◌+◌, ℕ, ℤ, List, [], ◌∷◌, ◌++◌, length, None, Some}
use Rattle.std.specs.List.{flat_map}
use Rattle.semantics.specs.Query.{Input}
use Rattle.collector.specs.DraftGrowth.{IsEven}
use Rattle.collector.specs.Drafts.{draft_count, draft_records}
use Rattle.collector.specs.InputText.{IsInputText, LinesSay, epochs_after, records_in}
use Rattle.collector.specs.Lines.{Item}
use Rattle.collector.specs.OutputText.{spaced}
use Rattle.collector.specs.Pieces.{split_on}
use Rattle.collector.specs.declared.draft.Draft.{Draft}
use Rattle.collector.specs.declared.input_reader.InputReader.{InputReader}
use Rattle.collector.specs.declared.refusal.InputRefusal.{InputRefusal}
use Rattle.collector.specs.declared.refusal.InputRefusal.TheVariants.{At, NoMemory}

-- the line of a record of the input of that name
abbrev pub row_line : (name : List ℕ) → List ℤ → List ℕ
row_line name zs = name ++ flat_map spaced zs ++ 10 ∷ []

-- the lines of a text, each ended by a line feed, were read behind what a draft held
pub record Reads (inputs : List Input) (text : List ℕ) (d e : Draft) : Type 0 where
  pub lines : List (List ℕ)
  pub items : List Item
  pub parts : split_on 10 text ≡ lines ++ [] ∷ []
  pub said : LinesSay inputs (draft_count d) lines items
  pub epochs : draft_count e ≡ epochs_after (draft_count d) items
  pub records : (epoch input : ℕ) → draft_records e epoch input ≡ draft_records d epoch input ++ records_in epoch input (draft_count d) items
  pub even : IsEven e
  pub tracks : length e.tracks.items ≡ length inputs

-- the text was read for these inputs: the reader holds its epochs
pub record HasRead (inputs : List Input) (text : List ℕ) (r : InputReader) : Type 0 where
  pub draft : Draft
  pub held : r.draft ≡ Some draft
  pub is : IsInputText inputs text (draft_count draft) (draft_records draft)
  pub tracks : length draft.tracks.items ≡ length inputs

-- the reader reads no more, since a call failed
abbrev pub HasStopped : InputReader → Type 0
HasStopped r = r.draft ≡ None

-- the refusal, if that many lines come before those of which it counts
abbrev pub further : (lines : ℕ) → InputRefusal → InputRefusal
further lines NoMemory = NoMemory
further lines (At code number) = At code (lines + number)
