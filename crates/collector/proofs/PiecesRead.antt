-- The pieces of a text, read one behind the other, are what the text says.
use Rattle.std.proofs.Common.{◌≡◌, ◌<◌, ◌+◌, ◌∙◌, ℕ, ℤ, List, [], ◌∷◌, ◌++◌, length, Bool, true, false, cond, refl, sym, ap, subst, arith, append_assoc, inl, inr}
use Rattle.std.specs.Prelude.{◌==◌, ◌&&◌}
use Rattle.std.proofs.lemmas.List.{append-nil, length-append}
use Rattle.std.specs.List.{flat_map}
use Rattle.record_core.specs.Records.{IsRecord}
use Rattle.semantics.specs.Query.{Input}
use Rattle.semantics.proofs.MultisetSums.{≈-from, ≈-trans}
use Rattle.collector.specs.DraftGrowth.{HasNone, Gains}
use Rattle.collector.specs.Drafts.{IsKept, draft_count, draft_records}
use Rattle.collector.specs.InputText.{IsInputText, IsReadFrom, IsRefused, LinesSay, epochs_after, records_in}
use Rattle.collector.specs.Lines.{IsFault, IsInput, IsWord, Item, code_of}
use Rattle.collector.specs.OutputText.{spaced}
use Rattle.collector.specs.Parts.{IsPart}
use Rattle.collector.specs.Pieces.{split_on}
use Rattle.collector.specs.Piecewise.{Reads, further, row_line}
use Rattle.collector.specs.Quick.{Fit}
use Rattle.collector.specs.declared.draft.Draft.{Draft}
use Rattle.collector.specs.declared.epochs.Epochs.{Epochs}
use Rattle.collector.specs.declared.refusal.Fault.{Fault}
use Rattle.collector.specs.declared.refusal.InputRefusal.{InputRefusal}
use Rattle.collector.specs.declared.refusal.InputRefusal.TheVariants.{At, NoMemory}
use Rattle.collector.proofs.LinesRead.{ReadSoFar, filled}
use Rattle.collector.proofs.QuickLines.{line_says, line_split}
use Rattle.collector.proofs.PartsRead.{epochs_behind, records_behind, said_behind, split_behind}

abbrev Records : Type 0
Records = List (List ℤ)

-- ---- what was read, and what is read behind it

pub read_behind : (inputs : List Input) (text more : List ℕ) (d e : Draft) → IsInputText inputs text (draft_count d) (draft_records d) → Reads inputs more d e
    → IsInputText inputs (text ++ more) (draft_count e) (draft_records e)
read_behind inputs text more d e is reads =
    let said : LinesSay inputs (epochs_after 0 is.items) reads.lines reads.items = subst (λ n. LinesSay inputs n reads.lines reads.items) is.epochs reads.said in
    record {
      lines = is.lines ++ reads.lines;
      items = is.items ++ reads.items;
      parts = split_behind text more is.lines is.parts ∙ ap (λ (ls : List (List ℕ)). is.lines ++ ls) reads.parts ∙ sym (append_assoc is.lines reads.lines ([] ∷ []));
      said = said_behind inputs 0 is.lines is.items reads.lines reads.items is.said said;
      epochs = reads.epochs ∙ ap (λ n. epochs_after n reads.items) is.epochs ∙ sym (epochs_behind 0 is.items reads.items);
      holds = λ epoch input.
          reads.records epoch input
          ∙ (λ i. is.holds epoch input i ++ records_in epoch input (is.epochs i) reads.items)
          ∙ sym (records_behind epoch input 0 is.items reads.items);
    }

-- ---- refusals

module _ (inputs : List Input) (before text rest : List ℕ) (n : ℕ) (d e : Draft) (records : ℕ → ℕ → Records) (is : IsInputText inputs before (draft_count d) records) (r : ReadSoFar inputs text rest n d e) where
  abbrev lines : List (List ℕ)
  lines = is.lines ++ r.lines

  abbrev items : List Item
  items = is.items ++ r.items

  said : LinesSay inputs 0 lines items
  said = said_behind inputs 0 is.lines is.items r.lines r.items is.said (subst (λ k. LinesSay inputs k r.lines r.items) is.epochs r.said)

  count : draft_count e ≡ epochs_after 0 items
  count = r.epochs ∙ ap (λ k. epochs_after k r.items) is.epochs ∙ sym (epochs_behind 0 is.items r.items)

  at : (number : ℕ) → number ≡ n + 1 → length is.lines + number ≡ length lines + 1
  at number here = omega (arith, here, r.counted, length-append is.lines r.lines)

  cut_behind : (ls : List (List ℕ)) → split_on 10 rest ≡ ls → split_on 10 (before ++ text) ≡ lines ++ ls
  cut_behind ls cut =
      split_behind before text is.lines is.parts ∙ ap (λ (ms : List (List ℕ)). is.lines ++ ms) (r.parts ∙ ap (λ (ms : List (List ℕ)). r.lines ++ ms) cut)
      ∙ sym (append_assoc is.lines r.lines ls)

  -- a line that has its line feed has a fault
  pub faulty : (line after : List ℕ) (fault : Fault) (code number : ℕ) → split_on 10 rest ≡ line ∷ split_on 10 after → IsFault inputs (draft_count e) line fault → code ≡ code_of fault → number ≡ n + 1
      → IsRefused inputs (before ++ text) (further (length is.lines) (At code number))
  faulty line after fault code number cut bad same here = (
    lines,
    items,
    said,
    at number here,
    line,
    split_on 10 after,
    cut_behind (line ∷ split_on 10 after) cut,
    inr (fault, same, filled after, subst (λ (k : ℕ). IsFault inputs k line fault) count bad),
  )

  -- the last line has no line feed
  pub unended : (code number : ℕ) → split_on 10 rest ≡ rest ∷ [] → 0 < length rest → code ≡ 43 → number ≡ n + 1 → IsRefused inputs (before ++ text) (further (length is.lines) (At code number))
  unended code number cut some same here = (lines, items, said, at number here, rest, [], cut_behind (rest ∷ []) cut, inl (same, some, refl))

not_further : (e : InputRefusal) → further 0 e ≡ e
not_further NoMemory = refl
not_further (At code number) = ap (At code) (let n : 0 + number ≡ number = omega arith in n)

-- ---- a draft that holds nothing, at the beginning

pub nothing : (inputs : List Input) (d : Draft) → HasNone d → IsInputText inputs [] (draft_count d) (draft_records d)
nothing inputs d none = record { lines = []; items = []; parts = refl; said = tt; epochs = none.count; holds = none.records }

-- a refusal of a whole text
pub refused_alone : (inputs : List Input) (text : List ℕ) (d : Draft) (e : InputRefusal) → HasNone d
    → ((before : List ℕ) (records : ℕ → ℕ → Records) (is : IsInputText inputs before (draft_count d) records) → IsRefused inputs (before ++ text) (further (length is.lines) e)) → IsRefused inputs text e
refused_alone inputs text d e none refused =
    subst (IsRefused inputs text) (not_further e)
    (refused [] (draft_records d) (record { lines = []; items = []; parts = refl; said = tt; epochs = none.count; holds = none.records }))

-- the epochs of a text that was read
pub kept_read : (inputs : List Input) (text : List ℕ) (d : Draft) (e : Epochs) → IsInputText inputs text (draft_count d) (draft_records d) → IsKept d e → IsReadFrom inputs text e
kept_read inputs text d e is kept = (
  draft_records d,
  subst (λ n. IsInputText inputs text n (draft_records d)) (sym kept.count) is,
  kept.records,
)

-- a part that was read behind no records
pub part_read : (inputs : List Input) (text : List ℕ) (d e : Draft) (f : Epochs) → draft_count d ≡ 1 → ((epoch input : ℕ) → draft_records d epoch input ≡ []) → Reads inputs text d e → IsKept e f → IsPart inputs 1 text f
part_read inputs text d e f one none reads kept = record {
  lines = reads.lines;
  items = reads.items;
  parts = reads.parts;
  said = subst (λ n. LinesSay inputs n reads.lines reads.items) one reads.said;
  epochs = kept.count ∙ reads.epochs ∙ ap (λ n. epochs_after n reads.items) one;
  holds = λ epoch input.
      ≈-trans (kept.records epoch input)
      (≈-from (reads.records epoch input ∙ (λ i. none epoch input i ++ records_in epoch input (one i) reads.items)));
}

-- ---- a record in place of its line

one_behind : (b : Bool) (start : Records) (z : List ℤ) → cond b (start ++ z ∷ []) start ≡ start ++ cond b (z ∷ []) []
one_behind true start z = refl
one_behind false start z = sym (append-nil start)

pub row_read : (inputs : List Input) (name : List ℕ) (row : List ℤ) (i : ℕ) (d e : Draft) → IsWord name → IsInput inputs name i (length row) → IsRecord row → Fit row → 0 < draft_count d → length d.tracks.items ≡ length inputs
    → Gains d e i row → Reads inputs (row_line name row) d e
row_read inputs name row i d e word of shape fits begun size gains = record {
  lines = (name ++ flat_map spaced row) ∷ [];
  items = Item.row i row ∷ [];
  parts = line_split name row [] word fits;
  said = (line_says inputs (draft_count d) name row i word of shape fits begun, tt);
  epochs = gains.count;
  records = λ epoch input. gains.records epoch input ∙ one_behind ((input == i) && (epoch + 1 == draft_count d)) (draft_records d epoch input) row;
  even = gains.even;
  tracks = gains.inputs ∙ size;
}
