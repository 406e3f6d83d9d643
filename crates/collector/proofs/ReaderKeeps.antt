-- What a reader of an input text has read, after one more call.
use Rattle.std.proofs.Common.{◌≡◌, ◌∙◌, ℕ, ℤ, List, [], ◌++◌, length, Some, sym, subst}
use Rattle.semantics.specs.Query.{Input}
use Rattle.collector.specs.Drafts.{IsKept, draft_count, draft_records}
use Rattle.collector.specs.DraftGrowth.{HasNone}
use Rattle.collector.specs.InputText.{IsInputText, IsReadFrom, IsRefused}
use Rattle.collector.specs.Piecewise.{HasRead, Reads, further}
use Rattle.collector.specs.declared.draft.Draft.{Draft}
use Rattle.collector.specs.declared.epochs.Epochs.{Epochs}
use Rattle.collector.specs.declared.input_reader.InputReader.{InputReader}
use Rattle.collector.specs.declared.refusal.InputRefusal.{InputRefusal}
use Rattle.collector.proofs.PiecesRead.{kept_read, nothing, read_behind}

-- the draft that is held
draft_is : (inputs : List Input) (text : List ℕ) (r : InputReader) (d : Draft) → (has : HasRead inputs text r) → r.draft ≡ Some d → has.draft ≡ d
draft_is inputs text r d has at = let same : Some has.draft ≡ Some d = sym has.held ∙ at in cc

text_is : (inputs : List Input) (text : List ℕ) (r : InputReader) (d : Draft) → HasRead inputs text r → r.draft ≡ Some d → IsInputText inputs text (draft_count d) (draft_records d)
text_is inputs text r d has at = subst (λ (x : Draft). IsInputText inputs text (draft_count x) (draft_records x)) (draft_is inputs text r d has at) has.is

pub begins : (inputs : List Input) (r : InputReader) (d : Draft) → r.draft ≡ Some d → HasNone d → length d.tracks.items ≡ length inputs → HasRead inputs [] r
begins inputs r d held none size = record { draft = d; held = held; is = nothing inputs d none; tracks = size }

pub reads_more : (inputs : List Input) (text more : List ℕ) (old new : InputReader) (d e : Draft) → HasRead inputs text old → old.draft ≡ Some d → Reads inputs more d e → new.draft ≡ Some e → HasRead inputs (text ++ more) new
reads_more inputs text more old new d e has at reads held = record {
  draft = e;
  held = held;
  is = read_behind inputs text more d e (text_is inputs text old d has at) reads;
  tracks = reads.tracks;
}

pub refuses : (inputs : List Input) (text more : List ℕ) (old : InputReader) (d : Draft) (e : InputRefusal) (has : HasRead inputs text old) → old.draft ≡ Some d
    → ((before : List ℕ) (records : ℕ → ℕ → List (List ℤ)) (is : IsInputText inputs before (draft_count d) records) → IsRefused inputs (before ++ more) (further (length is.lines) e))
    → IsRefused inputs (text ++ more) (further (length has.is.lines) e)
refuses inputs text more old d e has at refused =
    subst (λ (x : Draft). (before : List ℕ) (records : ℕ → ℕ → List (List ℤ)) (is : IsInputText inputs before (draft_count x) records) → IsRefused inputs (before ++ more) (further (length is.lines) e))
    (sym (draft_is inputs text old d has at)) refused text (draft_records has.draft) has.is

pub keeps_all : (inputs : List Input) (text : List ℕ) (r : InputReader) (d : Draft) (e : Epochs) → HasRead inputs text r → r.draft ≡ Some d → IsKept d e → IsReadFrom inputs text e
keeps_all inputs text r d e has at kept = kept_read inputs text d e (text_is inputs text r d has at) kept
