-- A reader that has taken more lines.
use Rattle.std.proofs.Common.{ℕ, List, ◌++◌, ◌∙◌, ◌≡◌, inl, inr}
use Rattle.std.proofs.Math.Logic.{∥∥₁_map}
use Rattle.semantics.specs.Query.{Input}
use Rattle.collector.specs.Piecewise.{HasRead, HasStopped}
use Rattle.collector.specs.declared.input_reader.InputReader.{InputReader}
use Rattle.commands.specs.Taken.{ReadsFor}

pub still_reads : (inputs : List Input) (lines : List ℕ) (old new : InputReader) → ((text : List ℕ) → HasRead inputs text old → HasRead inputs (text ++ lines) new) → (HasStopped old → HasStopped new)
    → ∥ ReadsFor inputs old ∥₁ → ∥ ReadsFor inputs new ∥₁
still_reads inputs lines old new next stays some = ∥∥₁_map some (λ reads. elim reads [
  | inl (text, is) ↦ inl (text ++ lines, next text is)
  | inr stopped ↦ inr (stays stopped)
])

-- the same, where it holds what it held
pub reads_same : (inputs : List Input) (text : List ℕ) (old new : InputReader) → new.draft ≡ old.draft → HasRead inputs text old → HasRead inputs text new
reads_same inputs text old new same has = record { draft = has.draft; held = same ∙ has.held; is = has.is; tracks = has.tracks }

pub still_same : (inputs : List Input) (old new : InputReader) → new.draft ≡ old.draft → ∥ ReadsFor inputs old ∥₁ → ∥ ReadsFor inputs new ∥₁
still_same inputs old new same some = ∥∥₁_map some (λ reads. elim reads [
  | inl (text, is) ↦ inl (text, reads_same inputs text old new same is)
  | inr stopped ↦ inr (same ∙ stopped)
])
