-- A line is answered as its command ends.
use Rattle.std.proofs.Common.{◌≡◌, ◌⊎◌, inl, inr, ℕ, List, Option, Some, Result, IfSome, true, false, refl, sym, subst, ◌∙◌}
use Rattle.clap.specs.Words.{Text}
use Rattle.command_line.specs.Faults.{line_status_of}
use Rattle.command_line.specs.Line.{Asks}
use Rattle.command_line.specs.declared.line_fault.LineFault.{LineFault}
use Rattle.command_line.specs.declared.line_fault.LineFault.TheVariants as line
use Rattle.command_line.specs.declared.line_options.Options.{Options}
use Rattle.diagnostics.specs.declared.fault.Fault.{Fault}
use Rattle.console.specs.Commands.{Answers, EndsOn, Obeys, status_after}
use Rattle.commands.specs.Readings.{Known}
use Rattle.console.specs.Asked.{asks_inline, queries_of, where_queries}
use Rattle.console.specs.Transcribed.{EndsOnRead}
use Rattle.console.specs.declared.transcripts.Transcripts.{Transcripts}

two_or_five : (fault : LineFault) → (line_status_of fault ≡ 2) ⊎ (line_status_of fault ≡ 5)
two_or_five line.NoMemory = inr refl
two_or_five (line.Workers word) = inl refl
two_or_five (line.Heap word) = inl refl
two_or_five (line.FirstEpoch word) = inl refl
two_or_five (line.Dialect word) = inl refl
two_or_five line.Unwrapped = inl refl
two_or_five (line.Statement word) = inl refl
two_or_five (line.Misplaced option commands) = inl refl
two_or_five (line.Unknown option command options) = inl refl
two_or_five (line.Unrecognized word commands) = inl refl
two_or_five line.InputTwice = inl refl
two_or_five line.NoText = inl refl
two_or_five line.NoCommand = inl refl
two_or_five (line.Line error) = inl refl

pub refused : (texts : Known) (read : Transcripts) (words : List Text) (old : Option (List ℕ)) (fault : LineFault) (status : ℕ) → status ≡ line_status_of fault → Answers texts read words old old status
refused texts read words old fault status e = inl (refl, elim (two_or_five fault) [ inl two ↦ inl (e ∙ two) | inr five ↦ inr (e ∙ five) ])

pub ended : (texts : Known) (read : Transcripts) (options : Options) (old new : Option (List ℕ)) (result : Result (Unit {0}) Fault) (status : ℕ) → EndsOn (queries_of options texts) texts options old new result → EndsOnRead (queries_of options texts) read options old new result → status ≡ status_after result → Obeys texts read options old new status
ended texts read options old new result status e r t = inr (record { result = result; ends = e; on_read = r; reported = t })

pub obeyed : (texts : Known) (read : Transcripts) (words : List Text) (options : Options) (old new : Option (List ℕ)) (status : ℕ) → Asks words options → Obeys texts read options old new status → Answers texts read words old new status
obeyed texts read words options old new status h (inl down) = inl down
obeyed texts read words options old new status h (inr done) = inr (options, h, done)

-- a query is on the line, or among the texts
module _ (texts : Known) (options : Options) (old new : Option (List ℕ)) (result : Option (Result (Unit {0}) Fault)) where
  pub found_on_line : asks_inline options ≡ true → IfSome result (EndsOn (λ name. Some name) texts options old new) → IfSome result (EndsOn (queries_of options texts) texts options old new)
  found_on_line e h = subst (λ b. IfSome result (EndsOn (where_queries b texts) texts options old new)) (sym e) h

  pub found_in_texts : asks_inline options ≡ false → IfSome result (EndsOn texts texts options old new) → IfSome result (EndsOn (queries_of options texts) texts options old new)
  found_in_texts e h = subst (λ b. IfSome result (EndsOn (where_queries b texts) texts options old new)) (sym e) h

  pub read_on_line : (read : Transcripts) → asks_inline options ≡ true → IfSome result (EndsOnRead (λ name. Some name) read options old new) → IfSome result (EndsOnRead (queries_of options texts) read options old new)
  read_on_line read e h = subst (λ b. IfSome result (EndsOnRead (where_queries b texts) read options old new)) (sym e) h

  pub read_in_texts : (read : Transcripts) → asks_inline options ≡ false → IfSome result (EndsOnRead texts read options old new) → IfSome result (EndsOnRead (queries_of options texts) read options old new)
  read_in_texts read e h = subst (λ b. IfSome result (EndsOnRead (where_queries b texts) read options old new)) (sym e) h
