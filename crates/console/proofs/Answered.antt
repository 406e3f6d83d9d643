-- A run that has ended with status 0 has answered.
use Rattle.std.proofs.Common.{◌≡◌, ◌⊎◌, inl, inr, Bool, true, ℕ, List, Some, Result, Ok, Err, sym, subst}
use Rattle.collector.specs.Transcripts.{is_complete}
use Rattle.command_line.specs.declared.line_options.Options.{Options}
use Rattle.command_line.specs.declared.line_options.Options.TheVariants.{Run, Follow, Check, Graph, Format, Sql, Replay, Explain}
use Rattle.diagnostics.specs.Faults.{status_of}
use Rattle.diagnostics.specs.declared.fault.Fault.{Fault}
use Rattle.diagnostics.specs.declared.fault.Fault.TheVariants.{Query, TooManyVertices, Input, Schedule, NoMemory, Count, NoWorker, Incomplete, ReadQuery, ReadInput, Write}
use Rattle.console.specs.Commands.{AsksRun, HasEnded, IsAnswered, status_after}
use Rattle.commands.specs.Readings.{Known}
use Rattle.console.specs.Asked.{queries_of, query_word}
use Rattle.console.specs.Transcribed.{IsReadQuery, RunsOnTexts}
use Rattle.console.specs.declared.transcripts.Transcripts.{Transcripts}

not_zero : (f : Fault) → 0 ≡ status_of f → ⊥
not_zero (Query code start end) e = absurd cc
not_zero TooManyVertices e = absurd cc
not_zero (Input code line) e = absurd cc
not_zero (Schedule code line) e = absurd cc
not_zero NoMemory e = absurd cc
not_zero Count e = absurd cc
not_zero NoWorker e = absurd cc
not_zero Incomplete e = absurd cc
not_zero ReadQuery e = absurd cc
not_zero ReadInput e = absurd cc
not_zero Write e = absurd cc

answered : (queries : Known) (read : Transcripts) (query input : List ℕ) (marked : Bool) (old new : List ℕ) (result : Result (Unit {0}) Fault) → RunsOnTexts queries read query input marked (Some old) (Some new) result → 0 ≡ status_after result → IsAnswered queries read query input marked old new
answered queries read query input marked old new (Ok u) r e =
    let whole : IsReadQuery (queries query) r.query × (is_complete r.input ≡ true) = elim r.whole [ inl w ↦ w | inr down ↦ absurd down ] in
    record {
      query = r.query;
      input = r.input;
      opened = r.opened;
      other_opened = r.other_opened;
      enough = whole.0;
      complete = whole.1;
      text = r.ends.0.0;
      run = r.ends.0.1;
      written = r.ends.0.2;
    }
answered queries read query input marked old new (Err f) r e = absurd (not_zero f e)

pub run_answered : (texts : Known) (read : Transcripts) (options : Options) (q i : List ℕ) (m : Bool) (old new : List ℕ) → AsksRun options q i m → HasEnded texts read options (Some old) (Some new) 0 → IsAnswered (queries_of options texts) read q i m old new
run_answered texts read (Run query input workers watch stats end_mark explain) q i m old new a d =
    let queries : Known = queries_of (Run query input workers watch stats end_mark explain) texts in
    subst (λ n. IsAnswered queries read n i m old new) (sym a.0)
    (subst (λ n. IsAnswered queries read (query_word query) n m old new) (sym a.1)
    (subst (λ n. IsAnswered queries read (query_word query) input.now n old new) (sym a.2) (answered queries read (query_word query) input.now end_mark old new d.result d.on_read.0 d.reported)))
run_answered texts read (Follow query input workers first end_mark explain) q i m old new a d = absurd a
run_answered texts read (Check query input heap explain) q i m old new a d = absurd a
run_answered texts read (Graph query form heap explain) q i m old new a d = absurd a
run_answered texts read (Format query explain) q i m old new a d = absurd a
run_answered texts read (Sql query form epochs output explain) q i m old new a d = absurd a
run_answered texts read (Replay query schedule workers views explain) q i m old new a d = absurd a
run_answered texts read (Explain code) q i m old new a d = absurd a
