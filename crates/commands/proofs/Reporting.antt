-- What is reported of a run.
use Rattle.std.proofs.Common.{◌≡◌, inl, inr, ℕ, List, Bool, true, false, Option, Some, None, refl, subst}
use Rattle.std.specs.Io.KnownBytes.{Appends}
use Rattle.collector.specs.InputText.{IsReadFrom}
use Rattle.collector.specs.WrittenBytes.{AppendsFront}
use Rattle.collector.specs.declared.epochs.Epochs.{Epochs}
use Rattle.graph.specs.Shown.{GraphValue, shown_graph, shown_inputs, shown_names}
use Rattle.compile.specs.Compiled.{IsCompiled}
use Rattle.board.specs.Promises.{IsOpening}
use Rattle.board.specs.Shown.{Shown}
use Rattle.driver.specs.Tallies.{IsTally, Rows}
use Rattle.execution.specs.Fed.{IsWorkedOff}
use Rattle.execution.proofs.Tellings.{front_of_all}
use Rattle.command_line.specs.declared.line_options.GraphForm.{GraphForm}
use Rattle.commands.specs.declared.counting.Reporting.{Reporting}
use Rattle.commands.specs.Reported.{AreReporting, ReportsBy, ReportsFor, ReportsIn, ReportsOver, ReportsRun}

-- whole or not, a beginning is written
pub whole_or_front : (whole : Bool) (a b : Option (List ℕ)) (text : List ℕ) → (whole ≡ true → Appends a b text) → (whole ≡ false → AppendsFront a b text) → AppendsFront a b text
whole_or_front true a b text all front = front_of_all a b text (all refl)
whole_or_front false a b text all front = front refl

-- a run that is counted, and what is reported of it
pub run_reported : (first last : Shown) (epochs : Epochs) (rows : Rows) (report : Option Reporting) (old new : Option (List ℕ)) → IsWorkedOff first.graph last epochs → IsTally first last rows → ReportsBy report rows old new
    → ReportsRun first epochs report old new
run_reported first last epochs rows report old new worked tally by = inr (last, rows, worked, tally, by)

-- a new board of the graph
pub reported_for : (stats : Option GraphForm) (report : Option Reporting) (graph : GraphValue) (workers : ℕ) (first : Shown) (epochs : Epochs) (old new : Option (List ℕ)) → AreReporting stats graph report → IsOpening graph workers first
    → ReportsRun first epochs report old new → ReportsFor stats graph epochs old new
reported_for None None graph workers first epochs old new are opening (inl same) = same
reported_for None None graph workers first epochs old new are opening (inr (last, rows, worked, tally, by)) = by
reported_for None (Some r) graph workers first epochs old new are opening h = absurd are
reported_for (Some form) None graph workers first epochs old new are opening h = absurd are
reported_for (Some form) (Some r) graph workers first epochs old new are opening (inl same) = inl same
reported_for (Some form) (Some r) graph workers first epochs old new are opening (inr (last, rows, worked, tally, by)) =
    inr (
      workers,
      first,
      last,
      rows,
      opening,
      subst (λ (g : GraphValue). IsWorkedOff g last epochs) opening.graph worked,
      tally,
      subst (λ (g : GraphValue). ReportsIn form g rows old new) are.1 (subst (λ (f : GraphForm). ReportsIn f r.statistics.graph.value rows old new) are.0 by),
    )

-- nothing is reported
pub none_for : (stats : Option GraphForm) (graph : GraphValue) (epochs : Epochs) (old new : Option (List ℕ)) → new ≡ old → ReportsFor stats graph epochs old new
none_for None graph epochs old new same = same
none_for (Some form) graph epochs old new same = inl same

pub reported_over : (stats : Option GraphForm) (query input : List ℕ) (graph : GraphValue) (epochs : Epochs) (old new : Option (List ℕ)) → IsCompiled query (shown_graph graph) (shown_inputs graph) (shown_names graph)
    → IsReadFrom (shown_inputs graph) input epochs → ReportsFor stats graph epochs old new → ReportsOver stats query input old new
reported_over stats query input graph epochs old new compiled read h = inr (graph, epochs, compiled, read, h)
