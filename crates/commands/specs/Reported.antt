-- What is reported of what each vertex did in a run.
use Rattle.std.specs.Prelude.{◌≡◌, ◌⊎◌, ℕ, List, Option, Some, None, codes, length}
use Rattle.graph.specs.Shown.{GraphValue, shown_graph, shown_inputs, shown_names}
use Rattle.collector.specs.InputText.{IsReadFrom}
use Rattle.collector.specs.WrittenBytes.{AppendsFront}
use Rattle.collector.specs.declared.epochs.Epochs.{Epochs}
use Rattle.compile.specs.Compiled.{IsCompiled}
use Rattle.board.specs.Promises.{IsOpening}
use Rattle.board.specs.Shown.{Shown}
use Rattle.driver.specs.Tallies.{IsTally, Rows}
use Rattle.execution.specs.Fed.{IsWorkedOff}
use Rattle.statistics.specs.Report.{IsReport}
use Rattle.command_line.specs.declared.line_options.GraphForm.{GraphForm}
use Rattle.command_line.specs.declared.line_options.GraphForm.TheVariants.{Lines, Dot}
use Rattle.commands.specs.declared.counting.Reporting.{Reporting}

-- the line in the place of the counters where there was no memory for them
abbrev pub no_counters : List ℕ
no_counters = codes "out of memory for the counters\n"

-- The lines are those of the counters, of which each vertex has some, or the line that there are none; a writer that fails was given a beginning.
-- Of a drawing nothing is said.
abbrev pub ReportsIn : GraphForm → GraphValue → Rows → (old new : Option (List ℕ)) → Type 0
ReportsIn Lines g rows old new =
    (new ≡ old) ⊎ AppendsFront old new no_counters ⊎ ((length rows ≡ length (shown_graph g)) × ((text : List ℕ) × IsReport g rows text × AppendsFront old new text))
ReportsIn Dot g rows old new = Unit {0}

-- the same, if a report is asked for
abbrev pub ReportsBy : Option Reporting → Rows → (old new : Option (List ℕ)) → Type 0
ReportsBy None rows old new = new ≡ old
ReportsBy (Some r) rows old new = ReportsIn r.form r.statistics.graph.value rows old new

-- there is a report if it is asked for, in this form and of this graph
abbrev pub AreReporting : Option GraphForm → GraphValue → Option Reporting → Type 0
AreReporting None g None = Unit {0}
AreReporting None g (Some r) = ⊥
AreReporting (Some form) g None = ⊥
AreReporting (Some form) g (Some r) = (r.form ≡ form) × (r.statistics.graph.value ≡ g)

-- the counters say what was done from what the board showed first until the epochs were worked off
abbrev pub ReportsRun : (first : Shown) → Epochs → Option Reporting → (old new : Option (List ℕ)) → Type 0
ReportsRun first epochs report old new = (new ≡ old) ⊎ ((last : Shown) × (rows : Rows) × IsWorkedOff first.graph last epochs × IsTally first last rows × ReportsBy report rows old new)

-- the same of a new board of the graph, on some number of workers
abbrev pub ReportsFor : Option GraphForm → GraphValue → Epochs → (old new : Option (List ℕ)) → Type 0
ReportsFor None graph epochs old new = new ≡ old
ReportsFor (Some form) graph epochs old new =
    (new ≡ old)
    ⊎ ((workers : ℕ) × (first : Shown) × (last : Shown) × (rows : Rows) × IsOpening graph workers first × IsWorkedOff graph last epochs × IsTally first last rows
    × ReportsIn form graph rows old new)

-- the same of the query's graph and the input's epochs
abbrev pub ReportsOver : Option GraphForm → (query input : List ℕ) → (old new : Option (List ℕ)) → Type 0
ReportsOver stats query input old new =
    (new ≡ old)
    ⊎ ((graph : GraphValue) × (epochs : Epochs) × IsCompiled query (shown_graph graph) (shown_inputs graph) (shown_names graph) × IsReadFrom (shown_inputs graph) input epochs
    × ReportsFor stats graph epochs old new)
