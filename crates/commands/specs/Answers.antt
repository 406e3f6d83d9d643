-- How a compiled query is answered.
use Rattle.std.specs.Prelude.{◌≡◌, ℕ, List, Option, Result, Ok, Err}
use Rattle.std.specs.Io.KnownBytes.{Appends}
use Rattle.semantics.specs.Multiset.{Record}
use Rattle.semantics.specs.Query.{Program}
use Rattle.graph.specs.Shown.{GraphValue, shown_graph, shown_inputs, shown_names}
use Rattle.collector.specs.declared.epochs.Epochs.{Epochs}
use Rattle.collector.specs.ReadEpochs.{epoch_count, records_at}
use Rattle.collector.specs.WrittenBytes.{AppendsFront}
use Rattle.compile.specs.Compiled.{IsCompiled}
pub use Rattle.query_answers.specs.Answers.{IsAnswer}
use Rattle.diagnostics.specs.declared.fault.Fault.{Fault}
use Rattle.diagnostics.specs.declared.fault.Fault.TheVariants.{NoMemory, Count, NoWorker, Incomplete, Write}

-- the answer is written whole at Ok, a beginning of it where the writer failed, and else nothing
abbrev pub Responds : Program → ℕ → (ℕ → ℕ → List Record) → Option (List ℕ) → Option (List ℕ) → Result (Unit {0}) Fault → Type 0
Responds p count records old new (Ok u) = (text : List ℕ) × IsAnswer p count records text × Appends old new text
Responds p count records old new (Err Write) = (text : List ℕ) × IsAnswer p count records text × AppendsFront old new text
Responds p count records old new (Err NoMemory) = new ≡ old
Responds p count records old new (Err Count) = new ≡ old
Responds p count records old new (Err NoWorker) = new ≡ old
Responds p count records old new (Err Incomplete) = new ≡ old
Responds p count records old new (Err _) = ⊥

-- that answer, on the epochs, of whatever query text the graph was compiled from
abbrev pub RespondsBy : GraphValue → Epochs → Option (List ℕ) → Option (List ℕ) → Result (Unit {0}) Fault → Type 0
RespondsBy graph epochs old new result = (query : List ℕ) (c : IsCompiled query (shown_graph graph) (shown_inputs graph) (shown_names graph))
    → Responds c.program (epoch_count epochs) (records_at epochs) old new result
