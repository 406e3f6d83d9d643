-- A run answers as its board does.
use Rattle.std.proofs.Common.{◌≡◌, ℕ, List, Option, Result, Ok, Err, IfErr, subst}
use Rattle.semantics.specs.Multiset.{Record, ◌≈◌}
use Rattle.semantics.proofs.MeaningOfMultisets.{program_same}
use Rattle.semantics.proofs.MultisetSums.{≈-trans}
use Rattle.semantics.specs.Query.{Input, Name, Program}
use Rattle.semantics.specs.Graph.{Graph}
use Rattle.graph.specs.Shown.{GraphValue, shown_graph, shown_inputs, shown_names}
use Rattle.collector.specs.InputText.{IsInputText, IsReadFrom}
use Rattle.collector.specs.ReadEpochs.{epoch_count, records_at}
use Rattle.collector.specs.declared.epochs.Epochs.{Epochs}
use Rattle.execution.specs.Single.{IsOfWork}
use Rattle.execution.specs.declared.unfinished.Unfinished.{Unfinished}
use Rattle.execution.specs.declared.unfinished.Unfinished.TheVariants as run
use Rattle.commands.specs.Answers.{IsAnswer, Responds, RespondsBy}
use Rattle.compile.specs.Compiled.{IsCompiled}
use Rattle.commands.specs.Faults.{run_fault_of}
use Rattle.commands.specs.Runs.{Ends, IsAfterReading}
use Rattle.diagnostics.specs.declared.fault.Fault.{Fault}
use Rattle.diagnostics.specs.declared.fault.Fault.TheVariants.{Query, TooManyVertices, Input as InputFault, Schedule, NoMemory, Count, NoWorker, Incomplete, ReadQuery, ReadInput, Write}

answer_alike : (p : Program) (count : ℕ) (r s : ℕ → ℕ → List Record) (text : List ℕ) → ((epoch input : ℕ) → r epoch input ≈ s epoch input) → IsAnswer p count r text → IsAnswer p count s text
answer_alike p count r s text same a = record {
  emitted = a.emitted;
  meant = λ k epoch there lt. ≈-trans (a.meant k epoch there lt) (program_same p k (r epoch) (s epoch) (same epoch));
  is_text = a.is_text;
}

-- an answer to records is one to them in another order
pub responds_alike : (p : Program) (count : ℕ) (r s : ℕ → ℕ → List Record) (old new : Option (List ℕ)) (result : Result (Unit {0}) Fault) → ((epoch input : ℕ) → r epoch input ≈ s epoch input) → Responds p count r old new result → Responds p count s old new result
responds_alike p count r s old new (Ok u) same h = (h.0, answer_alike p count r s h.0 same h.1, h.2)
responds_alike p count r s old new (Err Write) same h = (h.0, answer_alike p count r s h.0 same h.1, h.2)
responds_alike p count r s old new (Err NoMemory) same h = h
responds_alike p count r s old new (Err (Query code start end)) same h = h
responds_alike p count r s old new (Err TooManyVertices) same h = h
responds_alike p count r s old new (Err (InputFault code line)) same h = h
responds_alike p count r s old new (Err (Schedule code line)) same h = h
responds_alike p count r s old new (Err Count) same h = h
responds_alike p count r s old new (Err NoWorker) same h = h
responds_alike p count r s old new (Err Incomplete) same h = h
responds_alike p count r s old new (Err ReadQuery) same h = h
responds_alike p count r s old new (Err ReadInput) same h = h

run_ends : (query input : List ℕ) (g : Graph) (inputs : List Input) (names : List Name) (count : ℕ) (records : ℕ → ℕ → List Record) (old new : Option (List ℕ)) (result : Result (Unit {0}) Fault) → (c : IsCompiled query g inputs names)
    → IsInputText inputs input count records → Responds c.program count records old new result → Ends query input old new result
run_ends query input g inputs names count records old new (Ok u) c h r =
    (r.0, record { program = c.program; count = count; records = records; reads = c.reads; epochs = subst (λ is. IsInputText is input count records) c.named h; answer = r.1 }, r.2)
run_ends query input g inputs names count records old new (Err Write) c h r =
    (r.0, record { program = c.program; count = count; records = records; reads = c.reads; epochs = subst (λ is. IsInputText is input count records) c.named h; answer = r.1 }, r.2)
run_ends query input g inputs names count records old new (Err NoMemory) c h r = r
run_ends query input g inputs names count records old new (Err (Query code start end)) c h r = absurd r
run_ends query input g inputs names count records old new (Err TooManyVertices) c h r = absurd r
run_ends query input g inputs names count records old new (Err (InputFault code line)) c h r = absurd r
run_ends query input g inputs names count records old new (Err (Schedule code line)) c h r = absurd r
run_ends query input g inputs names count records old new (Err Count) c h r =
    (r, record { program = c.program; count = count; records = records; reads = c.reads; epochs = subst (λ is. IsInputText is input count records) c.named h })
run_ends query input g inputs names count records old new (Err NoWorker) c h r = r
run_ends query input g inputs names count records old new (Err Incomplete) c h r = r
run_ends query input g inputs names count records old new (Err ReadQuery) c h r = absurd r
run_ends query input g inputs names count records old new (Err ReadInput) c h r = absurd r

-- a run ends as the answer over the epochs of its input does
pub ends_by : (query input : List ℕ) (graph : GraphValue) (epochs : Epochs) (old new : Option (List ℕ)) (result : Result (Unit {0}) Fault) → IsCompiled query (shown_graph graph) (shown_inputs graph) (shown_names graph)
    → IsReadFrom (shown_inputs graph) input epochs → RespondsBy graph epochs old new result → Ends query input old new result
ends_by query input graph epochs old new result compiled (records, is, same) responds =
    run_ends query input (shown_graph graph) (shown_inputs graph) (shown_names graph) (epoch_count epochs) records old new result compiled is
    (responds_alike compiled.program (epoch_count epochs) (records_at epochs) records old new result same (responds query compiled))

pub after_reading : (p : Program) (count : ℕ) (records : ℕ → ℕ → List Record) (old new : Option (List ℕ)) (result : Result (Unit {0}) Fault) → Responds p count records old new result → IfErr result IsAfterReading
after_reading p count records old new (Ok u) r = tt
after_reading p count records old new (Err Write) r = tt
after_reading p count records old new (Err NoMemory) r = tt
after_reading p count records old new (Err (Query code start end)) r = tt
after_reading p count records old new (Err TooManyVertices) r = tt
after_reading p count records old new (Err (InputFault code line)) r = tt
after_reading p count records old new (Err (Schedule code line)) r = tt
after_reading p count records old new (Err Count) r = tt
after_reading p count records old new (Err NoWorker) r = tt
after_reading p count records old new (Err Incomplete) r = tt
after_reading p count records old new (Err ReadQuery) r = absurd r
after_reading p count records old new (Err ReadInput) r = absurd r

-- a run that came to no end has written nothing
pub unfinished_responds : (p : Program) (count : ℕ) (records : ℕ → ℕ → List Record) (old new : Option (List ℕ)) (u : Unfinished) → new ≡ old → Responds p count records old new (Err (run_fault_of u))
unfinished_responds p count records old new run.NoMemory same = same
unfinished_responds p count records old new run.Count same = same
unfinished_responds p count records old new run.NoWorker same = same
unfinished_responds p count records old new run.Incomplete same = same

-- where all threads were started, that is no fault
pub all_started : (u : Unfinished) → run_fault_of u ≡ NoWorker → ⊥
all_started run.NoMemory h = absurd cc
all_started run.Count h = absurd cc
all_started run.NoWorker h = absurd cc
all_started run.Incomplete h = absurd cc

-- a fault of work is no incomplete run
pub is_whole : (u : Unfinished) → IsOfWork u → run_fault_of u ≡ Incomplete → ⊥
is_whole run.NoMemory is h = absurd cc
is_whole run.Count is h = absurd cc
is_whole run.NoWorker is h = absurd is
is_whole run.Incomplete is h = absurd is
