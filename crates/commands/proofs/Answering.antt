-- What a board that is worked off has emitted is what its query means on the epochs that were read.
use Rattle.std.proofs.Common.{◌≡◌, ◌<◌, ◌+◌, ℕ, suc, List, [], ◌∷◌, length, map, slice_index_or, cond, refl, sym, ap, ap₂, subst, ◌∙◌, arith}
use mathlib.Core.Path.{fun_ext}
use Rattle.semantics.specs.Multiset.{Record, ◌≈◌}
use Rattle.semantics.specs.Query.{Input, Name, Output, Program}
use Rattle.semantics.specs.Graph.{output_numbers}
use Rattle.semantics.proofs.LoweredDataflow.{lowered_outputs}
use Rattle.semantics.specs.Meaning.{meaning, program_meaning, input_names, let_names, same_name}
use Rattle.semantics.proofs.StepsKeep.{rewrites_inputs, rewrites_meaning, rewrites_names, rewrites_typed}
use Rattle.graph.specs.Shown.{shown_graph, shown_inputs, shown_names}
use Rattle.board.specs.Shown.{Shown}
use Rattle.board.specs.Promises.{HasPassed, IsDrained, KeepsPromise, RunsProgram, emitted_at}
use Rattle.collector.specs.OutputText.{IsTextFrom}
use Rattle.collector.specs.ReadEpochs.{epoch_count, records_at}
use Rattle.collector.specs.declared.epochs.Epochs.{Epochs}
use Rattle.compile.specs.Compiled.{IsCompiled}
use Rattle.execution.specs.Fed.{EmittedBelow, HoldsFed, IsWorkedOff, fed_at}
use Rattle.commands.specs.Answers.{IsAnswer}
use Rattle.compile.proofs.Rewritten.{same_many}

-- names mean the same where the inputs have the same records
inputs_same : (as' : List Input) (k : ℕ) (f g : ℕ → List Record) → ((i : ℕ) → i < k + length as' → f i ≡ g i) → (x : List ℕ) → input_names as' k f x ≡ input_names as' k g x
inputs_same [] k f g h x = refl
inputs_same (a ∷ as') k f g h x = ap₂ (λ rs ss. cond (same_name a.name x) rs ss) (h k (omega arith)) (inputs_same as' (suc k) f g (λ i lt. h i (omega arith)) x)

-- a program's meaning depends on the records of its inputs alone
pub meant_alike : (p : Program) (k : ℕ) (f g : ℕ → List Record) → ((i : ℕ) → i < length p.inputs → f i ≡ g i) → program_meaning p k f ≡ program_meaning p k g
unfolding program_meaning
meant_alike p k f g h = ap (λ names. slice_index_or (map (λ (o : Output). meaning o.value (let_names p.lets names)) p.outputs) k []) (fun_ext (λ x. inputs_same p.inputs 0 f g (λ i lt. h i (omega arith)) x))

-- what the normal form means on what was fed is what the text's program means on what was read
meant_of_text : (query : List ℕ) (s : Shown) (epochs : Epochs) (k epoch : ℕ) → (c : IsCompiled query (shown_graph s.graph) (shown_inputs s.graph) (shown_names s.graph)) → HoldsFed s (length (shown_inputs s.graph)) epochs (epoch_count epochs) → epoch < epoch_count epochs
    → program_meaning c.rewritten k (λ i. fed_at s i epoch) ≡ program_meaning c.program k (records_at epochs epoch)
meant_of_text query s epochs k epoch c fed lt =
    let count : length c.rewritten.inputs ≡ length (shown_inputs s.graph) = ap length (rewrites_inputs c.normal.reached ∙ sym c.named) in
    meant_alike c.rewritten k (λ i. fed_at s i epoch) (records_at epochs epoch) (λ i less. fed epoch i lt (omega (arith, less, count)))
    ∙ rewrites_meaning c.normal.reached k (records_at epochs epoch)

runs : (query : List ℕ) (s : Shown) (c : IsCompiled query (shown_graph s.graph) (shown_inputs s.graph) (shown_names s.graph)) → RunsProgram c.rewritten s
runs query s c = record { arities = c.reads.arities; typed = rewrites_typed c.normal.reached c.reads.arities c.reads.typed; graph = c.graph }

pub is_answer : (s : Shown) (epochs : Epochs) (names : List Name) (records : (output epoch : ℕ) → List Record) (text : List ℕ) → IsWorkedOff s.graph s epochs → names ≡ shown_names s.graph → EmittedBelow s (epoch_count epochs) records
    → ((p : Program) → RunsProgram p s → KeepsPromise p s) → (IsDrained s → (k e : ℕ) → HasPassed s k e) → IsTextFrom names records 0 (epoch_count epochs) text
    → (query : List ℕ) (c : IsCompiled query (shown_graph s.graph) (shown_inputs s.graph) (shown_names s.graph)) → IsAnswer c.program (epoch_count epochs) (records_at epochs) text
is_answer s epochs names records text done named below headline passed is_text query c = record {
  emitted = records;
  meant = λ k epoch there lt.
      let same : length c.rewritten.outputs ≡ length c.program.outputs = same_many c.rewritten c.program (rewrites_names c.normal.reached) in
      let many : length (output_numbers (shown_graph s.graph)) ≡ length c.rewritten.outputs = ap (λ g. length (output_numbers g)) c.graph ∙ lowered_outputs c.rewritten in
      let all : emitted_at s k epoch ≈ program_meaning c.rewritten k (λ i. fed_at s i epoch) = (headline c.rewritten (runs query s c) k epoch (omega (arith, there, same))).whole (passed done.drained k epoch) in
      let meant : emitted_at s k epoch ≈ program_meaning c.program k (records_at epochs epoch) = subst (λ rs. emitted_at s k epoch ≈ rs) (meant_of_text query s epochs k epoch c done.fed lt) all in
      subst (λ rs. rs ≈ program_meaning c.program k (records_at epochs epoch)) (sym (below k epoch (omega (arith, there, same, many)) lt)) meant;
  is_text = subst (λ ns. IsTextFrom ns records 0 (epoch_count epochs) text) (named ∙ c.named_outputs) is_text;
}
