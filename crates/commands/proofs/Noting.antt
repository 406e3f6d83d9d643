-- What is noted of an input that was read.
use Rattle.std.proofs.Common.{◌≡◌, ◌⊎◌, ◌∙◌, inl, inr, ℕ, List, [], length, Result, Ok, Err, IfOk, ap, subst}
use Rattle.semantics.specs.Query.{Input}
use Rattle.collector.specs.InputText.{IsReadFrom}
use Rattle.collector.specs.declared.epochs.Epochs.{Epochs}
use Rattle.graph.specs.Shown.{GraphValue, shown_graph, shown_inputs, shown_names}
use Rattle.compile.specs.Compiled.{IsCompiled}
use Rattle.compile.specs.Early.{NotesEarly, early_inputs}
use Rattle.diagnostics.specs.declared.fault.Fault.{Fault}

noted : (query input early : List ℕ) (graph : GraphValue) (epochs : Epochs) (count : ℕ) → IsCompiled query (shown_graph graph) (shown_inputs graph) (shown_names graph) → IsReadFrom (shown_inputs graph) input epochs
    → count ≡ length (shown_inputs graph) → (early ≡ []) ⊎ (early ≡ early_inputs epochs count) → NotesEarly query input early
noted query input early graph epochs count compiled read many (inl none) = inl none
noted query input early graph epochs count compiled read many (inr are) =
    inr (
      compiled.program,
      epochs,
      compiled.reads,
      subst (λ (inputs : List Input). IsReadFrom inputs input epochs) compiled.named read,
      are ∙ ap (early_inputs epochs) (many ∙ ap length compiled.named),
    )

-- however the run ends
pub noted_after : (query input early : List ℕ) (graph : GraphValue) (epochs : Epochs) (count : ℕ) (result : Result (Unit {0}) Fault) → IsCompiled query (shown_graph graph) (shown_inputs graph) (shown_names graph)
    → IsReadFrom (shown_inputs graph) input epochs → count ≡ length (shown_inputs graph) → (early ≡ []) ⊎ (early ≡ early_inputs epochs count) → IfOk result (λ u. NotesEarly query input early)
noted_after query input early graph epochs count (Ok u) compiled read many are = noted query input early graph epochs count compiled read many are
noted_after query input early graph epochs count (Err e) compiled read many are = tt
