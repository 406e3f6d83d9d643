-- A query and an input that are checked together.
use Rattle.std.proofs.Common.{◌≡◌, ◌⊎◌, ◌∙◌, inl, inr, ℕ, List, [], length, refl, ap, subst}
use Rattle.semantics.specs.Multiset.{Record}
use Rattle.semantics.specs.Query.{Input}
use Rattle.semantics.specs.Typing.{WellTyped}
use Rattle.expr_tree.specs.Trees.{ProgramTree}
use Rattle.expr_tree.specs.Plain.{plain_program}
use Rattle.grammar.specs.Texts.{Reads}
use Rattle.collector.specs.InputText.{IsInputText, IsReadFrom, IsRefused}
use Rattle.collector.specs.declared.epochs.Epochs.{Epochs}
use Rattle.collector.specs.declared.refusal.InputRefusal.{InputRefusal}
use Rattle.collector.specs.declared.refusal.InputRefusal.TheVariants.{At, NoMemory}
use Rattle.compile.specs.Checked.{arities_text}
use Rattle.compile.specs.Faults.{input_fault_of}
use Rattle.compile.specs.CheckedInputs.{IsCheckedInput, IsInputCheckFault}
use Rattle.compile.specs.Early.{NotesEarly, early_inputs}

module _ (query input : List ℕ) (tree : ProgramTree) (ns : List ℕ) (inputs : List Input) (read : Reads query tree) (typed : WellTyped (plain_program tree) ns) (same : inputs ≡ (plain_program tree).inputs) where
  pub both_checked : (text : List ℕ) (count : ℕ) (records : ℕ → ℕ → List Record) → text ≡ arities_text (plain_program tree).inputs (plain_program tree).outputs ns → IsInputText inputs input count records → IsCheckedInput query input text
  both_checked text count records is_text epochs = record {
    checked = record { tree = tree; arities = ns; read = read; typed = typed; is_text = is_text };
    count = count;
    records = records;
    epochs = subst (λ is. IsInputText is input count records) same epochs;
  }

  pub early_noted : (e : Epochs) (count : ℕ) (early : List ℕ) → IsReadFrom inputs input e → count ≡ length inputs → (early ≡ []) ⊎ (early ≡ early_inputs e count) → NotesEarly query input early
  early_noted e count early from many (inl none) = inl none
  early_noted e count early from many (inr are) =
      inr (
        plain_program tree,
        e,
        record { tree = tree; arities = ns; read = read; plain = refl; typed = typed },
        subst (λ is. IsReadFrom is input e) same from,
        are ∙ ap (early_inputs e) (many ∙ ap length same),
      )

  pub input_refused : (e : InputRefusal) → IsRefused inputs input e → IsInputCheckFault query input (input_fault_of e)
  input_refused (At code line) h =
      (plain_program tree, record { tree = tree; arities = ns; read = read; plain = refl; typed = typed }, subst (λ is. IsRefused is input (At code line)) same h)
  input_refused NoMemory h = tt
