-- Inputs that are fed in the first epoch alone.
use Rattle.std.specs.Prelude.{◌≡◌, ◌⊎◌, ◌&&◌, ◌-◌, ℕ, suc, Bool, not, List, [], length, map, nat_lt}
use Rattle.std.specs.List.{filter, list_any}
use Rattle.record_core.specs.declared.span.Span.{Span}
use Rattle.semantics.specs.Query.{Program}
use Rattle.semantics.specs.Time.{below}
use Rattle.expr_tree.specs.Trees.{ProgramTree}
use Rattle.grammar.specs.Texts.{Reads}
use Rattle.collector.specs.InputText.{IsReadFrom}
use Rattle.collector.specs.ReadEpochs.{epoch_count, records_at}
use Rattle.collector.specs.declared.epochs.Epochs.{Epochs}
use Rattle.compile.specs.Queries.{IsQuery}

-- whether the input has records in that epoch
abbrev pub is_fed : Epochs → (input epoch : ℕ) → Bool
is_fed e input epoch = nat_lt 0 (length (records_at e epoch input))

-- whether it has records in a later epoch than the first
abbrev pub is_fed_later : Epochs → (input : ℕ) → Bool
is_fed_later e input = list_any (λ n. is_fed e input (suc n)) (below (epoch_count e - 1))

-- whether it is fed in the first epoch and in no later one, though some input is fed in a later one
abbrev pub is_early : Epochs → (inputs input : ℕ) → Bool
is_early e inputs input = list_any (is_fed_later e) (below inputs) && (is_fed e input 0 && not (is_fed_later e input))

-- the numbers of those inputs
abbrev pub early_inputs : Epochs → (inputs : ℕ) → List ℕ
early_inputs e inputs = filter (is_early e inputs) (below inputs)

-- the numbers are those of the query's inputs in the text of an input; or none, where there is no memory for them
abbrev pub NotesEarly : (query input early : List ℕ) → Type 0
NotesEarly query input early = (early ≡ []) ⊎ ((p : Program) × (e : Epochs) × IsQuery query p × IsReadFrom p.inputs input e × (early ≡ early_inputs e (length p.inputs)))

-- the places of the inputs' names in the program that the text reads as
pub record ArePlacesIn (text : List ℕ) (places : List Span) : Type 0 where
  pub tree : ProgramTree
  pub read : Reads text tree
  pub are : places ≡ map (λ i. i.name_span) tree.inputs
