-- What the check of a query and an input prints, and why they are refused.
use Rattle.std.specs.Prelude.{ℕ, List}
use Rattle.record_core.specs.declared.span.Refusal.TheVariants as refusal
use Rattle.semantics.specs.Multiset.{Record}
use Rattle.semantics.specs.Query.{Program}
use Rattle.expr_tree.specs.Plain.{plain_program}
use Rattle.collector.specs.InputText.{IsInputText, IsRefused}
use Rattle.collector.specs.declared.refusal.InputRefusal.TheVariants.{At}
use Rattle.compile.specs.Checked.{IsChecked}
use Rattle.compile.specs.Queries.{IsQuery, IsRefusal}
use Rattle.diagnostics.specs.declared.fault.Fault.{Fault}
use Rattle.diagnostics.specs.declared.fault.Fault.TheVariants.{Query, Input, NoMemory}

-- the text lists the inputs and the arities of the query, and the input text is one of some epochs for those inputs
pub record IsCheckedInput (query input text : List ℕ) : Type 0 where
  pub checked : IsChecked query text
  pub count : ℕ
  pub records : ℕ → ℕ → List Record
  pub epochs : IsInputText (plain_program checked.tree).inputs input count records

-- the input text is refused so, for the inputs of the query
abbrev pub IsInputFault : List ℕ → List ℕ → ℕ → ℕ → Type 0
IsInputFault query input code line = (p : Program) × IsQuery query p × IsRefused p.inputs input (At code line)

-- why they aren't checked: the query is refused, or it is taken and the input is refused, or there was no memory
abbrev pub IsInputCheckFault : List ℕ → List ℕ → Fault → Type 0
IsInputCheckFault query input (Query code start end) = IsRefusal query (refusal.At code (record { start = start; end = end }))
IsInputCheckFault query input (Input code line) = IsInputFault query input code line
IsInputCheckFault query input NoMemory = Unit {0}
IsInputCheckFault query input _ = ⊥
