-- What the check of a query prints, and why it is refused.
use Rattle.std.specs.Prelude.{◌≡◌, ℕ, List, [], ◌∷◌, ◌++◌, if◌then◌else◌, codes, decimal}
use Rattle.std.specs.List.{flat_map}
use Rattle.std.specs.Str.{bytes_eq}
use Rattle.semantics.specs.Query.{Input, Output, Program}
use Rattle.semantics.specs.Typing.{WellTyped}
use Rattle.expr_tree.specs.Trees.{ProgramTree}
use Rattle.expr_tree.specs.Plain.{plain_program}
use Rattle.grammar.specs.Texts as grammar
use Rattle.record_core.specs.declared.span.Refusal.TheVariants.{At}
use Rattle.compile.specs.Queries.{IsRefusal}
use Rattle.diagnostics.specs.declared.fault.Fault.{Fault}
use Rattle.diagnostics.specs.declared.fault.Fault.TheVariants.{Query, NoMemory}

-- `input NAME/ARITY`
abbrev pub input_line : Input → List ℕ
input_line i = codes "input " ++ (i.name ++ (codes "/" ++ (decimal i.arity ++ codes "\n")))

-- what is written of an output before its arity: nothing where it is named `out`, and else `NAME/`
abbrev pub output_label : List ℕ → List ℕ
output_label name = if bytes_eq name (codes "out") then [] else name ++ codes "/"

-- `output ARITY` or `output NAME/ARITY`
abbrev pub output_line : Output → ℕ → List ℕ
output_line o arity = codes "output " ++ (output_label o.name ++ (decimal arity ++ codes "\n"))

-- a line for each output in order
abbrev pub output_lines : List Output → (arities : List ℕ) → List ℕ
output_lines [] ns = []
output_lines (o ∷ os) [] = []
output_lines (o ∷ os) (n ∷ ns) = output_line o n ++ output_lines os ns

-- a line for each input in order, and one for each output
abbrev pub arities_text : List Input → List Output → (arities : List ℕ) → List ℕ
arities_text inputs outputs arities = flat_map input_line inputs ++ output_lines outputs arities

-- the lines of a program whose outputs have these arities
abbrev pub check_text : Program → (arities : List ℕ) → List ℕ
check_text p arities = arities_text p.inputs p.outputs arities

-- the query text reads as a well-typed program, and the text lists its inputs and its arities
pub record IsChecked (query text : List ℕ) : Type 0 where
  pub tree : ProgramTree
  pub arities : List ℕ
  pub read : grammar.Reads query tree
  pub typed : WellTyped (plain_program tree) arities
  pub is_text : text ≡ check_text (plain_program tree) arities

-- why a query text isn't checked: it is refused, or there was no memory
abbrev pub IsCheckFault : List ℕ → Fault → Type 0
IsCheckFault query (Query code start end) = IsRefusal query (At code (record { start = start; end = end }))
IsCheckFault query NoMemory = Unit {0}
IsCheckFault query _ = ⊥
