-- Which program a query text is, and why a text is none.
use Rattle.std.specs.Prelude.{◌≡◌, ◌⊎◌, ℕ, List, map}
use Rattle.record_core.specs.declared.span.Refusal.{Refusal}
use Rattle.record_core.specs.declared.span.Refusal.TheVariants as refusal
use Rattle.record_core.specs.declared.span.Refusal.TheVariants.{At}
use Rattle.semantics.specs.Query.{Name, Output, Program}
use Rattle.semantics.specs.Typing.{WellTyped}
use Rattle.expr_tree.specs.Trees.{ProgramTree}
use Rattle.expr_tree.specs.Plain.{plain_program}
use Rattle.grammar.specs.Texts as grammar
use Rattle.parser.specs.Refusals as parser
use Rattle.typing.specs.FirstFault.{HasFirstFault}
use Rattle.typing.specs.Shown.{typed_program}
use Rattle.typing.specs.declared.typed.Typed.{Typed}

-- the names of a program's outputs, in order
abbrev pub output_names : Program → List Name
output_names p = map (λ (o : Output). o.name) p.outputs

-- the text reads as a tree that is well typed and is the program, spans aside
pub record IsQuery (text : List ℕ) (p : Program) : Type 0 where
  pub tree : ProgramTree
  pub arities : List ℕ
  pub read : grammar.Reads text tree
  pub plain : p ≡ plain_program tree
  pub typed : WellTyped p arities

-- the text reads as the tree of a typed program
abbrev pub IsTypedQuery : {A : Type 0} → List ℕ → Typed A → Type 0
IsTypedQuery text t = grammar.Reads text (typed_program t)

-- the text reads as a tree that this is the first fault of
abbrev pub IsIllTyped : List ℕ → ℕ → ℕ → ℕ → Type 0
IsIllTyped text code start end = (tree : ProgramTree) × grammar.Reads text tree × HasFirstFault tree (At code (record { start = start; end = end }))

-- why a query text is refused: it is no program, or the first fault of the program that it is
abbrev pub IsRefusal : List ℕ → Refusal → Type 0
IsRefusal text (At code span) = parser.Refuses text (At code span) ⊎ IsIllTyped text code span.start span.end
IsRefusal text refusal.NoMemory = Unit {0}
