-- What a typed program shows.
use Rattle.std.specs.Prelude.{ℕ, List}
use Rattle.expr_tree.specs.Trees.{ProgramTree}
use Rattle.expr_tree.specs.Views.{program_tree}
use Rattle.typing.specs.declared.typed.Typed.{Typed}

-- its program
abbrev pub typed_program : {A : Type 0} → Typed A → ProgramTree
typed_program t = program_tree t.program

-- the arities of its outputs, in order
abbrev pub output_arities : {A : Type 0} → Typed A → List ℕ
output_arities t = t.arities.items
