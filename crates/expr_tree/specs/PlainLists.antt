-- The query that lists in memory show, without the places of their nodes.
use Rattle.std.specs.Prelude.{List, map}
use Rattle.expr_tree.specs.declared.scalar.Scalar as declared_scalar
use Rattle.expr_tree.specs.declared.program.Let as declared_let
use Rattle.expr_tree.specs.declared.program.Output as declared_output
use Rattle.expr_tree.specs.Plain.{plain_let, plain_output, plain_scalar}
use Rattle.expr_tree.specs.Views.{let_tree, output_tree, scalar_tree}
use Rattle.semantics.specs.Query.{Let, Output, Scalar}

-- of scalars
abbrev pub plain_scalars : {A : Type 0} → List (declared_scalar.Scalar A) → List Scalar
plain_scalars scalars = map plain_scalar (map scalar_tree scalars)

-- of named relations
abbrev pub plain_lets : {A : Type 0} → List (declared_let.Let A) → List Let
plain_lets lets = map plain_let (map let_tree lets)

-- of outputs
abbrev pub plain_outputs : {A : Type 0} → List (declared_output.Output A) → List Output
plain_outputs outputs = map plain_output (map output_tree outputs)
