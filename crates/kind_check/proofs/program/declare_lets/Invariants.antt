use Rattle.std.proofs.Common.{◌≡◌, List, map, drop}
use Rattle.expr_tree.specs.Views.{let_tree}
use Rattle.expr_tree.specs.Plain.{plain_let}
use Rattle.semantics.specs.Query.{Output}
use Rattle.kinds.specs.Relations.{rest_kinds}
use Rattle.kind_check.specs.Scopes.{scope_of}
use Rattle.kind_check.proofs.program.declare_lets.Given as goal

-- what is left decides
abbrev pub invariant-loop-item : goal.invariant-loop-item
invariant-loop-item g l = (outputs : List Output) → rest_kinds l.named (scope_of l.fn.scope) (map plain_let (map let_tree l.lets)) outputs ≡ rest_kinds l.named (scope_of l.scope) (map plain_let (map let_tree (drop l.item-index l.lets))) outputs
