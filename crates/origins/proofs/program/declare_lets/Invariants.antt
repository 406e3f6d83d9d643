use Rattle.std.proofs.Common.{◌≡◌, List, map, drop}
use Rattle.expr_tree.specs.Views.{let_tree}
use Rattle.expr_tree.specs.Plain.{plain_let}
use Rattle.semantics.specs.Query.{Output}
use Rattle.origins.specs.Relations.{rest_origins}
use Rattle.origins.specs.Scopes.{scope_of}
use Rattle.origins.proofs.program.declare_lets.Given as goal

-- what is left decides
abbrev pub invariant-loop-item : goal.invariant-loop-item
invariant-loop-item g l = (outputs : List Output) → rest_origins (scope_of l.fn.scope) l.next (map plain_let (map let_tree l.lets)) outputs ≡ rest_origins (scope_of l.scope) l.next (map plain_let (map let_tree (drop l.item-index l.lets))) outputs
