use Rattle.std.proofs.Common.{◌≡◌, drop, map}
use Rattle.expr_tree.specs.Plain.{plain_pair}
use Rattle.kinds.specs.Relations.{may_join}
use Rattle.field_kinds.proofs.columns.may_join.Given as goal

-- what is left decides
abbrev pub invariant-loop-pair : goal.invariant-loop-pair
invariant-loop-pair l = may_join l.left l.right (map plain_pair l.pairs) ≡ may_join l.left l.right (map plain_pair (drop l.pair-index l.pairs))
