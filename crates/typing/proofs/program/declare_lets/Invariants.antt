use Rattle.std.proofs.Common.{◌≡◌, drop, map}
use Rattle.expr_tree.specs.Views.{let_tree}
use Rattle.typing.specs.Verdict.{each, let_verdict}
use Rattle.typing.proofs.program.declare_lets.Given as goal

-- what is left decides
abbrev pub invariant-loop-item : goal.invariant-loop-item
invariant-loop-item g l = each let_verdict (map let_tree l.lets) l.fn.names ≡ each let_verdict (map let_tree (drop l.item-index l.lets)) l.names
