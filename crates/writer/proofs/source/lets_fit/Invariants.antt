use Rattle.std.proofs.Common.{take}
use Rattle.expr_tree.specs.Views.{let_tree}
use Rattle.writer.specs.Sources.{Each}
use Rattle.writer.proofs.Checks.{LetFits}
use Rattle.writer.proofs.source.lets_fit.Given as goal

abbrev pub invariant-loop-item : goal.invariant-loop-item
invariant-loop-item g l = Each (LetFits let_tree) (take l.item-index l.lets)
