use Rattle.std.proofs.Common.{take}
use Rattle.expr_tree.specs.Views.{scalar_tree}
use Rattle.writer.specs.Scalars.{scalar_height}
use Rattle.writer.specs.Sources.{Each, IsScalarSource}
use Rattle.writer.proofs.Checks.{Fits}
use Rattle.writer.proofs.source.scalars_fit.Given as goal

abbrev pub invariant-loop-scalar : goal.invariant-loop-scalar
invariant-loop-scalar g l = Each (Fits scalar_tree IsScalarSource scalar_height l.room) (take l.scalar-index l.scalars)
