use Rattle.std.proofs.Common.{◌≤◌, length, sym, ◌∙◌, arith}
use Rattle.expr_tree.specs.Plain.{plain_scalar}
use Rattle.expr_tree.specs.Views.{scalar_tree}
use Rattle.semantics.specs.Normal.{NormalScalar}
use Rattle.normalise.proofs.Folding.{folded_already}
use Rattle.normalise.proofs.Moved.{named-at, named-none, normal-named, moved_at}
use Rattle.normalise.proofs.replacement.moved_out.Goals as goal

pub returns-then-index-by-clause-folded : goal.returns-then-index-by-clause-folded
returns-then-index-by-clause-folded g c normal =
    let e = named-at scalar_tree plain_scalar c.args.by.now c.args.column c.index-by-index.result c.if-index-by.true c.index-by-index.is in
    rw (c.take.ensures.moved ∙ sym c.index-by-index.is, e) (folded_already _ (rw e at (normal-named _ c.args.column normal)))

pub returns-then-index-by-clause-moved : goal.returns-then-index-by-clause-moved
returns-then-index-by-clause-moved g c =
    let n : NormalScalar (plain_scalar (scalar_tree c.take.new.self)) = rw c.take.ensures.left tt in
    moved_at scalar_tree plain_scalar c.args.by.now c.args.column c.take.new.self n

pub returns-else-index-by-clause-folded : goal.returns-else-index-by-clause-folded
returns-else-index-by-clause-folded g c normal =
    let none : length c.args.by.now ≤ c.args.column = omega arith in
    rw (named-none scalar_tree plain_scalar c.args.by.now c.args.column none) (folded_already _ tt)
