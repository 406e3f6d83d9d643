use Rattle.std.proofs.Common.{rules, ◌≡◌, true}
use Rattle.semantics.specs.Typing.{ScalarFits}
use Rattle.expr_tree.specs.Plain.{plain_comparison, plain_scalar}
use Rattle.expr_tree.specs.Views.{scalar_tree}
use Rattle.compile.proofs.SameForAll.{compare_plain}
use Rattle.compile.proofs.constants.compared.Goals as goal

pub returns-then-is_plain-2 : goal.returns-then-is_plain-2
returns-then-is_plain-2 g c =
    let yes : c.is_plain.result ≡ true = search rules in
    let also : c.is_plain-then-is_plain.result ≡ true = search rules in
    rw (c.holds.ensures, c.requires) (compare_plain (plain_comparison c.args.comparison) (plain_scalar (scalar_tree c.args.left.now)) (plain_scalar (scalar_tree c.args.right.now)) (c.is_plain.ensures yes) (c.is_plain-then-is_plain.ensures also))
