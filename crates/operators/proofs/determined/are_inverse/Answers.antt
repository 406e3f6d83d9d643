use Rattle.std.proofs.Common.{◌≡◌, ◌*◌, ◌%◌, of_z, to_z, sym, ap, ◌∙◌, rules}
use Rattle.std.specs.Int.{w64}
use Rattle.std.proofs.lemmas.Int.{wrapping_mul_is}
use Rattle.operators.proofs.determined.are_inverse.Goals as goal

pub returns : goal.returns
returns c = λ t. (let one : of_z w64 c.args.left * of_z w64 c.args.right % 18446744073709551616 ≡ 1 = search rules in
    sym (wrapping_mul_is w64 c.args.left c.args.right c.ranges.left c.ranges.right) ∙ ap (to_z w64) one)
