use Rattle.std.proofs.Common.{rules, ◌≡◌, length, arith}
use Rattle.lowering.proofs.vertex.add_vertex.Goals as goal

pub returns-then-number-ge-MAX_VERTICES-clause-many : goal.returns-then-number-ge-MAX_VERTICES-clause-many
returns-then-number-ge-MAX_VERTICES-clause-many c =
    let n : c.len-number.result ≡ length c.args.made.now.items = search rules in
    λ t. omega arith
