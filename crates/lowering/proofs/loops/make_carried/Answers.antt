use Rattle.std.proofs.Common.{◌≤◌, ◌+◌, ◌*◌, length, take, arith}
use Rattle.std.proofs.lemmas.List.{length-take-le}
use Rattle.semantics.specs.Lower.{held_turns}
use Rattle.lowering.specs.Scopes.{ports_of}
use Rattle.lowering.proofs.Carried.{length-carry, one-carried, one-carried-over}
use Rattle.lowering.proofs.MoreVertices.{number_of}
use Rattle.lowering.proofs.NamedRelations.{passed_on}
use Rattle.lowering.proofs.loops.make_carried.Goals as goal

pub returns-in_err-carry_one-clause-many : goal.returns-in_err-carry_one-clause-many
returns-in_err-carry_one-clause-many c =
    let taken = length-take-le c.loop-i.i c.args.names.now (omega arith) in
    passed_on c.from_residual.result c.in_err-carry_one.field-0.0 _ c.from_residual.ensures.1
    (one-carried-over (held_turns c.args.turns c.args.once.now) (ports_of c.args.scope.now) c.args.depth c.args.names.now c.loop-i.i _ c.args.made.now.items c.loop-i.made.items c.loop-i-test.true taken c.loop-i.invariant.1 c.in_err-carry_one.ensures.many)

pub loop-i-preserved : goal.loop-i-preserved
loop-i-preserved c =
    let taken = length-take-le c.loop-i.i c.args.names.now (omega arith) in
    let before = number_of c.args.made.now.items c.loop-i.made.items _ c.loop-i.invariant.1 in
    let part = length-carry (held_turns c.args.turns c.args.once.now) (ports_of c.args.scope.now) c.args.depth (length c.args.made.now.items) (take c.loop-i.i c.args.names.now) in
    let after = number_of c.loop-i.made.items c.carry_one.new.made.items _ c.in_ok-carry_one.ensures.made in
    let few : length c.args.made.now.items + 4 * (c.loop-i.i + 1) ≤ 4096 = omega (arith, taken, before, part, after, c.in_ok-carry_one.ensures.few) in
    (few, one-carried (held_turns c.args.turns c.args.once.now) (ports_of c.args.scope.now) c.args.depth c.args.names.now c.loop-i.i c.index-names-i.result _ _ c.args.made.now.items c.loop-i.made.items c.carry_one.new.made.items c.loop-i-test.true c.index-names-i.is c.turns_held-held.ensures c.find-from.ensures c.loop-i.invariant.1 taken c.in_ok-carry_one.ensures.made)
