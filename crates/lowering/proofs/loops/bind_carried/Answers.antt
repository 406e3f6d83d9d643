use Rattle.std.proofs.Common.{◌-◌, ◌+◌, ◌*◌, drop, ap, arith}
use Rattle.semantics.specs.Lower.{port}
use Rattle.lowering.specs.Scopes.{ports_of}
use Rattle.lowering.proofs.Carried.{extended, names-from}
use Rattle.lowering.proofs.Scopes.{held_one}
use Rattle.lowering.proofs.loops.bind_carried.Goals as goal

pub loop-left-preserved : goal.loop-left-preserved
loop-left-preserved c =
    let from = names-from c.args.names.now (c.loop-left.left - 1) c.loop-left.left c.index-names-left.result (omega arith) (omega arith) c.index-names-left.is in (
      omega arith,
      held_one (ports_of c.args.scope.now) (c.args.first + 4 * (c.loop-left.left - 1)) (c.args.first + 4 * c.loop-left.left) (drop (c.loop-left.left - 1) c.args.names.now) (drop c.loop-left.left c.args.names.now) c.index-names-left.result _ c.loop-left.scope c.bind.new.self from (omega arith) c.loop-left.invariant.1 (ap (λ v. port v 0) (omega arith)) c.in_ok-bind.ensures.ok,
      extended c.args.scope.now c.loop-left.scope c.bind.new.self _ c.loop-left.invariant.2 c.in_ok-bind.ensures.ok,
    )
