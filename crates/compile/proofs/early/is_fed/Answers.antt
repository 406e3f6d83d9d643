use Rattle.std.proofs.Common.{rules, ◌<◌, ◌≡◌, length, arith}
use Rattle.compile.proofs.FedEpochs.{none_more, says_some, some_there}
use Rattle.compile.proofs.early.is_fed.Goals as goal

pub returns-then-weight-gt0 : goal.returns-then-weight-gt0
returns-then-weight-gt0 c =
    let within : c.loop-i.i < length c.batches-batches.result.now = omega arith in
    let some : 0 < length c.index-batches-i.result = omega (arith, c.weight.ensures) in
    says_some _ _ c.batches-batches.ensures (some_there c.batches-batches.result.now c.loop-i.i c.index-batches-i.result within c.index-batches-i.is some)

pub loop-i-preserved : goal.loop-i-preserved
loop-i-preserved c =
    let within : c.loop-i.i < length c.batches-batches.result.now = omega arith in
    let none : length c.index-batches-i.result ≡ 0 = omega (arith, c.weight.ensures) in
    none_more c.batches-batches.result.now c.loop-i.i c.index-batches-i.result within c.index-batches-i.is c.loop-i.invariant none
