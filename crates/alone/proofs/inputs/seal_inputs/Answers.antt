use Rattle.std.proofs.Common.{ap, arith}
use Rattle.semantics.specs.Graph.{input_count}
use Rattle.graph.specs.Shown.{GraphValue, shown_graph}
use Rattle.driver.proofs.Tallying.{stays_then}
use Rattle.alone.proofs.Moved.{seals_more, seals_not}
use Rattle.alone.proofs.inputs.seal_inputs.Goals as goal

pub loop-input-init : goal.loop-input-init
loop-input-init g c = let r = c.law_run.ensures in record { seals = seals_not c.args.board.now.shown (r.world, r.shows) c.requires.ready; rises = omega arith; counts = λ rows s is. is }

pub seal-requires-clause-ready : goal.seal-requires-clause-ready
seal-requires-clause-ready g c = c.loop-input.invariant.seals.ready

pub seal-requires-clause-there : goal.seal-requires-clause-there
seal-requires-clause-there g c =
    let a = c.law_inputs.ensures in
    let b = c.law_inputs-in-loop-input.ensures in
    let e = ap (λ (x : GraphValue). input_count (shown_graph x)) c.loop-input.invariant.seals.grows.graph in
    omega (arith, a, b, e, c.loop-input-test.true, c.requires.there)

pub seal-requires-clause-below : goal.seal-requires-clause-below
seal-requires-clause-below g c =
    let same = c.loop-input.invariant.seals.others c.loop-input.input (omega arith) in
    let low = c.requires.below c.loop-input.input (omega (arith, c.loop-input-test.true)) in
    omega (arith, same, low)

pub loop-input-preserved : goal.loop-input-preserved
loop-input-preserved g c = record {
  seals = seals_more c.args.board.now.shown c.loop-input.board.shown c.seal.new.board.shown c.loop-input.input c.loop-input.invariant.seals c.in_ok-seal.ensures.seals;
  rises = (let a = c.loop-input.invariant.rises in let b = c.in_ok-seal.ensures.rises in omega (arith, a, b));
  counts = λ rows. stays_then c.args.board.now.shown c.loop-input.board.shown c.seal.new.board.shown rows rows rows (c.loop-input.invariant.counts rows) (c.in_ok-seal.ensures.counts rows);
}
