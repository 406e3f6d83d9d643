use Rattle.std.proofs.Common.{◌<◌, ◌∙◌, ap, arith, length}
use Rattle.semantics.specs.Graph.{input_count}
use Rattle.graph.specs.Shown.{GraphValue, shown_graph}
use Rattle.machine.specs.Step.{Step}
use Rattle.driver.proofs.Tallying.{stays_step, stays_then}
use Rattle.alone.proofs.Moved.{closes_all, closes_more, closes_not, never, no_refusal}
use Rattle.alone.proofs.inputs.close_inputs.Goals as goal

pub loop-input-init : goal.loop-input-init
loop-input-init g c = let r = c.law_run.ensures in record {
  end_is = c.input_count-input-end.ensures.value ∙ ap (λ (x : GraphValue). input_count (shown_graph x)) c.graph.ensures;
  within = omega arith;
  closes = closes_not c.args.board.now.shown (r.world, r.shows) c.requires.ready;
  rises = omega arith;
  counts = λ rows s is. is;
}

pub loop-input-preserved : goal.loop-input-preserved
loop-input-preserved g c = record {
  end_is = c.loop-input.invariant.end_is;
  within = omega (arith, c.loop-input-test.true);
  closes = closes_more c.args.board.now.shown c.loop-input.board.shown c.close.new.self.shown c.loop-input.input c.loop-input.invariant.closes c.in-Ok.ensures.step;
  rises = (let a = c.loop-input.invariant.rises in let b = c.in-Ok.ensures.passed in omega (arith, a, b));
  counts = λ rows. stays_then c.args.board.now.shown c.loop-input.board.shown c.close.new.self.shown rows rows rows (c.loop-input.invariant.counts rows)
      (stays_step c.loop-input.board.shown c.close.new.self.shown (Step.close c.loop-input.input) tt c.in-Ok.ensures.step rows);
}

pub unreachable-requires : goal.unreachable-requires
unreachable-requires g c =
    let t = c.loop-input.board.shown in
    let closes = c.loop-input.invariant.closes in
    let there : c.loop-input.input < length t.inputs =
    let a = c.law_inputs.ensures in
    let b = ap (λ (x : GraphValue). input_count (shown_graph x)) closes.grows.graph in
    omega (arith, a, b, c.loop-input.invariant.end_is, c.loop-input-test.true) in
    never _ c.close.result c.in-Err.field-0 (no_refusal t c.loop-input.input closes.free.runs there (closes.others c.loop-input.input (omega arith))) c.in-Err.is c.close.ensures.answers

pub returns-clause-closes : goal.returns-clause-closes
returns-clause-closes g c = closes_all c.args.board.now.shown c.loop-input.board.shown c.loop-input.input _ (omega (arith, c.loop-input.invariant.within, c.loop-input.invariant.end_is, c.loop-input-test.false)) c.loop-input.invariant.closes
