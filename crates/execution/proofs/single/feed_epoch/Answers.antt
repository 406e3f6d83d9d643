use Rattle.std.proofs.Common.{◌≡◌, ap, arith, subst, sym}
use Rattle.semantics.specs.Graph.{input_count}
use Rattle.semantics.specs.PortArity.{HaveFields}
use Rattle.graph.specs.Shown.{GraphValue, shown_graph}
use Rattle.rows.specs.FlatRows.{joined}
use Rattle.board.specs.Fitting.{arity_in}
use Rattle.driver.proofs.Tallying.{stays_then}
use Rattle.alone.proofs.Moved.{grows_not, grows_on}
use Rattle.execution.specs.Single.{IsFeeding}
use Rattle.execution.proofs.FedEpochs.{feeding_fed, feeding_sealed, on_ok}
use Rattle.execution.proofs.single.feed_epoch.Goals as goal

pub loop-input-init : goal.loop-input-init
loop-input-init g c = let r = c.law_run.ensures in record {
  within = omega arith;
  fed = c.requires.fed;
  grows = grows_not c.args.board.now.shown (r.world, r.shows);
  rises = omega arith;
  counts = λ rows s is. is;
}

pub feed_all-requires-clause-ready : goal.feed_all-requires-clause-ready
feed_all-requires-clause-ready g c = c.loop-input.invariant.fed.ready

pub feed_all-requires-clause-there : goal.feed_all-requires-clause-there
feed_all-requires-clause-there g c =
    let a = c.law_inputs.ensures in
    let e = ap (λ (x : GraphValue). input_count (shown_graph x)) c.loop-input.invariant.grows.graph in
    omega (arith, a, e, c.requires.inputs, c.loop-input-test.true)

pub feed_all-requires-clause-fits : goal.feed_all-requires-clause-fits
feed_all-requires-clause-fits g c =
    subst (λ (x : GraphValue). HaveFields (arity_in x c.loop-input.input) (joined c.batches.result.now)) (sym c.loop-input.invariant.grows.graph)
    (subst (HaveFields (arity_in c.args.board.now.shown.graph c.loop-input.input)) (sym c.batches.ensures) (c.requires.fit c.loop-input.input c.args.epoch))

pub loop-input-preserved : goal.loop-input-preserved
loop-input-preserved g c =
    let inv = c.loop-input.invariant in
    let feeds = c.in_ok-feed_all.ensures.feeds in
    record {
      within = omega (arith, c.loop-input-test.true);
      fed = feeding_fed c.loop-input.board.shown c.feed_all.new.board.shown c.args.task.inputs c.args.task.epochs.now c.args.epoch c.loop-input.input _ c.batches.ensures c.loop-input-test.true inv.fed feeds;
      grows = grows_on c.args.board.now.shown c.loop-input.board.shown c.feed_all.new.board.shown inv.grows feeds.grows;
      rises = (let a = inv.rises in let b = c.in_ok-feed_all.ensures.rises in omega (arith, a, b));
      counts = λ rows. stays_then c.args.board.now.shown c.loop-input.board.shown c.feed_all.new.board.shown rows rows rows (inv.counts rows) (c.in_ok-feed_all.ensures.counts rows);
    }

pub seal_inputs-requires-clause-ready : goal.seal_inputs-requires-clause-ready
seal_inputs-requires-clause-ready g c = c.loop-input.invariant.fed.ready

pub seal_inputs-requires-clause-there : goal.seal_inputs-requires-clause-there
seal_inputs-requires-clause-there g c =
    let a = c.law_inputs-2.ensures in
    let e = ap (λ (x : GraphValue). input_count (shown_graph x)) c.loop-input.invariant.grows.graph in
    omega (arith, a, e, c.requires.inputs)

pub seal_inputs-requires-clause-below : goal.seal_inputs-requires-clause-below
seal_inputs-requires-clause-below g c = λ i lt. let o = c.loop-input.invariant.fed.opened i lt in omega (arith, o, c.requires.few)

pub returns-clause-fed : goal.returns-clause-fed
returns-clause-fed g c =
    let inv = c.loop-input.invariant in
    let last : c.loop-input.input ≡ c.args.task.inputs = omega (arith, inv.within, c.loop-input-test.false) in
    let fed = subst (IsFeeding c.loop-input.board.shown c.args.task.inputs c.args.task.epochs.now c.args.epoch) last inv.fed in
    on_ok c.seal_inputs.result (feeding_sealed c.loop-input.board.shown c.seal_inputs.new.board.shown c.args.task.inputs c.args.task.epochs.now c.args.epoch fed) c.seal_inputs.ensures.seals

pub returns-clause-grows : goal.returns-clause-grows
returns-clause-grows g c = on_ok c.seal_inputs.result (λ q. grows_on c.args.board.now.shown c.loop-input.board.shown c.seal_inputs.new.board.shown c.loop-input.invariant.grows q.grows) c.seal_inputs.ensures.seals

pub returns-clause-rises : goal.returns-clause-rises
returns-clause-rises g c = on_ok c.seal_inputs.result (λ q. let a = c.loop-input.invariant.rises in omega (arith, a, q)) c.seal_inputs.ensures.rises

pub returns-clause-counts : goal.returns-clause-counts
returns-clause-counts g c = on_ok c.seal_inputs.result (λ q. λ rows. stays_then c.args.board.now.shown c.loop-input.board.shown c.seal_inputs.new.board.shown rows rows rows (c.loop-input.invariant.counts rows) (q rows)) c.seal_inputs.ensures.counts
