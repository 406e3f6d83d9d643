use Rattle.std.proofs.Common.{◌++◌, ◌∙◌, List, ap, arith, sym, take}
use Rattle.semantics.specs.Multiset.{Record}
use Rattle.semantics.specs.Graph.{input_count}
use Rattle.graph.specs.Shown.{GraphValue, shown_graph}
use Rattle.board.specs.Fitting.{arity_in}
use Rattle.rows.specs.FlatRows.{arity_of, joined}
use Rattle.rows.proofs.Joined.{item_next}
use Rattle.driver.proofs.Tallying.{stays_then}
use Rattle.alone.proofs.Moved.{each_fits, feeds_more, feeds_none, feeds_one}
use Rattle.alone.proofs.inputs.feed_all.Goals as goal

pub loop-batch-init : goal.loop-batch-init
loop-batch-init g c = let r = c.law_run.ensures in record {
  feeds = feeds_none c.args.board.now.shown c.args.input (r.world, r.shows) c.requires.ready;
  rises = omega arith;
  counts = λ rows s is. is;
}

pub feed-requires-clause-ready : goal.feed-requires-clause-ready
feed-requires-clause-ready g c = c.loop-batch.invariant.feeds.ready

pub feed-requires-clause-there : goal.feed-requires-clause-there
feed-requires-clause-there g c =
    let a = c.law_inputs.ensures in
    let b = c.law_inputs-in-loop-batch.ensures in
    let e = ap (λ (x : GraphValue). input_count (shown_graph x)) c.loop-batch.invariant.feeds.grows.graph in
    omega (arith, a, b, e, c.requires.there)

pub feed-requires-clause-fits : goal.feed-requires-clause-fits
feed-requires-clause-fits g c =
    let same = ap (λ (x : GraphValue). arity_in x c.args.input) c.loop-batch.invariant.feeds.grows.graph in
    ap arity_of c.in_ok-share.ensures ∙ each_fits (arity_in c.args.board.now.shown.graph c.args.input) c.args.batches.now c.loop-batch.batch-index c.batch-item.result c.loop-batch-test.true c.batch-item.is c.arity-some.ensures.some c.requires.fits ∙ sym same

pub loop-batch-preserved : goal.loop-batch-preserved
loop-batch-preserved g c = record {
  feeds =
      let front = joined (take c.loop-batch.batch-index c.args.batches.now) in
      feeds_more c.args.board.now.shown c.loop-batch.board.shown c.feed.new.board.shown c.args.input front c.in_ok-share.field-0 _
      (item_next c.args.batches.now c.loop-batch.batch-index c.batch-item.result c.loop-batch-test.true c.batch-item.is ∙ ap (λ (b : List Record). front ++ b) (sym c.in_ok-share.ensures))
      c.loop-batch.invariant.feeds (feeds_one c.loop-batch.board.shown c.feed.new.board.shown c.args.input c.in_ok-share.field-0 c.in_ok-feed.ensures.feeds);
  rises = (let a = c.loop-batch.invariant.rises in let b = c.in_ok-feed.ensures.rises in omega (arith, a, b));
  counts = λ rows. stays_then c.args.board.now.shown c.loop-batch.board.shown c.feed.new.board.shown rows rows rows (c.loop-batch.invariant.counts rows) (c.in_ok-feed.ensures.counts rows);
}
