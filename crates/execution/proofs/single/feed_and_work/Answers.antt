use Rattle.std.proofs.Common.{◌∙◌, ap, arith, refl, subst, sym}
use Rattle.semantics.specs.Graph.{input_count}
use Rattle.graph.specs.Shown.{GraphValue, shown_graph}
use Rattle.driver.proofs.Tallying.{stays_then}
use Rattle.alone.proofs.Stepping.{moves_work}
use Rattle.execution.specs.Single.{Fit}
use Rattle.execution.proofs.FedEpochs.{all_free, feeding_worked, first_free}
use Rattle.execution.proofs.Tellings.{tells_nothing, tells_then}
use Rattle.execution.proofs.single.feed_and_work.Goals as goal

pub loop-epoch-init : goal.loop-epoch-init
loop-epoch-init g c = record {
  end_is = c.count-epoch-end.ensures;
  within = omega arith;
  graph = refl;
  one = c.requires.one;
  fed = c.requires.fed;
  told = c.requires.told;
  tells = tells_nothing g.W.Write.contents c.args.watch.now.watcher c.args.watch.now.told;
  counts = λ s is. is;
  received = c.requires.received;
}

pub feed_epoch-requires-clause-inputs : goal.feed_epoch-requires-clause-inputs
feed_epoch-requires-clause-inputs g c =
    let e = ap (λ (x : GraphValue). input_count (shown_graph x)) c.loop-epoch.invariant.graph in
    omega (arith, e, c.requires.inputs)

pub feed_epoch-requires-clause-fit : goal.feed_epoch-requires-clause-fit
feed_epoch-requires-clause-fit g c = subst (Fit c.args.task.epochs.now) (sym c.loop-epoch.invariant.graph) c.requires.fit

pub work_now-requires-clause-free : goal.work_now-requires-clause-free
work_now-requires-clause-free g c =
    let fed = c.in_ok-feed_epoch.ensures in
    first_free c.feed_epoch.new.board.shown (fed.grows.sides ∙ c.loop-epoch.invariant.one) fed.fed.ready.free

pub loop-epoch-preserved : goal.loop-epoch-preserved
loop-epoch-preserved g c =
    let inv = c.loop-epoch.invariant in
    let fed = c.in_ok-feed_epoch.ensures in
    let work = c.in_ok-work_now.ensures in
    let works = moves_work c.feed_epoch.new.board.shown c.work_now.new.board.shown work.moves fed.grows.live in
    let one = works.grows.sides ∙ fed.grows.sides ∙ inv.one in
    record {
      end_is = inv.end_is;
      within = omega (arith, c.loop-epoch-test.true);
      graph = works.grows.graph ∙ fed.grows.graph ∙ inv.graph;
      one = one;
      fed = feeding_worked c.feed_epoch.new.board.shown c.work_now.new.board.shown c.args.task.inputs c.args.task.epochs.now _ fed.fed works (all_free c.work_now.new.board.shown one work.runs work.free);
      told = work.told;
      tells = tells_then g.W.Write.contents c.args.watch.now.watcher c.loop-epoch.watch.watcher c.work_now.new.watch.watcher c.args.watch.now.told c.loop-epoch.watch.told c.work_now.new.watch.told inv.tells c.work_now.ensures.tells;
      counts = stays_then c.args.board.now.shown c.feed_epoch.new.board.shown c.work_now.new.board.shown c.args.tally.now c.loop-epoch.tally c.work_now.new.tally
          (stays_then c.args.board.now.shown c.loop-epoch.board.shown c.feed_epoch.new.board.shown c.args.tally.now c.loop-epoch.tally c.loop-epoch.tally inv.counts (fed.counts c.loop-epoch.tally)) work.counts;
      received = c.work_now.ensures.received;
    }

pub returns-in_err-work_now-clause-tells : goal.returns-in_err-work_now-clause-tells
returns-in_err-work_now-clause-tells g c =
    tells_then g.W.Write.contents c.args.watch.now.watcher c.loop-epoch.watch.watcher c.work_now.new.watch.watcher c.args.watch.now.told c.loop-epoch.watch.told c.work_now.new.watch.told c.loop-epoch.invariant.tells c.work_now.ensures.tells

pub returns-in_err-work_now-2-clause-tells : goal.returns-in_err-work_now-2-clause-tells
returns-in_err-work_now-2-clause-tells g c =
    tells_then g.W.Write.contents c.args.watch.now.watcher c.loop-epoch.watch.watcher c.work_now-2.new.watch.watcher c.args.watch.now.told c.loop-epoch.watch.told c.work_now-2.new.watch.told c.loop-epoch.invariant.tells c.work_now-2.ensures.tells

pub close_inputs-requires : goal.close_inputs-requires
close_inputs-requires g c = record { ready = c.loop-epoch.invariant.fed.ready }

pub work_now-requires-2-clause-free : goal.work_now-requires-2-clause-free
work_now-requires-2-clause-free g c =
    let closes = c.close_inputs.ensures.closes in
    first_free c.close_inputs.new.board.shown (closes.grows.sides ∙ c.loop-epoch.invariant.one) closes.free

pub returns-clause-graph : goal.returns-clause-graph
returns-clause-graph g c =
    let closes = c.close_inputs.ensures.closes in
    let works = moves_work c.close_inputs.new.board.shown c.work_now-2.new.board.shown c.in_ok-work_now-2.ensures.moves closes.grows.live in
    works.grows.graph ∙ closes.grows.graph ∙ c.loop-epoch.invariant.graph

pub returns-clause-drained : goal.returns-clause-drained
returns-clause-drained g c =
    let closes = c.close_inputs.ensures.closes in
    let work = c.in_ok-work_now-2.ensures in
    let works = moves_work c.close_inputs.new.board.shown c.work_now-2.new.board.shown work.moves closes.grows.live in
    work.drained (works.grows.sides ∙ closes.grows.sides ∙ c.loop-epoch.invariant.one) (λ i l.
    let size = c.law_inputs.ensures in
    let e = ap (λ (x : GraphValue). input_count (shown_graph x)) (works.grows.graph ∙ closes.grows.graph) in
    works.closed i ∙ closes.closed i (omega (arith, l, size, e)))

pub returns-clause-fed : goal.returns-clause-fed
returns-clause-fed g c =
    let inv = c.loop-epoch.invariant in
    let closes = c.close_inputs.ensures.closes in
    let works = moves_work c.close_inputs.new.board.shown c.work_now-2.new.board.shown c.in_ok-work_now-2.ensures.moves closes.grows.live in
    λ e i lt less. works.fed i e ∙ closes.fed i e ∙ inv.fed.fed e i (omega (arith, lt, inv.within, inv.end_is, c.loop-epoch-test.false)) less

pub returns-clause-counts : goal.returns-clause-counts
returns-clause-counts g c =
    let inv = c.loop-epoch.invariant in
    stays_then c.args.board.now.shown c.close_inputs.new.board.shown c.work_now-2.new.board.shown c.args.tally.now c.loop-epoch.tally c.work_now-2.new.tally
    (stays_then c.args.board.now.shown c.loop-epoch.board.shown c.close_inputs.new.board.shown c.args.tally.now c.loop-epoch.tally c.loop-epoch.tally inv.counts (c.close_inputs.ensures.counts c.loop-epoch.tally))
    c.in_ok-work_now-2.ensures.counts

pub returns-clause-tells : goal.returns-clause-tells
returns-clause-tells g c =
    tells_then g.W.Write.contents c.args.watch.now.watcher c.loop-epoch.watch.watcher c.work_now-2.new.watch.watcher c.args.watch.now.told c.loop-epoch.watch.told c.work_now-2.new.watch.told c.loop-epoch.invariant.tells c.work_now-2.ensures.tells
