use Rattle.std.proofs.Common.{arith}
use Rattle.rows.specs.Counts.{runs}
use Rattle.collector.specs.OutputText.{label_of}
use Rattle.follow.specs.Entries.{row_line}
use Rattle.follow.proofs.Entries.{runs_done, runs_more}
use Rattle.follow.proofs.batches.push_batch.Goals as goal

pub loop-place-preserved : goal.loop-place-preserved
loop-place-preserved c = record {
  end_is = c.loop-place.invariant.end_is;
  lines = runs_more (row_line c.args.epoch (label_of c.args.plain c.args.name.now)) (runs c.args.batch.now) c.loop-place.place c.row.result.now c.count.result c.args.out.now.items c.loop-place.out.items c.push_times.new.out.items (omega (arith, c.loop-place-test.true, c.loop-place.invariant.end_is)) c.row.ensures.value c.count.ensures.value c.loop-place.invariant.lines c.in_ok-push_times.ensures;
}

pub returns : goal.returns
returns c = runs_done (row_line c.args.epoch (label_of c.args.plain c.args.name.now)) (runs c.args.batch.now) c.loop-place.place c.args.batch.now c.args.out.now.items c.loop-place.out.items (omega (arith, c.loop-place-test.false, c.loop-place.invariant.end_is)) c.len-place-end.ensures.all c.loop-place.invariant.lines
