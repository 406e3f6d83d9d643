use Rattle.collector.specs.OutputText.{label_of}
use Rattle.follow.specs.Entries.{row_line}
use Rattle.follow.proofs.Entries.{times_more}
use Rattle.follow.proofs.batches.push_times.Goals as goal

pub loop-time-preserved : goal.loop-time-preserved
loop-time-preserved c = times_more (row_line c.args.epoch (label_of c.args.plain c.args.name.now)) c.args.row.now c.loop-time._time c.args.out.now.items c.loop-time.out.items c.push_row.new.out.items c.loop-time.invariant c.in_ok-push_row.ensures
