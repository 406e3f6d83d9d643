use Rattle.std.proofs.Common.{rules, ◌∙◌}
use Rattle.rows.specs.Counts.{expanded, rows_of, runs}
use Rattle.rows.proofs.Merging.{merged_more}
use Rattle.semantics.specs.Meaning.{in_both}
use Rattle.vertices.proofs.Counting.{all_counted, over_batch, too_often}
use Rattle.vertices.proofs.PortSets.{counted_from}
use Rattle.vertices.proofs.Sets.{sent_on}
use Rattle.vertices.proofs.port_sets.meet_all.Goals as goal

pub loop-place-preserved : goal.loop-place-preserved
loop-place-preserved c =
    let i = c.loop-place.invariant in
    let other = rows_of c.args.other.now.runs in (
      merged_more (expanded c.args.tally.now.runs) (expanded c.loop-place.tally.runs) (expanded c.meet.new.tally.runs) (runs c.args.batch.now) c.loop-place.place c.row.result.now c.count.result (search rules) c.row.ensures.value c.count.ensures.value (search rules) i.0,
      sent_on (in_both (rows_of c.args.tally.now.runs) other) (in_both (rows_of c.loop-place.tally.runs) other) (in_both (rows_of c.meet.new.tally.runs) other) c.args.sends.now.rows c.loop-place.sends.rows c.meet.new.sends.rows i.1 (search rules),
      c.meet.ensures.arity ∙ i.2,
      c.meet.ensures.same ∙ i.3,
      i.4,
    )

pub returns-in-Err-clause-over : goal.returns-in-Err-clause-over
returns-in-Err-clause-over c =
    λ e xs h. too_often (expanded c.args.tally.now.runs) xs c.args.batch.now h
    (over_batch (expanded c.args.tally.now.runs) (expanded c.loop-place.tally.runs) c.args.batch.now (runs c.args.batch.now) c.loop-place.place c.row.result.now c.count.result c.len-place-end.ensures.all (search rules) c.row.ensures.value c.count.ensures.value c.loop-place.invariant.0 (c.in-Err.ensures.over e))

pub returns-clause-records : goal.returns-clause-records
returns-clause-records c =
    λ xs h. counted_from (expanded c.args.tally.now.runs) (expanded c.loop-place.tally.runs) xs c.args.batch.now h
    (all_counted (expanded c.args.tally.now.runs) (expanded c.loop-place.tally.runs) c.args.batch.now (runs c.args.batch.now) c.loop-place.place c.len-place-end.ensures.all (search rules) c.loop-place.invariant.0)
