use Rattle.std.proofs.Common.{rules, ◌∙◌, sym, append-nil}
use Rattle.rows.specs.Counts.{expanded}
use Rattle.semantics.proofs.MultisetSums.{≈-from}
use Rattle.rows.proofs.Merging.{merged_more, over_in}
use Rattle.rows.proofs.tally.Tally.merge.Goals as goal

pub loop-place-init : goal.loop-place-init
loop-place-init c = (≈-from (sym (append-nil (expanded c.args.self.now.runs))), search rules, search rules)

pub loop-place-preserved : goal.loop-place-preserved
loop-place-preserved c =
    let i = c.loop-place.invariant in (
      merged_more (expanded c.args.self.now.runs) (expanded c.loop-place.self.runs) (expanded c.add.new.self.runs) c.args.rows.now.runs c.loop-place.place c.row.result.now c.count.result (search rules) c.row.ensures.value c.count.ensures.value (search rules) i.0,
      c.add.ensures.arity ∙ i.1,
      i.2,
    )

pub returns-in-Err-clause-over : goal.returns-in-Err-clause-over
returns-in-Err-clause-over c =
    λ e. over_in (expanded c.args.self.now.runs) (expanded c.loop-place.self.runs) c.args.rows.now.runs c.loop-place.place c.row.result.now c.count.result (search rules) c.row.ensures.value c.count.ensures.value c.loop-place.invariant.0 (c.in-Err.ensures.over e)
