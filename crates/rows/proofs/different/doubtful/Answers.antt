use Rattle.std.proofs.Common.{rules, arith, subst, ◌∙◌, ◌+◌}
use Rattle.std.proofs.lemmas.List.{length-set}
use Rattle.rows.proofs.Owners.{AreOwned, owned_first, owned_other, owned_different}
use Rattle.rows.proofs.Walks.{at_any}
use Rattle.rows.proofs.different.doubtful.Goals as goal

pub loop-place-preserved-then-owner-eq0 : goal.loop-place-preserved-then-owner-eq0
loop-place-preserved-then-owner-eq0 c = (
  owned_first c.args.rows.now.rows c.loop-place.place c.row-row.result.now (search rules) (search rules) c.loop-place.owners.items c.loop-place.doubtful.rows c.bucket_of-bucket.result (c.loop-place.place + 1) (search rules) (search rules) (search rules) (omega arith) c.loop-place.invariant.0,
  search (rules, length-set),
  search rules,
  search rules,
)

pub loop-place-preserved : goal.loop-place-preserved
loop-place-preserved c =
    let differs = owned_other c.args.rows.now.rows c.loop-place.place c.row-row.result.now (search rules) (search rules) c.loop-place.owners.items c.loop-place.doubtful.rows c.bucket_of-bucket.result c.index.result.now (search rules) (c.index.ensures ∙ at_any c.loop-place.owners.items c.bucket_of-bucket.result c.index.result.now 0 (search rules)) (search rules) (search rules) c.loop-place.invariant.0 in (
      subst (AreOwned c.args.rows.now.rows (c.loop-place.place + 1) c.loop-place.owners.items) (search rules) differs,
      search rules,
      search rules,
      search rules,
    )

pub returns : goal.returns
returns c = λ d. owned_different c.args.rows.now.rows c.loop-place.place c.loop-place.owners.items c.loop-place.doubtful.rows (search rules) c.loop-place.invariant.0 d
