use Rattle.std.proofs.Common.{rules, ◌≡◌, ◌∙◌, ap, subst, take}
use Rattle.std.proofs.lemmas.List.{take_all}
use Rattle.rows.specs.FlatRows.{joined}
use Rattle.vertices.specs.Groups.{AreGroupsOf}
use Rattle.vertices.proofs.Piles.{batch_more}
use Rattle.vertices.proofs.group.GroupShard.grouped.Goals as goal

pub absorb-requires : goal.absorb-requires
absorb-requires c = (joined (take c.loop-batch.batch-index c.batches-batches.result.now), c.loop-batch.invariant)

pub loop-batch-preserved : goal.loop-batch-preserved
loop-batch-preserved c =
    batch_more (AreGroupsOf c.args.self.now.operator c.absorb.new.self) c.batches-batches.result.now c.loop-batch.batch-index c.batch-item.result c.counted.result.now.runs (search rules) c.batch-item.is c.counted.ensures.runs c.counted.ensures.all
    (c.in_ok-absorb.ensures (joined (take c.loop-batch.batch-index c.batches-batches.result.now)) c.loop-batch.invariant)

pub finished-requires : goal.finished-requires
finished-requires c = (joined (take c.loop-batch.batch-index c.batches-batches.result.now), c.loop-batch.invariant)

pub returns-clause-grouped : goal.returns-clause-grouped
returns-clause-grouped c =
    let all : joined (take c.loop-batch.batch-index c.batches-batches.result.now) ≡ c.args.pile.now.records = ap joined (take_all c.loop-batch.batch-index c.batches-batches.result.now (search rules)) ∙ c.batches-batches.ensures.records in
    c.in_ok-rows.ensures.grouped c.args.pile.now.records (subst (AreGroupsOf c.args.self.now.operator c.loop-batch.groups) all c.loop-batch.invariant)
