use Rattle.std.proofs.Common.{[], subst}
use Rattle.semantics.specs.Multiset.{◌≈◌}
use Rattle.rows.specs.Counts.{records_in}
use Rattle.collector.proofs.Batched.{batch_put, none_put}
use Rattle.collector.proofs.input_records.batches_of.Goals as goal

pub loop-rows-preserved-in-Continue-branch-4 : goal.loop-rows-preserved-in-Continue-branch-4
loop-rows-preserved-in-Continue-branch-4 c =
    let same : c.in-Some-2.batch ≈ c.in-Some.rows.rows = subst (λ o. records_in o ≈ c.in-Some.rows.rows) c.in-Some-2.is c.in_ok-batch.ensures.value in
    batch_put c.loop-rows.batches.items c.push.new.self.items c.loop-rows.yielded c.in-Some.rows c.in-Some-2.batch c.loop-rows.invariant c.in_ok-push.ensures.items same

pub loop-rows-preserved : goal.loop-rows-preserved
loop-rows-preserved c =
    let same : [] ≈ c.in-Some.rows.rows = subst (λ o. records_in o ≈ c.in-Some.rows.rows) c.in_default.is c.in_ok-batch.ensures.value in
    none_put c.loop-rows.batches.items c.loop-rows.yielded c.in-Some.rows c.loop-rows.invariant same
