use Rattle.rows.specs.FlatRows.{joined}
use Rattle.collector.specs.Piles.{piled}
use Rattle.collector.proofs.Batched.{epoch_put}
use Rattle.collector.proofs.input_records.Track.finish.Goals as goal

pub loop-lists-preserved : goal.loop-lists-preserved
loop-lists-preserved c = epoch_put (λ v. joined v.items) (λ v. piled v.items) c.loop-lists.kept.items c.push.new.self.items c.loop-lists.yielded c.in_ok-batches_of.field-0 c.in-Some.lists c.loop-lists.invariant c.in_ok-push.ensures.items c.in_ok-batches_of.ensures
