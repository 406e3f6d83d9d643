use Rattle.std.proofs.Common.{◌∙◌, Some, cond}
use Rattle.indexmap.specs.IndexMap.{get}
use Rattle.semantics.specs.Time.{same_time}
use Rattle.vertices.proofs.by_time.put.Goals as goal

pub returns : goal.returns
returns g c = λ t. c.in_ok-insert.ensures.updates.0 t ∙ (λ j. cond (same_time (c.copied.ensures j) t) (Some c.args.state) (get same_time c.args.times.now t))
