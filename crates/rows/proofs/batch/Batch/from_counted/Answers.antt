use Rattle.std.proofs.Common.{rules, ◌≡◌, ◌∙◌, ap}
use Rattle.rows.specs.Counts.{RunList}
use Rattle.rows.proofs.Runs.{batch_holds}
use Rattle.rows.proofs.batch.Batch.from_counted.Goals as goal

pub invariant_of-result : goal.invariant_of-result
invariant_of-result c =
    let held = batch_holds c.args.rows c.in_ok-rows.rows.value (search rules) (search rules) c.requires c.is_empty.ensures.counts c.arity.ensures.each in
    (held.0, held.1, held.2, search rules)

pub returns-clause-arity : goal.returns-clause-arity
returns-clause-arity c =
    let held = batch_holds c.args.rows c.in_ok-rows.rows.value (search rules) (search rules) c.requires c.is_empty.ensures.counts c.arity.ensures.each in
    let same : c.in_ok-rows.rows.value ≡ c.args.rows = search rules in
    held.2 ∙ ap (λ (l : RunList). l.arity) same
