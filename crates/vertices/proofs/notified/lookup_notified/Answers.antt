use Rattle.std.proofs.Common.{◌++◌, map, flat_map, rules}
use Rattle.expr_tree.specs.Plain.{plain_pair}
use Rattle.semantics.specs.Meaning.{paired}
use Rattle.semantics.specs.Time.{earlier_turns}
use Rattle.semantics.proofs.MultisetSums.{≈-refl}
use Rattle.vertices.proofs.Fitting.{passed_on}
use Rattle.vertices.proofs.notified.lookup_notified.Goals as goal

pub returns-in_err-out-clause-over : goal.returns-in_err-out-clause-over
returns-in_err-out-clause-over c =
    let t = c.args.time.now in
    passed_on c.from_residual.result c.in_err-out.field-0.0 _ (search rules)
    (λ e a h.
    let made = paired (map plain_pair c.args.shard.now.plan.pairs.items) (a 0 t) (a 1 t ++ flat_map (a 1) (earlier_turns t)) in
    ((λ q. made), (λ q. ≈-refl made), 0, c.in_err-out.ensures.over e a h))

pub returns-clause-sends : goal.returns-clause-sends
returns-clause-sends c = λ a h q. c.in_ok-out.ensures.records a h
