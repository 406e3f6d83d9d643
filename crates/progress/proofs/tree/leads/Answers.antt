use Rattle.semantics.proofs.Cases.{is_true}
use Rattle.progress.proofs.Options.{not_true}
use Rattle.progress.proofs.Orders.{other_way}
use Rattle.progress.proofs.Forks.{leads_by}
use Rattle.progress.proofs.tree.leads.Goals as goal

pub returns-in-Some-top-clause-left : goal.returns-in-Some-top-clause-left
returns-in-Some-top-clause-left c = λ e.
    leads_by c.args.left.now c.args.right.now c.in-Some.on_left.now c.in-Some-top.on_right.now c.in-Some.ensures.top.0 c.in-Some.ensures.top.1
    (c.counters_leq.ensures.0 (is_true c.counters_leq.result e)) c.in-Some-top.ensures.first

pub returns-in-Some-top-clause-right : goal.returns-in-Some-top-clause-right
returns-in-Some-top-clause-right c = λ e.
    leads_by c.args.right.now c.args.left.now c.in-Some-top.on_right.now c.in-Some.on_left.now c.in-Some-top.ensures.top.0 c.in-Some-top.ensures.top.1
    (other_way c.in-Some.on_left.now c.in-Some-top.on_right.now (λ h. not_true c.counters_leq.result e (c.counters_leq.ensures.1 h))) c.in-Some.ensures.first
