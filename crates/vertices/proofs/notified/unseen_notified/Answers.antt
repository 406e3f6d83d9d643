use Rattle.std.proofs.Common.{◌∙◌, [], List, cond, nat_lt, ap}
use Rattle.rows.specs.Counts.{expanded}
use Rattle.semantics.specs.Multiset.{Record}
use Rattle.semantics.specs.Time.{last}
use Rattle.vertices.proofs.Sending.{unseen_notified}
use Rattle.vertices.proofs.notified.unseen_notified.Goals as goal

pub returns-clause-sends : goal.returns-clause-sends
returns-clause-sends c =
    let n = c.args.shard.now.turns in
    λ a h.
    unseen_notified n c.args.time.now a c.send_new.new.self c.in_ok-rows.rows.rows (c.in_ok-rows.ensures.rows a h)
    (c.in_ok-send_new.ensures.first ∙ ap (λ m. cond (nat_lt m n) (expanded c.once.result.runs) []) c.last_counter-turn.ensures
    ∙ ap (λ (l : List Record). cond (nat_lt (last c.args.time.now.counters) n) l []) c.once.ensures.records)
    (c.in_ok-send_new.ensures.second ∙ c.once.ensures.records)
