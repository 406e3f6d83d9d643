use Rattle.std.proofs.Common.{[], ◌∷◌, ◌++◌, cond, sym, ap, ◌∙◌, rules}
use Rattle.rows.specs.Counts.{rows_of}
use Rattle.vertices.proofs.PortSets.{common_alone, common_sent}
use Rattle.vertices.proofs.port_sets.meet.Goals as goal

pub returns-in_ok-push-in-Ok-clause-sent : goal.returns-in_ok-push-in-Ok-clause-sent
returns-in_ok-push-in-Ok-clause-sent c =
    let old = rows_of c.args.tally.now.runs in
    common_sent c.args.row.now old (rows_of c.add.new.self.runs) (rows_of c.args.other.now.runs) c.args.sends.now.rows c.push.new.self.rows (sym c.in-Ok.ensures.new ∙ c.if-new.true) (sym c.contains.ensures ∙ c.if-contains.true)
    (c.in-Ok.ensures.rows ∙ ap (λ b. cond b (old ++ c.args.row.now ∷ []) old) c.if-new.true) (search rules)

pub returns-else-contains-clause-sent : goal.returns-else-contains-clause-sent
returns-else-contains-clause-sent c =
    let old = rows_of c.args.tally.now.runs in
    common_alone c.args.row.now old (rows_of c.add.new.self.runs) (rows_of c.args.other.now.runs) c.args.sends.now.rows (sym c.contains.ensures ∙ c.if-contains.false)
    (c.in-Ok.ensures.rows ∙ ap (λ b. cond b (old ++ c.args.row.now ∷ []) old) c.if-new.true)
