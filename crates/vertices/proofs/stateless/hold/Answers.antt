use Rattle.std.proofs.Common.{Some, ap, ◌∙◌, arith}
use Rattle.vertices.specs.declared.out.Out.{Out}
use Rattle.vertices.proofs.Fitting.{batch_fits, batch_sent, both_sent, none_sent}
use Rattle.vertices.proofs.Sending.{hold_sends}
use Rattle.vertices.proofs.stateless.hold.Goals.{then-turn-turns-2+in_ok-share+in-Some-1, then-turn-turns-2+in_ok-share+in-None-1, else-turn-turns-2}
use Rattle.vertices.proofs.stateless.hold.Goals as goal

pub returns-after-turn-turns-2-clause-sends : goal.returns-after-turn-turns-2-clause-sends
returns-after-turn-turns-2-clause-sends c = grind (arith, hold_sends)

pub returns-after-turn-turns-2-clause-fits_sent : goal.returns-after-turn-turns-2-clause-fits_sent
returns-after-turn-turns-2-clause-fits_sent c =
    let is = c.len-count.ensures in
    let now = c.if-turn-turns-2.out in
    both_sent (Some c.args.batch) now.second now.asked (batch_fits c.args.batch is.runs is.all)
    (elim c.if-turn-turns-2.branch [
      | then-turn-turns-2+in_ok-share+in-Some-1 w ↦ batch_sent now.second c.args.batch is.runs is.all (ap (λ (o : Out). o.second) w.out-is ∙ ap Some w.in_ok-share.ensures)
      | then-turn-turns-2+in_ok-share+in-None-1 w ↦ batch_sent now.second c.args.batch is.runs is.all (ap (λ (o : Out). o.second) w.out-is ∙ ap Some w.in_ok-share.ensures)
      | else-turn-turns-2 w ↦ none_sent now.second (ap (λ (o : Out). o.second) (w.out-is ∙ c.requires))
    ])
