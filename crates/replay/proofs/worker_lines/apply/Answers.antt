use Rattle.replay.proofs.Taken.{applied_leads, unapplied_leads}
use Rattle.replay.proofs.worker_lines.apply.Goals as goal

pub returns-then-apply : goal.returns-then-apply
returns-then-apply g c = λ hand. applied_leads g.V.Views.late c.args.board.now c.apply.new.self hand c.args.worker c.args.sender c.law_waits.ensures c.apply.ensures.shown (c.if-apply.ensures.applied) c.apply.ensures.others c.apply.ensures.called

pub returns-else-apply : goal.returns-else-apply
returns-else-apply g c = λ hand. unapplied_leads g.V.Views.late c.args.board.now c.apply.new.self hand c.args.worker c.args.sender c.if-apply.ensures.applied.0 c.if-apply.ensures.applied.1
