use Rattle.std.proofs.Common.{arith, refl}
use Rattle.follow.proofs.Calls.{ends_by, may_last, ready_later, so_fed}
use Rattle.follow.proofs.answering.answer_last.Goals as goal

pub feed_portion-requires : goal.feed_portion-requires
feed_portion-requires g c = so_fed c.args.numbering.first.number c.args.numbering.base c.args.board.now.shown c.args.intake.now c.args.reporting.now _ c.requires.may

pub close_inputs-requires : goal.close_inputs-requires
close_inputs-requires g c = record { ready = ready_later c.args.numbering.first.number c.args.numbering.base c.args.board.now.shown c.feed_portion.new.board.shown c.args.intake.now c.feed_portion.new.intake c.args.reporting.now _ c.in_ok-feed_portion.ensures c.requires.may }

pub work_off-requires-after_bounds : goal.work_off-requires-after_bounds
work_off-requires-after_bounds g c κs within = c.close_inputs.ensures.closes.free

pub report-requires-clause-may : goal.report-requires-clause-may
report-requires-clause-may g c = may_last c.args.numbering.first.number c.args.numbering.base c.args.board.now.shown c.feed_portion.new.board.shown c.close_inputs.new.board.shown c.work_off.new.board.shown c.args.intake.now c.feed_portion.new.intake c.args.reporting.now
    c.in_ok-feed_portion.ensures c.close_inputs.ensures.closes (λ live. c.in_ok-work_off.ensures.works live) c.requires.may

pub report-requires-clause-few : goal.report-requires-clause-few
report-requires-clause-few g c = let same = c.in_ok-feed_portion.ensures.holds.begun in omega (arith, same, c.requires.few)

pub returns : goal.returns
returns g c = ends_by c.args.numbering.first.number c.args.numbering.base c.args.board.now.shown c.feed_portion.new.board.shown c.close_inputs.new.board.shown c.work_off.new.board.shown c.args.intake.now c.feed_portion.new.intake c.args.reporting.now c.report.new.reporting c.new-out.result.items c.report.new.out.items
    c.in_ok-feed_portion.ensures c.close_inputs.ensures.closes (λ live. c.in_ok-work_off.ensures.works live) c.in_ok-work_off.ensures.rests c.new-out.ensures.items (λ passed order. c.in_ok-report.ensures.all (c.law_prompt.ensures c.requires.prompt 0) passed refl order) c.in_ok-report.ensures.reports
