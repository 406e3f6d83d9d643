use Rattle.std.proofs.Common.{arith}
use Rattle.follow.proofs.Calls.{free_later, goes_by, may_later, so_fed}
use Rattle.follow.proofs.answering.answer_open.Goals as goal

pub feed_portion-requires : goal.feed_portion-requires
feed_portion-requires g c = so_fed c.args.numbering.first.number c.args.numbering.base c.args.board.now.shown c.args.intake.now c.args.reporting.now _ c.requires.may

pub work_off-requires-after_bounds : goal.work_off-requires-after_bounds
work_off-requires-after_bounds g c κs within = free_later c.args.numbering.first.number c.args.numbering.base c.args.board.now.shown c.feed_portion.new.board.shown c.args.intake.now c.feed_portion.new.intake c.args.reporting.now _ c.in_ok-feed_portion.ensures c.requires.may

pub report-requires-clause-may : goal.report-requires-clause-may
report-requires-clause-may g c = may_later c.args.numbering.first.number c.args.numbering.base c.args.board.now.shown c.feed_portion.new.board.shown c.work_off.new.board.shown c.args.intake.now c.feed_portion.new.intake c.args.reporting.now c.saturating_sub-sealed.result
    c.in_ok-feed_portion.ensures (λ live. c.in_ok-work_off.ensures.works live) c.saturating_sub-sealed.ensures c.requires.may

pub report-requires-clause-few : goal.report-requires-clause-few
report-requires-clause-few g c = let same = c.in_ok-feed_portion.ensures.holds.begun in omega (arith, same, c.requires.few)

pub returns-clause-answers : goal.returns-clause-answers
returns-clause-answers g c = goes_by c.args.numbering.first.number c.args.numbering.base c.args.board.now.shown c.feed_portion.new.board.shown c.work_off.new.board.shown c.args.intake.now c.feed_portion.new.intake c.args.reporting.now c.report.new.reporting c.saturating_sub-sealed.result c.new-out.result.items c.report.new.out.items
    c.in_ok-feed_portion.ensures (λ live. c.in_ok-work_off.ensures.works live) c.in_ok-work_off.ensures.rests.free c.saturating_sub-sealed.ensures c.new-out.ensures.items c.in_ok-report.ensures.reports
