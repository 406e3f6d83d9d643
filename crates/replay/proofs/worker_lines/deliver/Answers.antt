use Rattle.std.proofs.Common.{◌∙◌, sym}
use Rattle.schedule.specs.Commands.{Command}
use Rattle.replay.specs.Replays.{Does}
use Rattle.replay.proofs.Inputs.{refused_answers}
use Rattle.replay.proofs.Waiting.{board_same}
use Rattle.replay.proofs.Taken.{delivered_answers, picked_stays, refused_pick, stays_on}
use Rattle.replay.proofs.worker_lines.deliver.Goals as goal

pub returns-in-Err : goal.returns-in-Err
returns-in-Err g c = λ hand h.
    let b = c.args.board.now in
    refused_answers g.V.Views.late b c.pick.new.self hand (Command.deliver c.args.worker c.args.choice) c.line_refusal.result (board_same b c.pick.new.self c.in-Err.ensures.picks.1 c.in-Err.ensures.views)
    (λ code has_code x shows holds. Does.deliver_refused c.args.worker c.args.choice code (refused_pick g.V.Views.late b c.args.worker c.args.choice c.in-Err.refusal (record { prompt = c.law_prompt.ensures; within = c.law_waits.ensures }) c.in-Err.ensures.picks.0 code (sym c.line_refusal.ensures ∙ has_code) x shows))

pub returns-in-Ok : goal.returns-in-Ok
returns-in-Ok g c = λ hand h.
    let b = c.args.board.now in
    let t = c.pick.new.self in
    let p = c.in-Ok.work.0 in
    let hands = c.in-Ok.ensures.picks.0 in
    let stays = stays_on b.shown t.shown c.complete.new.board.shown (picked_stays b.shown t.shown c.args.worker p hands c.in-Ok.ensures.tables) c.complete.ensures.stays in
    delivered_answers g.V.Views.late b t c.complete.new.board hand c.args.worker c.args.choice p c.complete.result hands (record { prompt = c.law_prompt.ensures; within = c.law_waits.ensures }) c.in-Ok.ensures.picks.1 c.in-Ok.ensures.views
    c.complete.ensures.ends c.complete.ensures.fits c.complete.ensures.abandoned c.complete.ensures.refused stays
