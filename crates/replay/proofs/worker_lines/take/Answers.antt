use Rattle.std.proofs.Common.{◌∙◌, Some, sym, ap}
use Rattle.std.specs.Prelude.{slice_get, slice_set}
use Rattle.events.specs.Jobs.{Pass}
use Rattle.board.specs.Commits.{IsOf}
use Rattle.schedule.specs.Commands.{Command}
use Rattle.replay.specs.Replays.{Does}
use Rattle.replay.proofs.Holding.{hand_stays}
use Rattle.replay.proofs.Inputs.{refused_answers}
use Rattle.replay.proofs.Waiting.{board_same}
use Rattle.replay.proofs.Taken.{kept_hand, abandoned_answers, picked_room, picked_stays, refused_pick, stays_on, taken_leads}
use Rattle.replay.proofs.worker_lines.take.Goals as goal

pub returns-in-Err-clause-answers : goal.returns-in-Err-clause-answers
returns-in-Err-clause-answers g c =
    let b = c.args.board.now in
    refused_answers g.V.Views.late b c.pick.new.self c.args.hand.now (Command.take c.args.worker c.args.choice) c.line_refusal.result (board_same b c.pick.new.self c.in-Err.ensures.picks.1 c.in-Err.ensures.views)
    (λ code has_code x shows holds. Does.take_refused c.args.worker c.args.choice code (refused_pick g.V.Views.late b c.args.worker c.args.choice c.in-Err.refusal (record { prompt = c.law_prompt.ensures; within = c.law_waits.ensures }) c.in-Err.ensures.picks.0 code (sym c.line_refusal.ensures ∙ has_code) x shows))

pub returns-in-Err-compute-clause-hand : goal.returns-in-Err-compute-clause-hand
returns-in-Err-compute-clause-hand g c =
    let b = c.args.board.now.shown in
    let stays = stays_on b c.pick.new.self.shown c.compute.new.board.shown (picked_stays b c.pick.new.self.shown c.args.worker c.in-Ok.work.0 c.in-Ok.ensures.picks.0 c.in-Ok.ensures.tables) c.compute.ensures.stays in
    hand_stays b c.compute.new.board.shown c.args.hand.now c.requires.hand stays

pub returns-in-Err-compute-clause-answers : goal.returns-in-Err-compute-clause-answers
returns-in-Err-compute-clause-answers g c =
    let b = c.args.board.now in
    let t = c.pick.new.self in
    let u = c.compute.new.board in
    let p = c.in-Ok.work.0 in
    let hands = c.in-Ok.ensures.picks.0 in
    let stays = stays_on b.shown t.shown u.shown (picked_stays b.shown t.shown c.args.worker p hands c.in-Ok.ensures.tables) c.compute.ensures.stays in
    abandoned_answers g.V.Views.late b t u c.args.hand.now c.args.worker c.args.choice p c.in-Err-compute.refusal hands (record { prompt = c.law_prompt.ensures; within = c.law_waits.ensures }) c.in-Ok.ensures.picks.1 c.in-Ok.ensures.views c.in-Err-compute.ensures.abandoned stays
    (Command.take c.args.worker c.args.choice) (λ x gives. Does.take_abandons c.args.worker c.args.choice hands.taken p.job.happening gives) c.in-Err-compute.ensures.refused

pub returns-clause-hand : goal.returns-clause-hand
returns-clause-hand g c =
    let s = c.args.board.now.shown in
    let t = c.pick.new.self.shown in
    let u = c.keep.new.board.shown in
    let p = c.in-Ok.work.0 in
    let hands = c.in-Ok.ensures.picks.0 in
    let picked = picked_stays s t c.args.worker p hands c.in-Ok.ensures.tables in
    let later = stays_on t c.compute.new.board.shown u c.compute.ensures.stays c.keep.ensures.stays in
    let stays = stays_on s t u picked later in
    let is = c.keep.ensures.hand ∙ ap (λ (x : Pass). slice_set c.args.hand.now c.args.worker (Some x)) c.in-Ok-compute.ensures.done in
    let of : IsOf u p = ap (λ ts. slice_get ts p.worker) later.tables ∙ hands.own in
    kept_hand s u c.args.hand.now c.keep.new.hand c.args.worker p c.requires.hand stays is of hands.worker (picked_room s t c.args.hand.now c.args.worker p hands c.requires.hand)

pub returns-clause-answers : goal.returns-clause-answers
returns-clause-answers g c =
    let b = c.args.board.now in
    let t = c.pick.new.self in
    let u = c.keep.new.board in
    let p = c.in-Ok.work.0 in
    let hands = c.in-Ok.ensures.picks.0 in
    let picked = picked_stays b.shown t.shown c.args.worker p hands c.in-Ok.ensures.tables in
    let later = stays_on t.shown c.compute.new.board.shown u.shown c.compute.ensures.stays c.keep.ensures.stays in
    let is = c.keep.ensures.hand ∙ ap (λ (x : Pass). slice_set c.args.hand.now c.args.worker (Some x)) c.in-Ok-compute.ensures.done in
    taken_leads g.V.Views.late b t u c.args.hand.now c.keep.new.hand c.args.worker c.args.choice p hands (record { prompt = c.law_prompt.ensures; within = c.law_waits.ensures }) c.in-Ok.ensures.picks.1 (c.in-Ok-compute.ensures.fits hands.holds) c.in-Ok.ensures.views c.requires.hand.places
    (λ e. c.keep.ensures.kept e ∙ c.in-Ok-compute.ensures.kept) (stays_on b.shown t.shown u.shown picked later) is
