use Rattle.std.proofs.Common.{◌≡◌, ◌∙◌, ◌<◌, List, Option, Some, None, length, refl, subst, sym, ap, arith}
use Rattle.std.specs.Prelude.{slice_set}
use Rattle.std.proofs.lemmas.List.{get_or_default}
use Rattle.events.specs.Jobs.{Pass}
use Rattle.schedule.specs.Commands.{Command}
use Rattle.replay.specs.Replays.{refusal_line}
use Rattle.replay.specs.Hands.{IsHand, in_hand}
use Rattle.replay.specs.Steps.{Leads}
use Rattle.replay.proofs.Taken.{emptied_hand, end_answers, ended_leads, nothing_held, past_hand, still_empty}
use Rattle.replay.proofs.worker_lines.commit.Goals as goal

pub returns-then-place-hand-clause-answers : goal.returns-then-place-hand-clause-answers
returns-then-place-hand-clause-answers g c = nothing_held g.V.Views.late c.args.board.now c.args.board.now c.args.hand.now c.args.worker refl (past_hand c.args.hand.now c.args.worker c.if-place-hand.true)

pub returns-in-None-clause-answers : goal.returns-in-None-clause-answers
returns-in-None-clause-answers g c =
    let room : c.args.worker < length c.args.hand.now = omega (arith, c.if-place-hand.false) in
    let at : in_hand c.args.hand.now c.args.worker ≡ None = get_or_default c.args.hand.now c.args.worker None c.index-hand-place.result room ∙ sym c.take.ensures.value ∙ c.in-None.is in
    let same : slice_set c.args.hand.now c.args.worker c.take.new.self ≡ c.args.hand.now = ap (λ x. slice_set c.args.hand.now c.args.worker x) c.take.ensures.after ∙ still_empty c.args.hand.now c.args.worker at in
    subst (λ (new : List (Option Pass)). Leads g.V.Views.late c.args.board.now c.args.board.now c.args.hand.now new (Command.commit c.args.worker) (refusal_line 36)) (sym same) (nothing_held g.V.Views.late c.args.board.now c.args.board.now c.args.hand.now c.args.worker refl at)

pub returns-in-Some-clause-hand : goal.returns-in-Some-clause-hand
returns-in-Some-clause-hand g c =
    let room : c.args.worker < length c.args.hand.now = omega (arith, c.if-place-hand.false) in
    subst (λ (x : Option Pass). IsHand c.end.new.board.shown (slice_set c.args.hand.now c.args.worker x)) (sym c.take.ensures.after) (emptied_hand c.args.board.now.shown c.end.new.board.shown c.args.hand.now c.args.worker c.requires.hand c.end.ensures.stays room)

pub returns-in-Some-clause-answers : goal.returns-in-Some-clause-answers
returns-in-Some-clause-answers g c =
    let room : c.args.worker < length c.args.hand.now = omega (arith, c.if-place-hand.false) in
    let at : in_hand c.args.hand.now c.args.worker ≡ Some c.in-Some.done = get_or_default c.args.hand.now c.args.worker None c.index-hand-place.result room ∙ sym c.take.ensures.value ∙ c.in-Some.is in
    let own = (c.requires.hand.own c.args.worker c.in-Some.done at).1 in
    let is = ap (λ (x : Option Pass). slice_set c.args.hand.now c.args.worker x) c.take.ensures.after in
    end_answers g.V.Views.late c.args.board.now c.end.new.board c.args.hand.now (slice_set c.args.hand.now c.args.worker c.take.new.self) (Command.commit c.args.worker) c.end.result c.in-Some.done c.args.board.now c.end.ensures.ends c.end.ensures.memory c.end.ensures.stays
    (λ ends. ended_leads g.V.Views.late c.args.board.now c.end.new.board c.args.hand.now (slice_set c.args.hand.now c.args.worker c.take.new.self) c.args.worker c.in-Some.done at own room ends is)
