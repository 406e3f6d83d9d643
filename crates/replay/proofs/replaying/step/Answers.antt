use Rattle.std.proofs.Common.{◌≡◌, ◌∙◌, List, ℤ, subst, sym, ap}
use Rattle.schedule.specs.LineReader.{command_of}
use Rattle.schedule.specs.Commands.{Command}
use Rattle.replay.specs.Steps.{Answers}
use Rattle.replay.proofs.Runs.{answered_hand}
use Rattle.replay.proofs.replaying.step.Goals as goal

pub returns-in-Feed-clause-hand : goal.returns-in-Feed-clause-hand
returns-in-Feed-clause-hand g c = answered_hand g.V.Views.late _ _ c.args.hand.now _ c.feed.result c.requires.hand (c.feed.ensures c.args.hand.now)

pub returns-in-Feed-clause-answers : goal.returns-in-Feed-clause-answers
returns-in-Feed-clause-answers g c =
    let is : command_of c.args.line.now ≡ Command.feed c.in-Feed.input.now c.as_slice.result.now = ap command_of c.in-Feed.is ∙ ap (λ (zs : List ℤ). Command.feed c.in-Feed.input.now zs) (sym c.as_slice.ensures.value) in
    subst (λ (x : Command). Answers g.V.Views.late c.args.board.now c.feed.new.board c.args.hand.now c.args.hand.now x c.feed.result) (sym is) (c.feed.ensures c.args.hand.now)

pub returns-in-Seal-clause-hand : goal.returns-in-Seal-clause-hand
returns-in-Seal-clause-hand g c = answered_hand g.V.Views.late _ _ c.args.hand.now _ c.seal.result c.requires.hand (c.seal.ensures c.args.hand.now)

pub returns-in-Close-clause-hand : goal.returns-in-Close-clause-hand
returns-in-Close-clause-hand g c = answered_hand g.V.Views.late _ _ c.args.hand.now _ c.close.result c.requires.hand (c.close.ensures c.args.hand.now)

pub returns-in-Deliver-clause-hand : goal.returns-in-Deliver-clause-hand
returns-in-Deliver-clause-hand g c = answered_hand g.V.Views.late _ _ c.args.hand.now _ c.deliver.result c.requires.hand (c.deliver.ensures c.args.hand.now c.requires.hand)

pub returns-in-Seal-clause-answers : goal.returns-in-Seal-clause-answers
returns-in-Seal-clause-answers g c = subst (λ (x : Command). Answers g.V.Views.late c.args.board.now c.seal.new.board c.args.hand.now c.args.hand.now x c.seal.result) (sym (ap command_of c.in-Seal.is)) (c.seal.ensures c.args.hand.now)

pub returns-in-Close-clause-answers : goal.returns-in-Close-clause-answers
returns-in-Close-clause-answers g c = subst (λ (x : Command). Answers g.V.Views.late c.args.board.now c.close.new.board c.args.hand.now c.args.hand.now x c.close.result) (sym (ap command_of c.in-Close.is)) (c.close.ensures c.args.hand.now)

pub returns-in-Apply-clause-hand : goal.returns-in-Apply-clause-hand
returns-in-Apply-clause-hand g c = answered_hand g.V.Views.late _ _ c.args.hand.now _ c.apply.result c.requires.hand (c.apply.ensures c.args.hand.now)

pub returns-in-Apply-clause-answers : goal.returns-in-Apply-clause-answers
returns-in-Apply-clause-answers g c = subst (λ (x : Command). Answers g.V.Views.late c.args.board.now c.apply.new.board c.args.hand.now c.args.hand.now x c.apply.result) (sym (ap command_of c.in-Apply.is)) (c.apply.ensures c.args.hand.now)
