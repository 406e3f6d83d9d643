use Rattle.std.proofs.Common.{◌≡◌, ◌∙◌, ◌∷◌, ◌++◌, [], All, ap, refl, subst}
use Rattle.std.specs.Option.{option_to_list}
use Rattle.board.specs.Shown.{tables}
use Rattle.follow.specs.Slots.{IsSlotOf}
use Rattle.follow.proofs.Calls.{All-front}
use Rattle.follow.proofs.Working.{ends_more, free_more}
use Rattle.follow.proofs.rounds.end_each.Goals as goal

pub loop-slot-init : goal.loop-slot-init
loop-slot-init g c = record { same = refl; own = c.requires.own; ended = (refl, refl); free = λ f. f }

pub loop-slot-preserved : goal.loop-slot-preserved
loop-slot-preserved g c =
    let before = c.loop-slot.invariant in
    let s = c.args.board.now.shown in
    let slots = c.pop.new.self.items in
    let last : c.loop-slot.slots.items ≡ slots ++ c.in-Some.slot ∷ [] = c.pop.ensures.items ∙ ap (λ o. slots ++ option_to_list o) c.in-Some.is in
    record {
      same = c.end.ensures.tables ∙ before.same;
      own = All-front (IsSlotOf (tables s)) slots (c.in-Some.slot ∷ []) (subst (All (IsSlotOf (tables s))) last before.own);
      ended = ends_more c.loop-slot.round c.end.result c.add_result-round.result c.loop-slot.slots.items slots c.args.slots.items s c.loop-slot.board.shown c.end.new.board.shown c.add_result-round.ensures.both c.add_result-round.ensures.busy before.ended c.end.ensures.steps;
      free = free_more c.loop-slot.round c.end.result c.add_result-round.result c.args.slots.items c.loop-slot.slots.items slots c.in-Some.slot s c.loop-slot.board.shown c.end.new.board.shown last c.add_result-round.ensures.both before.free c.end.ensures.alone;
    }
