use Rattle.std.proofs.Common.{◌≡◌, ◌∙◌, ◌++◌, ◌∷◌, [], ◌+◌, get_or, List, ℕ, take, map, sym, ap, subst}
use Rattle.std.proofs.lemmas.List.{take_more, map_push}
use Rattle.record_core.specs.Inputs.{input_of}
use Rattle.schedule.specs.Commands.{Command}
use Rattle.schedule.specs.LineReader.{command_of}
use Rattle.driver.specs.Inputs.{AreInputsOf}
use Rattle.replay.proofs.Runs.{Replayed, more_replayed, none_replayed}
use Rattle.replay.proofs.replaying.replay_lines.Goals as goal

pub loop-line-init : goal.loop-line-init
loop-line-init g c = record {
  inputs = c.requires.inputs;
  hand = c.requires.hand;
  so_far = subst (λ (xs : List ℕ). Replayed g.V.Views.late c.args.board.now c.args.board.now c.args.hand.now c.args.hand.now [] xs) (sym c.new-out.ensures.items) (none_replayed g.V.Views.late c.args.board.now c.args.hand.now);
}

pub loop-line-preserved : goal.loop-line-preserved
loop-line-preserved g c =
    let done = c.in_ok-replay_line.ensures.line in
    let lines = c.args.lines.now in
    let i = c.loop-line.line-index in
    let d = c.line-item.result in
    let all : map command_of (take (i + 1) lines) ≡ map command_of (take i lines) ++ command_of d ∷ [] = ap (map command_of) (take_more lines i d c.loop-line-test.true) ∙ map_push command_of (take i lines) (get_or lines i d) ∙ ap (λ x. map command_of (take i lines) ++ command_of x ∷ []) (sym c.line-item.is) in
    record {
      inputs = subst (λ x. AreInputsOf x (map input_of c.args.inputs.now)) (sym c.in_ok-replay_line.ensures.graph) c.loop-line.invariant.inputs;
      hand = c.in_ok-replay_line.ensures.hand;
      so_far = subst (λ (xs : List ℕ). Replayed g.V.Views.late c.args.board.now c.replay_line.new.board c.args.hand.now c.replay_line.new.hand (map command_of (take (i + 1) lines)) xs) (sym done.1)
          (subst (λ (cs : List Command). Replayed g.V.Views.late c.args.board.now c.replay_line.new.board c.args.hand.now c.replay_line.new.hand cs (c.loop-line.out.items ++ done.0)) (sym all)
          (more_replayed g.V.Views.late c.args.board.now c.loop-line.board c.replay_line.new.board c.args.hand.now c.loop-line.hand c.replay_line.new.hand (map command_of (take i lines)) (command_of d) c.loop-line.out.items done.0 c.loop-line.invariant.so_far done.2));
    }
