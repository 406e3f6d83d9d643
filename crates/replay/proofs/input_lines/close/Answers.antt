use Rattle.std.proofs.Common.{◌∙◌, map, refl, subst, sym}
use Rattle.record_core.specs.Inputs.{input_of}
use Rattle.machine.specs.Step.{Step}
use Rattle.schedule.specs.Commands.{Command}
use Rattle.replay.specs.Replays.{Does}
use Rattle.replay.specs.Steps.{IsNumbered}
use Rattle.replay.proofs.Inputs.{input_count_is, open_input, refused_answers, refused_input, refused_only, posting_leads, taken_only}
use Rattle.replay.proofs.input_lines.close.Goals as goal

pub returns-in-Ok : goal.returns-in-Ok
returns-in-Ok g c = λ hand.
    let b = c.args.board.now in
    let s = b.shown in
    let size = input_count_is s (map input_of c.args.inputs.now) c.requires.inputs c.law_inputs.ensures in
    let numbered = subst (λ inputs. IsNumbered inputs c.args.name.now c.input_number-input.result) c.requires.inputs.same c.input_number-input.ensures in
    let is = open_input s c.args.name.now c.input_number-input.result.0 c.input_number-input.result.1 size numbered (taken_only _ c.in-Ok.ensures.answers) in
    posting_leads g.V.Views.late b c.close.new.self hand (Command.close c.args.name.now) (Step.close c.input_number-input.result.0) c.in-Ok.ensures.step c.in-Ok.ensures.tables (λ w k. refl) c.in-Ok.ensures.posts
    (λ x allowed. Does.does_close c.args.name.now c.input_number-input.result.0 c.input_number-input.result.1 is.is allowed)

pub returns-in-Err : goal.returns-in-Err
returns-in-Err g c = λ hand.
    let b = c.args.board.now in
    let s = b.shown in
    let size = input_count_is s (map input_of c.args.inputs.now) c.requires.inputs c.law_inputs.ensures in
    let numbered = subst (λ inputs. IsNumbered inputs c.args.name.now c.input_number-input.result) c.requires.inputs.same c.input_number-input.ensures in
    refused_answers g.V.Views.late b c.close.new.self hand (Command.close c.args.name.now) c.line_refusal.result c.in-Err.ensures.refused
    (λ code has_code x shows holds. Does.close_refused c.args.name.now code (refused_input g.V.Views.late s c.args.name.now c.input_number-input.result.0 c.input_number-input.result.1 size numbered c.in-Err.refusal (refused_only _ c.in-Err.refusal c.in-Err.ensures.answers) code (sym c.line_refusal.ensures ∙ has_code) x.world shows.world))
