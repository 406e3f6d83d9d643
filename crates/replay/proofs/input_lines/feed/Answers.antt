use Rattle.std.proofs.Common.{◌≡◌, ◌∙◌, ◌∷◌, [], ℤ, List, map, refl, subst, sym, ap}
use Rattle.record_core.specs.Inputs.{input_of}
use Rattle.semantics.specs.Multiset.{Record}
use Rattle.machine.specs.Step.{Step}
use Rattle.board.specs.Kept.{Goes}
use Rattle.schedule.specs.Commands.{Command}
use Rattle.replay.specs.Replays.{Does, RefusesFeed}
use Rattle.replay.specs.Steps.{IsNumbered}
use Rattle.replay.proofs.Inputs.{fed_leads, input_count_is, open_input, refused_answers, refused_input, unfit_leads}
use Rattle.replay.proofs.input_lines.feed.Goals as goal

pub returns-in-Some : goal.returns-in-Some
returns-in-Some g c = λ hand.
    let b = c.args.board.now in
    let s = b.shown in
    let i = c.input_number-input.result.0 in
    let arity = c.input_number-input.result.1 in
    let size = input_count_is s (map input_of c.args.inputs.now) c.requires.inputs c.law_inputs.ensures in
    let numbered = subst (λ inputs. IsNumbered inputs c.args.name.now c.input_number-input.result) c.requires.inputs.same c.input_number-input.ensures in
    refused_answers g.V.Views.late b b hand (Command.feed c.args.name.now c.args.fields.now) c.line_refusal.result refl
    (λ code has_code x shows holds. Does.feed_refused c.args.name.now c.args.fields.now code (RefusesFeed.feed_input code (refused_input g.V.Views.late s c.args.name.now i arity size numbered c.in-Some.refusal (sym c.input_refusal.ensures ∙ c.in-Some.is) code (sym c.line_refusal.ensures ∙ has_code) x.world shows.world)))

pub returns-in_default-record_of : goal.returns-in_default-record_of
returns-in_default-record_of g c = λ hand.
    let b = c.args.board.now in
    let s = b.shown in
    let i = c.input_number-input.result.0 in
    let arity = c.input_number-input.result.1 in
    let size = input_count_is s (map input_of c.args.inputs.now) c.requires.inputs c.law_inputs.ensures in
    let numbered = subst (λ inputs. IsNumbered inputs c.args.name.now c.input_number-input.result) c.requires.inputs.same c.input_number-input.ensures in
    unfit_leads g.V.Views.late b b hand c.args.name.now c.args.fields.now i arity (open_input s c.args.name.now i arity size numbered (sym c.input_refusal.ensures ∙ c.in_default.is)) c.in_default-record_of.ensures.none refl

pub returns-in-Ok-feed : goal.returns-in-Ok-feed
returns-in-Ok-feed g c = λ hand.
    let b = c.args.board.now in
    let s = b.shown in
    let i = c.input_number-input.result.0 in
    let arity = c.input_number-input.result.1 in
    let size = input_count_is s (map input_of c.args.inputs.now) c.requires.inputs c.law_inputs.ensures in
    let numbered = subst (λ inputs. IsNumbered inputs c.args.name.now c.input_number-input.result) c.requires.inputs.same c.input_number-input.ensures in
    let alone : c.in-Ok.batch ≡ c.args.fields.now ∷ [] = c.in-Ok.ensures ∙ ap (λ (r : List ℤ). r ∷ []) c.in-Some-record_of.ensures.found.0 in
    let goes : Goes s (Step.feed i (c.args.fields.now ∷ [])) c.feed.new.self.shown = subst (λ (rows : List Record). Goes s (Step.feed i rows) c.feed.new.self.shown) alone c.in-Ok-feed.ensures.step in
    fed_leads g.V.Views.late b c.feed.new.self hand c.args.name.now c.args.fields.now i arity (open_input s c.args.name.now i arity size numbered (sym c.input_refusal.ensures ∙ c.in_default.is)) c.in-Some-record_of.ensures.found.1 goes c.in-Ok-feed.ensures.tables c.in-Ok-feed.ensures.posts
