use Rattle.std.proofs.Common.{◌≡◌, ◌∙◌, ◌⊎◌, [], ℕ, length, sym, ap, subst}
use Rattle.std.proofs.lemmas.List.{length-map}
use Rattle.record_core.specs.Inputs.{input_of}
use Rattle.graph.specs.Shown.{shown_inputs}
use Rattle.compile.specs.Early.{early_inputs}
use Rattle.commands.proofs.running.answer_epochs.Goals as goal

pub returns-clause-early : goal.returns-clause-early
returns-clause-early g c =
    let many : length c.inputs.result.now ≡ length (shown_inputs c.args.graph) = sym (length-map c.inputs.result.now input_of) ∙ ap length c.inputs.ensures in
    let early = c.noted_early.result.items in
    subst (λ (n : ℕ). (early ≡ []) ⊎ (early ≡ early_inputs c.args.epochs.now n)) many c.noted_early.ensures
