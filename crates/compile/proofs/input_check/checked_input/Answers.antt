use Rattle.std.proofs.Common.{◌≡◌, length, map, refl, subst, sym}
use Rattle.std.proofs.lemmas.List.{length-map}
use Rattle.record_core.specs.Inputs.{input_of}
use Rattle.expr_tree.specs.Plain.{plain_program}
use Rattle.expr_tree.specs.Views.{program_tree}
use Rattle.grammar.specs.Texts.{Reads}
use Rattle.typing.specs.Shown.{output_arities}
use Rattle.compile.proofs.CheckedInputs.{both_checked, early_noted, input_refused}
use Rattle.compile.proofs.input_check.checked_input.Goals as goal

pub returns-in-Err-read_input-clause-fault : goal.returns-in-Err-read_input-clause-fault
returns-in-Err-read_input-clause-fault g c =
    let tree = program_tree c.program-program.result.now in
    let read : Reads c.args.query.now tree = subst (λ t. Reads c.args.query.now t) (sym c.program-program.ensures.value) c.in-Ok.ensures.typed in
    let same : map input_of c.as_slice-inputs.result.now ≡ (plain_program tree).inputs = rw (c.as_slice-inputs.ensures.value, c.in-Ok-declared_inputs.ensures) refl in
    rw c.input_fault.ensures (input_refused c.args.query.now c.args.input.now tree (output_arities c.in-Ok.typed) _ read c.program-program.ensures.typed same c.in-Err-read_input.refusal c.in-Err-read_input.ensures.refused)

pub returns-in-Ok-arities_of-clause-text : goal.returns-in-Ok-arities_of-clause-text
returns-in-Ok-arities_of-clause-text g c =
    let tree = program_tree c.program-program.result.now in
    let read : Reads c.args.query.now tree = subst (λ t. Reads c.args.query.now t) (sym c.program-program.ensures.value) c.in-Ok.ensures.typed in
    let same : map input_of c.as_slice-inputs.result.now ≡ (plain_program tree).inputs = rw (c.as_slice-inputs.ensures.value, c.in-Ok-declared_inputs.ensures) refl in
    both_checked c.args.query.now c.args.input.now tree (output_arities c.in-Ok.typed) _ read c.program-program.ensures.typed same _ _ _ (rw (← c.output_arities.ensures) c.in-Ok-arities_of.ensures) c.in-Ok-read_input.ensures.read.1

pub returns-in-Ok-arities_of-clause-early : goal.returns-in-Ok-arities_of-clause-early
returns-in-Ok-arities_of-clause-early g c =
    let tree = program_tree c.program-program.result.now in
    let read : Reads c.args.query.now tree = subst (λ t. Reads c.args.query.now t) (sym c.program-program.ensures.value) c.in-Ok.ensures.typed in
    let same : map input_of c.as_slice-inputs.result.now ≡ (plain_program tree).inputs = rw (c.as_slice-inputs.ensures.value, c.in-Ok-declared_inputs.ensures) refl in
    let many : length c.as_slice-inputs.result.now ≡ length (map input_of c.as_slice-inputs.result.now) = sym (length-map c.as_slice-inputs.result.now input_of) in
    early_noted c.args.query.now c.args.input.now tree (output_arities c.in-Ok.typed) _ read c.program-program.ensures.typed same c.in-Ok-read_input.epochs _ _ c.in-Ok-read_input.ensures.read many c.noted_early-early.ensures
