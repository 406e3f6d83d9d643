use Rattle.std.proofs.Common.{None, sym, subst}
use Rattle.schema_lines.specs.Lines.{IsSaid, begins_input, begins_output, epoched, has_column, has_constant}
use Rattle.schema.specs.Schemas.{Parts}
use Rattle.schema.specs.Steps.{MayAddConstant, MayBeginInput, MayBeginOutput, State, after, state_of}
use Rattle.schema.proofs.ReadOn.{along-parts}
use Rattle.schema.proofs.Right.{part-lacks}
use Rattle.schema.proofs.reading.take_said.Goals as goal

pub returns-in-Column-clause-right : goal.returns-in-Column-clause-right
returns-in-Column-clause-right c = λ text so lacks is.
    let here : IsSaid text (has_column c.in-Column.name.now c.in-Column.column) = rw c.in-Column.is at is in
    c.told.ensures.right (c.take_column.ensures.right so (part-lacks 10 _ text here.0 lacks) here.1 here.2)

pub returns-in-Column-clause-made : goal.returns-in-Column-clause-made
returns-in-Column-clause-made c = rw c.in-Column.is
    (λ may. c.told.ensures.made (after (state_of c.args.draft) (has_column c.in-Column.name.now c.in-Column.column)) (c.take_column.ensures.made may))

pub returns-in-Ok-clause-made : goal.returns-in-Ok-clause-made
returns-in-Ok-clause-made c = rw c.in-Input.is (λ may.
    let B : Parts → Type 0 = λ p. MayBeginInput p c.in-Input.name.now in
    let F : Parts → State = λ p. after (record { parts = p; opened = None }) (begins_input c.in-Input.name.now (epoched c.in-Input.epochs)) in
    let same = c.in-Ok.ensures.made may.0 in
    c.told-in-Ok.ensures.made (F _) (along-parts F _ _ c.begin_input.result same (c.begin_input.ensures.made (subst B (sym same) may.1))))

pub returns-in-Ok-end_open-clause-made : goal.returns-in-Ok-end_open-clause-made
returns-in-Ok-end_open-clause-made c = rw c.in-Output.is (λ may.
    let B : Parts → Type 0 = λ p. MayBeginOutput p c.in-Output.name.now in
    let F : Parts → State = λ p. after (record { parts = p; opened = None }) (begins_output c.in-Output.name.now) in
    let same = c.in-Ok-end_open.ensures.made may.0 in
    c.told-in-Ok-end_open.ensures.made (F _) (along-parts F _ _ c.begin_output.result same (c.begin_output.ensures.made (subst B (sym same) may.1))))

pub returns-in-Ok-end_open-2-clause-right : goal.returns-in-Ok-end_open-2-clause-right
returns-in-Ok-end_open-2-clause-right c = λ text so lacks is.
    let here : IsSaid text (has_constant c.in-Constant.name.now c.in-Constant.text.now) = rw c.in-Constant.is at is in
    c.told-in-Ok-end_open-2.ensures.right (c.add_constant.ensures.right (c.in-Ok-end_open-2.ensures.right so) (part-lacks 10 _ text here lacks))

pub returns-in-Ok-end_open-2-clause-made : goal.returns-in-Ok-end_open-2-clause-made
returns-in-Ok-end_open-2-clause-made c = rw c.in-Constant.is (λ may.
    let B : Parts → Type 0 = λ p. MayAddConstant p c.in-Constant.name.now c.in-Constant.text.now in
    let F : Parts → State = λ p. after (record { parts = p; opened = None }) (has_constant c.in-Constant.name.now c.in-Constant.text.now) in
    let same = c.in-Ok-end_open-2.ensures.made may.0 in
    c.told-in-Ok-end_open-2.ensures.made (F _) (along-parts F _ _ c.add_constant.result same
    (c.add_constant.ensures.made (subst B (sym same) may.1))))
