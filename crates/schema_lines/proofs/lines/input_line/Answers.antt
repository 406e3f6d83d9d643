use Rattle.std.proofs.Common.{rules, refl}
use Rattle.schema_lines.specs.Lines.{IsAroundFirst}
use Rattle.schema_lines.proofs.SaidLines.{input-none, input-some}
use Rattle.schema_lines.proofs.lines.input_line.Goals as goal

pub returns-in-None-clause-read : goal.returns-in-None-clause-read
returns-in-None-clause-read c = λ name epochs named is. input-none c.args.rest.now name epochs c.in-None.ensures.none is

pub returns-in-Some-clause-read : goal.returns-in-Some-clause-read
returns-in-Some-clause-read c = λ name epochs named is.
    let cut : IsAroundFirst 32 c.args.rest.now c.in-Some.name.now c.in-Some.words.now = search rules in
    let same = input-some c.args.rest.now name c.in-Some.name.now c.in-Some.words.now epochs named is cut.0 cut.1 in
    rw (same.0, c.head_epochs.ensures epochs same.1) refl
