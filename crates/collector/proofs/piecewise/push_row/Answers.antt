use Rattle.std.proofs.Common.{◌<◌, ◌∙◌, length, map, subst, sym, arith}
use Rattle.std.proofs.lemmas.List.{length-map}
use Rattle.record_core.specs.Inputs.{input_of}
use Rattle.collector.specs.Drafts.{draft_count}
use Rattle.collector.specs.Lines.{IsInput}
use Rattle.collector.proofs.PiecesRead.{row_read}
use Rattle.collector.proofs.piecewise.push_row.Goals as goal

pub returns-clause-read : goal.returns-clause-read
returns-clause-read c = λ e.
    let inputs = map input_of c.args.inputs.now in
    let name = c.args.name.now in
    let row = c.args.row.now in
    let made = c.make_record.ensures.0 c.if-not-make_record.false in
    let of : IsInput inputs name c.in-Some.input (length row) = subst (IsInput inputs name c.in-Some.input) (sym made.0) c.in-Some.ensures.found in
    let begun : 0 < draft_count c.args.draft.now = omega (arith, c.if-count-eq0.false, c.count.ensures) in
    row_read inputs name row c.in-Some.input c.args.draft.now c.push.new.self (c.is_word.ensures.0 c.if-not-is_word.false) of made.1 c.law_fit.ensures begun (c.requires.inputs ∙ sym (length-map c.args.inputs.now input_of))
    c.in_ok-push.ensures
