use Rattle.std.proofs.Common.{[], map}
use Rattle.std.proofs.lemmas.Result.{err_from_is_err_and}
use Rattle.record_core.specs.Inputs.{input_of}
use Rattle.collector.proofs.PiecesRead.{kept_read, nothing, read_behind, refused_alone}
use Rattle.collector.proofs.reading.read_input.Goals as goal

pub returns-clause-read : goal.returns-clause-read
returns-clause-read c =
    let inputs = map input_of c.args.inputs.now in
    let draft = c.in_ok-draft.draft in
    let read = c.in_ok-read.read in
    kept_read inputs c.args.text.now read c.in_ok-finish.field-0 (read_behind inputs [] c.args.text.now draft read (nothing inputs draft c.in_ok-draft.ensures.none) c.in_ok-read.ensures.read) c.in_ok-finish.ensures

pub returns-in_err-read-clause-refused : goal.returns-in_err-read-clause-refused
returns-in_err-read-clause-refused c =
    let inputs = map input_of c.args.inputs.now in
    let p = err_from_is_err_and c.from_residual-in_err-read.result c.from_residual-in_err-read.ensures.1 in
    rw (p.1, p.2) (refused_alone inputs c.args.text.now c.in_ok-draft.draft c.in_err-read.field-0.0 c.in_ok-draft.ensures.none c.in_err-read.ensures.refused)
