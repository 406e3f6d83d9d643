use Rattle.std.proofs.Common.{◌∙◌, map, refl, sym}
use Rattle.std.proofs.lemmas.Result.{err_from_is_err_and}
use Rattle.record_core.specs.Inputs.{input_of}
use Rattle.collector.proofs.ReaderKeeps.{reads_more, refuses}
use Rattle.collector.proofs.input_reader.InputReader.take.Goals as goal

pub returns-clause-read : goal.returns-clause-read
returns-clause-read c = λ text has.
    reads_more (map input_of c.args.inputs.now) text c.args.lines.now c.args.self.now _ c.in-Some.draft c.in_ok-read.read has (sym c.take.ensures.value ∙ c.in-Some.is) c.in_ok-read.ensures.read refl

pub returns-in_err-read-clause-refused : goal.returns-in_err-read-clause-refused
returns-in_err-read-clause-refused c = λ text has.
    let p = err_from_is_err_and c.from_residual.result c.from_residual.ensures.1 in
    rw (p.1, p.2)
    (refuses (map input_of c.args.inputs.now) text c.args.lines.now c.args.self.now c.in-Some.draft _ has (sym c.take.ensures.value ∙ c.in-Some.is) c.in_err-read.ensures.refused)
