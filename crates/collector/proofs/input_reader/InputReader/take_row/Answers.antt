use Rattle.std.proofs.Common.{◌∙◌, map, refl, sym}
use Rattle.record_core.specs.Inputs.{input_of}
use Rattle.collector.specs.Piecewise.{row_line}
use Rattle.collector.proofs.ReaderKeeps.{reads_more}
use Rattle.collector.proofs.input_reader.InputReader.take_row.Goals as goal

pub returns-clause-read : goal.returns-clause-read
returns-clause-read c = λ text has e.
    reads_more (map input_of c.args.inputs.now) text (row_line c.args.name.now c.args.row.now) c.args.self.now _ c.in-Some.draft c.push_row.new.draft has (sym c.take.ensures.value ∙ c.in-Some.is) (c.in_ok-is_read.ensures.read e) refl
