use Rattle.std.proofs.Common.{◌+◌, ◌∙◌, map, ap}
use Rattle.record_core.specs.Inputs.{input_of}
use Rattle.collector.proofs.PiecesRead.{part_read}
use Rattle.collector.proofs.reading.read_part.Goals as goal

pub returns : goal.returns
returns c =
    let inputs = map input_of c.args.inputs.now in
    let none = c.in_ok-draft.ensures.none in
    let begins = c.in_ok-begin.ensures in
    part_read inputs c.args.text.now c.begin.new.self c.in_ok-read.read c.in_ok-finish.field-0 (begins.count ∙ ap (λ n. n + 1) none.count) (λ epoch input. begins.records epoch input ∙ none.records epoch input) c.in_ok-read.ensures.read
    c.in_ok-finish.ensures
