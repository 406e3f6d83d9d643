use Rattle.std.proofs.Common.{◌∙◌, refl, sym}
use Rattle.collector.proofs.ReaderKeeps.{begins}
use Rattle.collector.proofs.input_reader.InputReader.new.Goals as goal

pub returns : goal.returns
returns c = λ is size. begins is _ c.in_ok-draft.draft refl c.in_ok-draft.ensures.none (c.in_ok-draft.ensures.inputs ∙ sym size)
