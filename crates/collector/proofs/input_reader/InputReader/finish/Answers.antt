use Rattle.std.proofs.lemmas.Result.{IfOk-weaker}
use Rattle.collector.proofs.ReaderKeeps.{keeps_all}
use Rattle.collector.proofs.input_reader.InputReader.finish.Goals as goal

pub returns-in-Some-clause-read : goal.returns-in-Some-clause-read
returns-in-Some-clause-read c = λ inputs text has.
    IfOk-weaker c.finish.result _ _ (λ e kept. keeps_all inputs text c.args.self c.in-Some.draft e has c.in-Some.is kept) c.finish.ensures
