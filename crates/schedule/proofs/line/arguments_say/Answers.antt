use Rattle.collector.specs.Said.{words_of}
use Rattle.schedule.proofs.Words.{none_named}
use Rattle.schedule.proofs.line.arguments_say.Goals as goal

pub returns-in-None : goal.returns-in-None
returns-in-None c = rw c.in-Seal.is (none_named (words_of c.args.rest) c.in-None.ensures)

pub returns-in-None-one_name : goal.returns-in-None-one_name
returns-in-None-one_name c = rw c.in-Close.is (none_named (words_of c.args.rest) c.in-None-one_name.ensures)
