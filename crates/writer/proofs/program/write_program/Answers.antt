use Rattle.expr_tree.specs.Views.{program_tree}
use Rattle.writer.proofs.RoundTrip.{reads_as}
use Rattle.writer.proofs.program.write_program.Goals as goal

pub returns-in-Ok-clause-reads : goal.returns-in-Ok-clause-reads
returns-in-Ok-clause-reads g c = λ short. reads_as (program_tree c.args.program.now) c.requires short

pub returns-in-Err-clause-reads : goal.returns-in-Err-clause-reads
returns-in-Err-clause-reads g c = λ short. reads_as (program_tree c.args.program.now) c.requires short
