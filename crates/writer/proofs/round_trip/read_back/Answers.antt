use Rattle.expr_tree.specs.Views.{program_tree}
use Rattle.writer.proofs.RoundTrip.{text_is, read_same, read_memory}
use Rattle.writer.proofs.round_trip.read_back.Goals as goal

pub returns-clause-same : goal.returns-clause-same
returns-clause-same g c = λ short. read_same c.parse.result (program_tree c.args.program.now) c.as_slice.result.now (text_is (program_tree c.args.program.now) _ _ _ c.new-text.ensures.items c.in_ok-write_program.ensures.written c.as_slice.ensures.value) (c.in_ok-write_program.ensures.reads short) c.parse.ensures.read

pub returns-clause-memory : goal.returns-clause-memory
returns-clause-memory g c = λ short. read_memory c.parse.result (program_tree c.args.program.now) c.as_slice.result.now (text_is (program_tree c.args.program.now) _ _ _ c.new-text.ensures.items c.in_ok-write_program.ensures.written c.as_slice.ensures.value) (c.in_ok-write_program.ensures.reads short) c.parse.ensures.none
