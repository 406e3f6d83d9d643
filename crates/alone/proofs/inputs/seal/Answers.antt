use Rattle.machine.specs.Step.{Step}
use Rattle.driver.proofs.Tallying.{stays_step}
use Rattle.alone.proofs.Moved.{no_seal_refusal, only_memory, seal_seals}
use Rattle.alone.proofs.inputs.seal.Goals as goal

pub returns-in-Ok-clause-seals : goal.returns-in-Ok-clause-seals
returns-in-Ok-clause-seals g c = let r = c.law_run.ensures in seal_seals c.args.board.now.shown c.seal.new.self.shown c.args.input c.in-Ok.ensures.step (r.world, r.shows) c.requires.ready

pub returns-in-Ok-clause-counts : goal.returns-in-Ok-clause-counts
returns-in-Ok-clause-counts g c = stays_step c.args.board.now.shown c.seal.new.self.shown (Step.seal c.args.input) tt c.in-Ok.ensures.step

pub no_memory-requires : goal.no_memory-requires
no_memory-requires g c = only_memory _ c.seal.result c.in-Err.refusal (no_seal_refusal c.args.board.now.shown c.args.input c.requires.ready c.requires.there c.requires.below) c.in-Err.is c.seal.ensures.answers
