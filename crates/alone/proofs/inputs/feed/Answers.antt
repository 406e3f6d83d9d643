use Rattle.machine.specs.Step.{Step}
use Rattle.driver.proofs.Tallying.{stays_step}
use Rattle.alone.proofs.Moved.{feed_feeds, no_feed_refusal, only_memory}
use Rattle.alone.proofs.inputs.feed.Goals as goal

pub returns-in-Ok-clause-feeds : goal.returns-in-Ok-clause-feeds
returns-in-Ok-clause-feeds g c = let r = c.law_run.ensures in feed_feeds c.args.board.now.shown c.feed.new.self.shown c.args.input c.args.batch c.in-Ok.ensures.step (r.world, r.shows) c.requires.ready

pub returns-in-Ok-clause-counts : goal.returns-in-Ok-clause-counts
returns-in-Ok-clause-counts g c = stays_step c.args.board.now.shown c.feed.new.self.shown (Step.feed c.args.input c.args.batch) tt c.in-Ok.ensures.step

pub no_memory-requires : goal.no_memory-requires
no_memory-requires g c = only_memory _ c.feed.result c.in-Err.refusal (no_feed_refusal c.args.board.now.shown c.args.input c.args.batch c.requires.ready c.requires.there c.requires.fits) c.in-Err.is c.feed.ensures.answers
