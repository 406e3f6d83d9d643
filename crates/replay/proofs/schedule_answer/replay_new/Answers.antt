use Rattle.std.proofs.Common.{refl}
use Rattle.replay.specs.Waits.{at_first}
use Rattle.replay.proofs.Waiting.{shows_first}
use Rattle.replay.proofs.schedule_answer.replay_new.Goals as goal

pub returns-in-Ok-clause-answers : goal.returns-in-Ok-clause-answers
returns-in-Ok-clause-answers g c = c.in-Ok.ensures at_first (shows_first c.args.board c.requires.shows c.requires.prompt) (λ k there. refl)
