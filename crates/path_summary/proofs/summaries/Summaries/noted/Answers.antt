use Rattle.std.proofs.Common.{subst, sym, ap}
use Rattle.semantics.specs.Time.{Action}
use Rattle.path_summary.specs.Noted.{LeadsTo}
use Rattle.loop_context.specs.Actions.{action_of}
use Rattle.path_summary.proofs.Notes.{leads_stay}
use Rattle.path_summary.proofs.summaries.Summaries.noted.Goals as goal

pub returns-in-Stay : goal.returns-in-Stay
returns-in-Stay c = subst (λ (a : Action). LeadsTo c.args.self.now a c.args.code c.args.code) (sym (ap action_of c.in-Stay.is)) (leads_stay c.args.self.now c.args.code c.requires.some c.requires.there)
