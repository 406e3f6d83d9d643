use Rattle.std.proofs.Common.{sym, subst, List}
use Rattle.semantics.specs.Summary.{Summary}
use Rattle.path_summary.specs.Noted.{LeadsTo}
use Rattle.loop_context.specs.Actions.{action_of}
use Rattle.path_summary.proofs.Notes.{leads_from}
use Rattle.path_summary.proofs.summaries.Summaries.after.Goals as goal

pub note-requires : goal.note-requires
note-requires c = leads_from c.args.self.now c.code_of.new.self (action_of c.args.action) c.args.code c.in_ok-next.next c.known.result.now c.then-after.result c.known.ensures c.then-after.ensures c.in_ok-next.ensures.grows c.in_ok-next.ensures.code c.in_ok-next.ensures.within

pub returns-clause-leads : goal.returns-clause-leads
returns-clause-leads c =
    subst (λ (s : List Summary). LeadsTo s (action_of c.args.action) c.args.code c.in_ok-next.next) (sym c.note.ensures)
    (leads_from c.args.self.now c.code_of.new.self (action_of c.args.action) c.args.code c.in_ok-next.next c.known.result.now c.then-after.result c.known.ensures c.then-after.ensures c.in_ok-next.ensures.grows c.in_ok-next.ensures.code c.in_ok-next.ensures.within)
