use Rattle.std.proofs.Common.{List, subst, sym, ap}
use Rattle.semantics.specs.Time.{Action}
use Rattle.semantics.specs.Summary.{Summary}
use Rattle.path_summary.specs.Noted.{LeadsTo}
use Rattle.loop_context.specs.Actions.{action_of}
use Rattle.path_summary.proofs.Notes.{noted_enter, noted_leave, noted_next}
use Rattle.path_summary.proofs.summaries.Summaries.note.Goals as goal

pub invariant_of-self : goal.invariant_of-self
invariant_of-self c =
    let i = c.self.inside in
    let leads : LeadsTo i.list.items Action.enter c.args.code c.args.next = subst (λ (s : List Summary). LeadsTo s Action.enter c.args.code c.args.next) (sym c.self.view_is) (subst (λ (a : Action). LeadsTo c.args.self.now a c.args.code c.args.next) (ap action_of c.in-Enter.is) c.requires) in
    rw c.note_in.ensures (noted_enter i.list.items i.entered.items i.left.items i.turned.items c.args.code c.args.next c.self.invariant leads)

pub invariant_of-self-in-Leave : goal.invariant_of-self-in-Leave
invariant_of-self-in-Leave c =
    let i = c.self.inside in
    let leads : LeadsTo i.list.items Action.leave c.args.code c.args.next = subst (λ (s : List Summary). LeadsTo s Action.leave c.args.code c.args.next) (sym c.self.view_is) (subst (λ (a : Action). LeadsTo c.args.self.now a c.args.code c.args.next) (ap action_of c.in-Leave.is) c.requires) in
    rw c.note_in-in-Leave.ensures (noted_leave i.list.items i.entered.items i.left.items i.turned.items c.args.code c.args.next c.self.invariant leads)

pub invariant_of-self-in-Next : goal.invariant_of-self-in-Next
invariant_of-self-in-Next c =
    let i = c.self.inside in
    let leads : LeadsTo i.list.items Action.next c.args.code c.args.next = subst (λ (s : List Summary). LeadsTo s Action.next c.args.code c.args.next) (sym c.self.view_is) (subst (λ (a : Action). LeadsTo c.args.self.now a c.args.code c.args.next) (ap action_of c.in-Next.is) c.requires) in
    rw c.note_in-in-Next.ensures (noted_next i.list.items i.entered.items i.left.items i.turned.items c.args.code c.args.next c.self.invariant leads)
