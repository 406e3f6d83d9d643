use Rattle.std.proofs.Common.{◌∙◌, ◌+◌, ◌++◌, arith, ap, subst, sym, [], ◌∷◌}
use Rattle.semantics.specs.Could.{IsTimeAt}
use Rattle.machine.specs.Active.{one_if_same}
use Rattle.graph.specs.Shown.{shown_graph}
use Rattle.progress.specs.Content.{times_in}
use Rattle.simple_trackers.specs.Shown.{Listed}
use Rattle.progress.proofs.Contents.{times-push, all_more}
use Rattle.simple_trackers.proofs.plain.PlainTrackerProgress.add.Goals as goal

pub invariant_of-self : goal.invariant_of-self
invariant_of-self c =
    let xs = c.self.inside.active.items in
    let p = c.args.p.now in
    let g = shown_graph c.self.inside.paths.value in
    let on : IsTimeAt g p.location p.time = subst (λ (t : Listed). IsTimeAt (shown_graph t.graph) p.location p.time) (sym c.self.view_is) c.requires.known in (
      omega (arith, c.self.invariant.0, c.push_reserved.ensures.len, c.push_reserved.ensures.capacity, c.requires.room, ap (λ (t : Listed). t.spare) c.self.view_is),
      rw (c.push_reserved.ensures.items, c.copied.ensures) (all_more g (times_in xs) (times_in (xs ++ (p ∷ []))) p c.self.invariant.1 on (λ q. times-push q xs p)),
    )

pub returns-clause-content : goal.returns-clause-content
returns-clause-content c = λ q.
    let xs = c.self.inside.active.items in
    let p = c.args.p.now in
    rw (c.push_reserved.ensures.items, c.copied.ensures) (times-push q xs p ∙ ap (λ (t : Listed). one_if_same q p + times_in t.active q) c.self.view_is)
