use Rattle.std.proofs.Common.{◌<◌, subst}
use Rattle.std.specs.Prelude.{IsTrue, ◌↔◌}
use Rattle.semantics.specs.Could.{CouldResultIn, NoOtherOf}
use Rattle.graph.specs.Shown.{shown_graph}
use Rattle.progress.specs.Content.{times_in}
use Rattle.simple_trackers.specs.Shown.{Listed}
use Rattle.progress.proofs.Contents.{frontier_by}
use Rattle.simple_trackers.proofs.plain.PlainTrackerProgress.in_frontier.Goals as goal

pub returns : goal.returns
returns c =
    let i = c.self.inside in
    let b = c.is_clear.result in
    let p = c.args.p.now in
    let clear = rw (c.deref.ensures, c.deref-2.ensures.value) at c.is_clear.ensures.clear in
    let blocked = rw (c.deref.ensures, c.deref-2.ensures.value) at c.is_clear.ensures.blocked in
    subst (λ (t : Listed). IsTrue b ↔ NoOtherOf (CouldResultIn (shown_graph t.graph)) (λ q. 0 < times_in t.active q) p) c.self.view_is
    (frontier_by (shown_graph i.paths.value) (times_in i.active.items) p b clear blocked)
