use Rattle.std.proofs.Common.{◌<◌, eqb, subst, arith}
use Rattle.std.specs.Prelude.{IsTrue, ◌↔◌}
use Rattle.std.proofs.lemmas.Option.{slice_get_within}
use Rattle.semantics.specs.Could.{CouldResultIn, NoOtherOf}
use Rattle.graph.specs.Shown.{shown_graph}
use Rattle.simple_trackers.specs.Counts.{occurrences_in, pointstamps}
use Rattle.simple_trackers.specs.Shown.{ShownCounts}
use Rattle.progress.proofs.Contents.{frontier_by, got_at}
use Rattle.simple_trackers.proofs.CountsKept.{clear_others, blocked_by_other, frontier_counted, is_zero, stamps_long}
use Rattle.simple_trackers.proofs.counts.CountTrackerProgress.in_frontier.Goals as goal

pub returns-in-Some : goal.returns-in-Some
returns-in-Some c =
    let i = c.self.inside in
    let g = shown_graph i.paths.value in
    let xs = i.active.items in
    let p = c.args.p.now in
    let x = c.index.result.now in
    let at = rw c.deref.ensures.value at c.in-Some.ensures.some in
    let here = got_at xs c.in-Some.place x (let b = slice_get_within (pointstamps xs) c.in-Some.place p at in let l = stamps_long xs in omega arith) c.index.ensures in
    let f = frontier_counted g p xs c.in-Some.place x c.self.invariant.2 here at in
    subst (λ (t : ShownCounts). IsTrue (eqb x.precursors 0) ↔ NoOtherOf (CouldResultIn (shown_graph t.graph)) (λ q. 0 < occurrences_in t.active q) p) c.self.view_is
    (λ t. f.0 ((is_zero x.precursors).0 t), λ no_other. (is_zero x.precursors).1 (f.1 no_other))

pub returns-in-None : goal.returns-in-None
returns-in-None c =
    let i = c.self.inside in
    let g = shown_graph i.paths.value in
    let xs = i.active.items in
    let p = c.args.p.now in
    let b = c.is_clear.result in
    let absent = rw c.deref.ensures.value at c.in-None.ensures.none in
    let clear = rw (c.deref-in-None.ensures, c.deref-in-None-2.ensures.value) at c.is_clear.ensures.clear in
    let blocked = rw (c.deref-in-None.ensures, c.deref-in-None-2.ensures.value) at c.is_clear.ensures.blocked in
    subst (λ (t : ShownCounts). IsTrue b ↔ NoOtherOf (CouldResultIn (shown_graph t.graph)) (λ q. 0 < occurrences_in t.active q) p) c.self.view_is
    (frontier_by g (occurrences_in xs) p b (λ e. clear_others g (occurrences_in xs) p (clear e)) (λ e. blocked_by_other g (occurrences_in xs) p absent (blocked e)))
