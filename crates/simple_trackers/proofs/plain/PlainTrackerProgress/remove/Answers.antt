use Rattle.std.proofs.Common.{◌≡◌, ◌∙◌, arith, ap, subst, sym, List, slice_get, Some}
use Rattle.std.specs.Prelude.{remove}
use Rattle.semantics.specs.Could.{Pointstamp}
use Rattle.graph.specs.Shown.{shown_graph}
use Rattle.progress.specs.Content.{times_in}
use Rattle.simple_trackers.specs.Shown.{Listed}
use Rattle.progress.proofs.Contents.{times-removed, all_less}
use Rattle.simple_trackers.proofs.plain.PlainTrackerProgress.remove.Goals as goal

pub invariant_of-self : goal.invariant_of-self
invariant_of-self c =
    let xs = c.self.inside.active.items in
    let p = c.args.p.now in
    let here : slice_get xs c.in-Some.place ≡ Some p = subst (λ (l : List Pointstamp). slice_get l c.in-Some.place ≡ Some p) c.deref.ensures.value c.in-Some.ensures.some in (
      omega (arith, c.self.invariant.0, c.remove.ensures.len, c.remove.ensures.capacity),
      rw c.remove.ensures.items (all_less (shown_graph c.self.inside.paths.value) (times_in xs) (times_in (remove xs c.in-Some.place)) p c.self.invariant.1 (λ q. times-removed q xs c.in-Some.place p here)),
    )

pub returns-in-Some-clause-content : goal.returns-in-Some-clause-content
returns-in-Some-clause-content c = λ q.
    let xs = c.self.inside.active.items in
    let p = c.args.p.now in
    let here : slice_get xs c.in-Some.place ≡ Some p = subst (λ (l : List Pointstamp). slice_get l c.in-Some.place ≡ Some p) c.deref.ensures.value c.in-Some.ensures.some in
    rw c.remove.ensures.items (ap (λ (t : Listed). times_in t.active q) (sym c.self.view_is) ∙ times-removed q xs c.in-Some.place p here)
