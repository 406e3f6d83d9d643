use Rattle.std.proofs.Common.{arith, ap, subst, sym}
use Rattle.std.specs.Prelude.{map}
use Rattle.semantics.specs.Could.{IsTimeAt}
use Rattle.graph.specs.Locations.{location_of}
use Rattle.graph.specs.Shown.{shown_graph}
use Rattle.progress.specs.Shown.{Located}
use Rattle.progress.proofs.Places.{kept_added}
use Rattle.progress.proofs.located.LocationTrackerProgress.add.Goals as goal

pub invariant_of-self : goal.invariant_of-self
invariant_of-self c =
    let i = c.self.inside in
    let p = c.args.p.now in
    let g = shown_graph i.paths.value in
    let ls' = map location_of c.list.new.listed.items in
    let on : IsTimeAt g p.location p.time = subst (λ (t : Located). IsTimeAt (shown_graph t.graph) p.location p.time) (sym c.self.view_is) c.requires.known in
    let some = rw (c.deref.ensures.value, c.deref-2.ensures.value, c.location.ensures) at c.is_empty_at-fresh.ensures.some in
    let s = ap (λ (t : Located). t.spare) c.self.view_is in (
      omega (arith, c.self.invariant.0, c.put.ensures.room, c.requires.room, s),
      omega (arith, c.self.invariant.1, c.list.ensures.one, c.list.ensures.room, c.requires.room, s),
      kept_added g i.edges.items i.vertices.items c.put.new.edges.items c.put.new.vertices.items (map location_of i.listed.items) ls' p c.is_empty_at-fresh.result
          c.self.invariant.2 on c.put.ensures.content c.put.ensures.edges c.put.ensures.vertices (rw c.location-2.ensures at c.list.ensures.fresh) some c.list.ensures.still,
    )
