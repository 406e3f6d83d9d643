use Rattle.std.proofs.Common.{arith}
use Rattle.std.specs.Prelude.{map}
use Rattle.graph.specs.Locations.{location_of}
use Rattle.graph.specs.Shown.{shown_graph}
use Rattle.progress.proofs.Places.{kept_taken}
use Rattle.progress.proofs.located.LocationTrackerProgress.remove.Goals as goal

pub invariant_of-self : goal.invariant_of-self
invariant_of-self c =
    let i = c.self.inside in
    let none = rw (c.deref.ensures.value, c.deref-2.ensures.value, c.location.ensures) at c.is_empty_at-empty.ensures.empty in
    let still = rw c.location-2.ensures at c.unlist.ensures.still in (
      omega (arith, c.self.invariant.0, c.take.ensures.room),
      omega (arith, c.self.invariant.1, c.unlist.ensures.fewer, c.unlist.ensures.room),
      kept_taken (shown_graph i.paths.value) i.edges.items i.vertices.items c.take.new.edges.items c.take.new.vertices.items (map location_of i.listed.items) (map location_of c.unlist.new.listed.items) c.args.p.now c.is_empty_at-empty.result
          c.self.invariant.2 c.take.ensures.content c.take.ensures.edges c.take.ensures.vertices none still,
    )
