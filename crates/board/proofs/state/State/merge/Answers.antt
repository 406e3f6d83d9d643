use Rattle.std.proofs.Common.{◌≡◌, ℕ, List, refl, ap, slice_set}
use Rattle.board.specs.WorkerShown.{WorkerShown, sides_of}
use Rattle.board.specs.Shown.{Shown}
use Rattle.board.proofs.Merged.{merges_none, merges_some}
use Rattle.board.proofs.state.State.merge.Goals as goal

pub returns-clause-merges : goal.returns-clause-merges
returns-clause-merges c =
    let s : Shown = c.args.self.now in
    let ds : List WorkerShown = c.self.inside.workers.items in
    let k : ℕ = c.args.worker in
    let same : sides_of ds ≡ s.sides = ap (λ (x : Shown). x.sides) c.self.view_is in
    let t : Shown = record { graph = c.self.inside.wiring.value.graph; inputs = c.self.inside.inputs.items; sides = sides_of (slice_set ds k c.merge.new.self); emitted = c.self.inside.emitted; stopped = c.self.inside.stopped } in
    merges_some s ds same k c.requires c.index_mut.result.now c.merge.new.self c.index_mut.ensures.value t
    (ap (λ (x : Shown). x.graph) c.self.view_is) (ap (λ (x : Shown). x.inputs) c.self.view_is) (ap (λ (x : Shown). x.emitted) c.self.view_is) (ap (λ (x : Shown). x.stopped) c.self.view_is) refl c.merge.ensures.rest
    c.args.place c.merge.result c.merge.ensures.merged

pub returns-clause-same : goal.returns-clause-same
returns-clause-same c =
    let s : Shown = c.args.self.now in
    let ds : List WorkerShown = c.self.inside.workers.items in
    let k : ℕ = c.args.worker in
    let same : sides_of ds ≡ s.sides = ap (λ (x : Shown). x.sides) c.self.view_is in
    let t : Shown = record { graph = c.self.inside.wiring.value.graph; inputs = c.self.inside.inputs.items; sides = sides_of (slice_set ds k c.merge.new.self); emitted = c.self.inside.emitted; stopped = c.self.inside.stopped } in
    merges_none s ds same k c.requires c.index_mut.result.now c.merge.new.self c.index_mut.ensures.value t
    (ap (λ (x : Shown). x.graph) c.self.view_is) (ap (λ (x : Shown). x.inputs) c.self.view_is) (ap (λ (x : Shown). x.emitted) c.self.view_is) (ap (λ (x : Shown). x.stopped) c.self.view_is) refl c.merge.ensures.rest
    c.merge.result c.merge.ensures.same
