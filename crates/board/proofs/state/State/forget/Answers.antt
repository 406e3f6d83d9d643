use Rattle.std.proofs.Common.{◌≡◌, ◌∙◌, ℕ, List, sym, ap, subst, slice_index_or, slice_set, Some, None}
use Rattle.graph.specs.Locations.{location_of}
use Rattle.semantics.specs.Time.{Time}
use Rattle.board.specs.Forgetting.{ForgetsIn, LetsGo}
use Rattle.board.specs.WorkerShown.{WorkerShown, sides_of}
use Rattle.board.specs.Shown.{Shown, Side, side_at, side_in}
use Rattle.board.proofs.Handing.{read_at, worker_there}
use Rattle.board.proofs.MailboxRoom.{sides_change}
use Rattle.board.proofs.state.State.forget.Goals as goal

pub returns : goal.returns
returns c =
    let s : Shown = c.args.self.now in
    let ds : List WorkerShown = c.self.inside.workers.items in
    let k : ℕ = c.args.worker in
    let v : ℕ = c.in-Vertex.vertex.0 in
    let same : sides_of ds ≡ s.sides = ap (λ (x : Shown). x.sides) c.self.view_is in
    let y : c.index_mut.result.now.side ≡ side_at s k = read_at s ds same k c.requires.there c.index_mut.result.now c.index_mut.ensures.value in
    let f : ForgetsIn c.index_mut.result.now.side c.forget.new.self.side v c.time.result.now = c.forget.ensures.forgets in
    let all : sides_of (slice_set ds k c.forget.new.self) ≡ slice_set s.sides k (record (side_at s k) { shards = slice_set (side_at s k).shards v (Some f.new) }) =
    sides_change ds k c.forget.new.self c.index_mut.result.now (λ (x : Side). record x { shards = slice_set x.shards v (Some f.new) }) (worker_there s ds same k c.requires.there) c.index_mut.ensures.value f.side
    ∙ (λ i. slice_set (same i) k (record (side_in (same i) k) { shards = slice_set (side_in (same i) k).shards v (Some f.new) })) in
    record {
      vertex = v;
      at = sym c.location.ensures ∙ ap location_of c.in-Vertex.is;
      old = f.old;
      new = f.new;
      was = ap (λ (z : Side). slice_index_or z.shards v None) (sym y) ∙ f.was;
      go = (let P : Time → Type 0 = λ t. LetsGo t f.old f.new in subst P c.time.ensures f.go);
      state = λ i. record { graph = (c.self.view_is i).graph; inputs = (c.self.view_is i).inputs; sides = all i; emitted = (c.self.view_is i).emitted; stopped = (c.self.view_is i).stopped };
    }
