use Rattle.std.proofs.Common.{◌≡◌, ◌<◌, ℕ, List, length, sym, ap, ◌∙◌, subst, arith, slice_get, slice_index_or, Option, Some, None}
use Rattle.semantics.specs.Could.{Location, Pointstamp}
use Rattle.semantics.specs.Graph.{target, edge_count}
use Rattle.semantics.specs.Time.{Time}
use Rattle.graph.specs.Shown.{GraphValue, shown_graph}
use Rattle.machine.specs.World.{Message}
use Rattle.vertices.specs.declared.shard.Shard.{Shard}
use Rattle.events.specs.Wired.{Wired}
use Rattle.board.specs.Forgetting.{LooksHere}
use Rattle.board.specs.WorkerShown.{WorkerShown, sides_of}
use Rattle.board.specs.Shown.{Shown, Side, side_at}
use Rattle.views.proofs.Contents.{got_at}
use Rattle.board.proofs.Handing.{read_at}
use Rattle.board.proofs.Ready as ready
use Rattle.board.proofs.state.State.earlier.Goals as goal

pub edge-requires-2 : goal.edge-requires-2
edge-requires-2 c =
    let s : Shown = c.args.self.now in
    let ds : List WorkerShown = c.self.inside.workers.items in
    let k : ℕ = c.args.worker in
    let same : sides_of ds ≡ s.sides = ap (λ (x : Shown). x.sides) c.self.view_is in
    let x : c.index-worker.result.now.side ≡ side_at s k = read_at s ds same k c.requires.there c.index-worker.result.now c.index-worker.ensures in
    let m : Message = c.get-message.result.now in
    let box : c.mailbox.result.now.messages ≡ (side_at s k).mail = c.mailbox.ensures ∙ ap (λ (z : Side). z.mail) x in
    let got : slice_get (side_at s k).mail c.args.place ≡ Some m =
    sym (ap (λ (ms : List Message). slice_get ms c.args.place) box) ∙ got_at c.mailbox.result.now.messages c.args.place m (omega (arith, c.requires.some, ap length box)) c.get-message.ensures in
    let edge : c.edge.result.0 ≡ m.edge = c.edge.ensures in
    let graph : c.graph.result.now ≡ s.graph = c.graph.ensures ∙ ap (λ (z : Wired). z.graph) c.deref.ensures ∙ ap (λ (z : Shown). z.graph) c.self.view_is in
    let good = ready.good_message c.requires.kept.0 c.requires.kept.1 s c.requires.kept.2 k c.requires.there c.requires.free c.args.place m got in
    let P : GraphValue → Type 0 = λ z. m.edge < edge_count (shown_graph z) in
    let Q : ℕ → Type 0 = λ n. n < edge_count (shown_graph c.graph.result.now) in
    subst Q (sym edge) (subst P (sym graph) good.fits.0)

pub earlier-requires : goal.earlier-requires
earlier-requires c =
    let s : Shown = c.args.self.now in
    let ds : List WorkerShown = c.self.inside.workers.items in
    let k : ℕ = c.args.worker in
    let same : sides_of ds ≡ s.sides = ap (λ (x : Shown). x.sides) c.self.view_is in
    let x : c.index-worker.result.now.side ≡ side_at s k = read_at s ds same k c.requires.there c.index-worker.result.now c.index-worker.ensures in
    let m : Message = c.get-message.result.now in
    let box : c.mailbox.result.now.messages ≡ (side_at s k).mail = c.mailbox.ensures ∙ ap (λ (z : Side). z.mail) x in
    let got : slice_get (side_at s k).mail c.args.place ≡ Some m =
    sym (ap (λ (ms : List Message). slice_get ms c.args.place) box) ∙ got_at c.mailbox.result.now.messages c.args.place m (omega (arith, c.requires.some, ap length box)) c.get-message.ensures in
    let edge : c.edge.result.0 ≡ m.edge = c.edge.ensures in
    let graph : c.graph.result.now ≡ s.graph = c.graph.ensures ∙ ap (λ (z : Wired). z.graph) c.deref.ensures ∙ ap (λ (z : Shown). z.graph) c.self.view_is in
    let good = ready.good_message c.requires.kept.0 c.requires.kept.1 s c.requires.kept.2 k c.requires.there c.requires.free c.args.place m got in
    let v : c.edge-2.result.target.0 ≡ target (shown_graph s.graph) m.edge = c.edge-2.ensures.target ∙ (λ i. target (shown_graph (graph i)) (edge i)) in
    let lv : target (shown_graph s.graph) m.edge < length (shown_graph s.graph) = ready.target_there c.requires.kept.0 c.requires.kept.1 s c.requires.kept.2 k c.requires.there c.requires.free c.args.place m got in
    let ls : length (side_at s k).shards ≡ length (shown_graph s.graph) = (c.requires.kept.2.sides k c.requires.there).shards in
    omega (arith, lv, ls, v, ap (λ (z : Side). length z.shards) x)

pub returns-in-Some : goal.returns-in-Some
returns-in-Some c =
    let s : Shown = c.args.self.now in
    let ds : List WorkerShown = c.self.inside.workers.items in
    let k : ℕ = c.args.worker in
    let same : sides_of ds ≡ s.sides = ap (λ (x : Shown). x.sides) c.self.view_is in
    let x : c.index-worker.result.now.side ≡ side_at s k = read_at s ds same k c.requires.there c.index-worker.result.now c.index-worker.ensures in
    let m : Message = c.get-message.result.now in
    let box : c.mailbox.result.now.messages ≡ (side_at s k).mail = c.mailbox.ensures ∙ ap (λ (z : Side). z.mail) x in
    let got : slice_get (side_at s k).mail c.args.place ≡ Some m =
    sym (ap (λ (ms : List Message). slice_get ms c.args.place) box) ∙ got_at c.mailbox.result.now.messages c.args.place m (omega (arith, c.requires.some, ap length box)) c.get-message.ensures in
    let edge : c.edge.result.0 ≡ m.edge = c.edge.ensures in
    let graph : c.graph.result.now ≡ s.graph = c.graph.ensures ∙ ap (λ (z : Wired). z.graph) c.deref.ensures ∙ ap (λ (z : Shown). z.graph) c.self.view_is in
    let good = ready.good_message c.requires.kept.0 c.requires.kept.1 s c.requires.kept.2 k c.requires.there c.requires.free c.args.place m got in
    let v : c.edge-2.result.target.0 ≡ target (shown_graph s.graph) m.edge = c.edge-2.ensures.target ∙ (λ i. target (shown_graph (graph i)) (edge i)) in
    let lv : target (shown_graph s.graph) m.edge < length (shown_graph s.graph) = ready.target_there c.requires.kept.0 c.requires.kept.1 s c.requires.kept.2 k c.requires.there c.requires.free c.args.place m got in
    let P : Option Shard → Type 0 = LooksHere in
    let here : LooksHere (slice_index_or c.index-worker.result.now.side.shards c.edge-2.result.target.0 None) = c.in-Some.ensures in
    let deep : length c.in-Some.time.counters ≡ length m.time.counters =
    sym c.depth.ensures.value ∙ c.if-depth.true ∙ c.depth-depth.ensures.value ∙ ap (λ (t : Time). length t.counters) c.time.ensures in
    record {
      vertex = target (shown_graph s.graph) m.edge;
      at = ap (λ (p : Pointstamp). p.location) c.new.ensures ∙ ap Location.vertex v;
      shard = subst P (λ i. slice_index_or (x i).shards (v i) None) here;
      located = (lv, ap (λ (p : Pointstamp). length p.time.counters) c.new.ensures ∙ deep ∙ good.fits.1);
    }
