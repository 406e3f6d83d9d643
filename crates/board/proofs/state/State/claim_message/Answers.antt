use Rattle.std.proofs.Common.{◌≡◌, ◌<◌, ℕ, List, length, refl, sym, ap, ◌∙◌, subst, arith, slice_get, slice_index_or, Some, None}
use Rattle.semantics.specs.Graph.{target, edge_count}
use Rattle.graph.specs.Shown.{GraphValue, shown_graph}
use Rattle.machine.specs.World.{Message}
use Rattle.tokens.specs.Tokens.{Ticket}
use Rattle.events.specs.Jobs.{Job}
use Rattle.events.specs.Wired.{Wired}
use Rattle.board.specs.WorkerShown.{WorkerShown, sides_of}
use Rattle.board.specs.Shown.{Shown, Side, side_at, event_at}
use Rattle.views.proofs.Contents.{got_at}
use Rattle.board.proofs.Handing.{read_at, hands_message}
use Rattle.board.proofs.Ready as ready
use Rattle.board.proofs.state.State.claim_message.Goals as goal

pub edge-requires : goal.edge-requires
edge-requires c =
    let s : Shown = c.args.self.now in
    let ds : List WorkerShown = c.self.inside.workers.items in
    let k : ℕ = c.args.worker in
    let same : sides_of ds ≡ s.sides = ap (λ (x : Shown). x.sides) c.self.view_is in
    let x : c.index.result.now.side ≡ side_at s k = read_at s ds same k c.requires.there c.index.result.now c.index.ensures in
    let m : Message = c.get.result.now in
    let box : c.mailbox.result.now.messages ≡ (side_at s k).mail = c.mailbox.ensures ∙ ap (λ (z : Side). z.mail) x in
    let got : slice_get (side_at s k).mail c.args.place ≡ Some m =
    sym (ap (λ (ms : List Message). slice_get ms c.args.place) box) ∙ got_at c.mailbox.result.now.messages c.args.place m (omega (arith, c.requires.some, ap length box)) c.get.ensures in
    let edge : c.edge-edge.result.0 ≡ m.edge = c.edge-edge.ensures in
    let graph : c.graph.result.now ≡ s.graph = c.graph.ensures ∙ ap (λ (z : Wired). z.graph) c.deref.ensures ∙ ap (λ (z : Shown). z.graph) c.self.view_is in
    let good = ready.good_message c.requires.kept.0 c.requires.kept.1 s c.requires.kept.2 k c.requires.there c.requires.free c.args.place m got in
    let P : GraphValue → Type 0 = λ z. m.edge < edge_count (shown_graph z) in
    let Q : ℕ → Type 0 = λ n. n < edge_count (shown_graph c.graph.result.now) in
    subst Q (sym edge) (subst P (sym graph) good.fits.0)

pub send_message-event-requires-clause-vertex : goal.send_message-event-requires-clause-vertex
send_message-event-requires-clause-vertex c =
    let s : Shown = c.args.self.now in
    let ds : List WorkerShown = c.self.inside.workers.items in
    let k : ℕ = c.args.worker in
    let same : sides_of ds ≡ s.sides = ap (λ (x : Shown). x.sides) c.self.view_is in
    let x : c.index.result.now.side ≡ side_at s k = read_at s ds same k c.requires.there c.index.result.now c.index.ensures in
    let m : Message = c.get.result.now in
    let box : c.mailbox.result.now.messages ≡ (side_at s k).mail = c.mailbox.ensures ∙ ap (λ (z : Side). z.mail) x in
    let got : slice_get (side_at s k).mail c.args.place ≡ Some m =
    sym (ap (λ (ms : List Message). slice_get ms c.args.place) box) ∙ got_at c.mailbox.result.now.messages c.args.place m (omega (arith, c.requires.some, ap length box)) c.get.ensures in
    let edge : c.edge-edge.result.0 ≡ m.edge = c.edge-edge.ensures in
    let graph : c.graph.result.now ≡ s.graph = c.graph.ensures ∙ ap (λ (z : Wired). z.graph) c.deref.ensures ∙ ap (λ (z : Shown). z.graph) c.self.view_is in
    let v : c.edge.result.target.0 ≡ target (shown_graph s.graph) m.edge = c.edge.ensures.target ∙ (λ i. target (shown_graph (graph i)) (edge i)) in
    let y : c.index_mut.result.now.side ≡ side_at s k = read_at s ds same k c.requires.there c.index_mut.result.now c.index_mut.ensures.value in
    let lv : target (shown_graph s.graph) m.edge < length (shown_graph s.graph) = ready.target_there c.requires.kept.0 c.requires.kept.1 s c.requires.kept.2 k c.requires.there c.requires.free c.args.place m got in
    let ls : length (side_at s k).shards ≡ length (shown_graph s.graph) = (c.requires.kept.2.sides k c.requires.there).shards in
    omega (arith, lv, ls, v, ap (λ (z : Side). length z.shards) y)

pub send_message-event-requires-clause-shard : goal.send_message-event-requires-clause-shard
send_message-event-requires-clause-shard c =
    let s : Shown = c.args.self.now in
    let ds : List WorkerShown = c.self.inside.workers.items in
    let k : ℕ = c.args.worker in
    let same : sides_of ds ≡ s.sides = ap (λ (x : Shown). x.sides) c.self.view_is in
    let x : c.index.result.now.side ≡ side_at s k = read_at s ds same k c.requires.there c.index.result.now c.index.ensures in
    let m : Message = c.get.result.now in
    let box : c.mailbox.result.now.messages ≡ (side_at s k).mail = c.mailbox.ensures ∙ ap (λ (z : Side). z.mail) x in
    let got : slice_get (side_at s k).mail c.args.place ≡ Some m =
    sym (ap (λ (ms : List Message). slice_get ms c.args.place) box) ∙ got_at c.mailbox.result.now.messages c.args.place m (omega (arith, c.requires.some, ap length box)) c.get.ensures in
    let edge : c.edge-edge.result.0 ≡ m.edge = c.edge-edge.ensures in
    let graph : c.graph.result.now ≡ s.graph = c.graph.ensures ∙ ap (λ (z : Wired). z.graph) c.deref.ensures ∙ ap (λ (z : Shown). z.graph) c.self.view_is in
    let v : c.edge.result.target.0 ≡ target (shown_graph s.graph) m.edge = c.edge.ensures.target ∙ (λ i. target (shown_graph (graph i)) (edge i)) in
    let y : c.index_mut.result.now.side ≡ side_at s k = read_at s ds same k c.requires.there c.index_mut.result.now c.index_mut.ensures.value in
    let lv : target (shown_graph s.graph) m.edge < length (shown_graph s.graph) = ready.target_there c.requires.kept.0 c.requires.kept.1 s c.requires.kept.2 k c.requires.there c.requires.free c.args.place m got in
    let ls : length (side_at s k).shards ≡ length (shown_graph s.graph) = (c.requires.kept.2.sides k c.requires.there).shards in
    let h = ready.shard_home c.requires.kept.0 c.requires.kept.1 s c.requires.kept.2 k c.requires.there c.requires.free (target (shown_graph s.graph) m.edge) lv in
    (h.0, (λ i. slice_index_or (y i).shards (v i) None) ∙ h.1)

pub new-requires-clause-ready : goal.new-requires-clause-ready
new-requires-clause-ready c =
    let s : Shown = c.args.self.now in
    let ds : List WorkerShown = c.self.inside.workers.items in
    let k : ℕ = c.args.worker in
    let same : sides_of ds ≡ s.sides = ap (λ (x : Shown). x.sides) c.self.view_is in
    let x : c.index.result.now.side ≡ side_at s k = read_at s ds same k c.requires.there c.index.result.now c.index.ensures in
    let m : Message = c.get.result.now in
    let box : c.mailbox.result.now.messages ≡ (side_at s k).mail = c.mailbox.ensures ∙ ap (λ (z : Side). z.mail) x in
    let got : slice_get (side_at s k).mail c.args.place ≡ Some m =
    sym (ap (λ (ms : List Message). slice_get ms c.args.place) box) ∙ got_at c.mailbox.result.now.messages c.args.place m (omega (arith, c.requires.some, ap length box)) c.get.ensures in
    let edge : c.edge-edge.result.0 ≡ m.edge = c.edge-edge.ensures in
    let graph : c.graph.result.now ≡ s.graph = c.graph.ensures ∙ ap (λ (z : Wired). z.graph) c.deref.ensures ∙ ap (λ (z : Shown). z.graph) c.self.view_is in
    let v : c.edge.result.target.0 ≡ target (shown_graph s.graph) m.edge = c.edge.ensures.target ∙ (λ i. target (shown_graph (graph i)) (edge i)) in
    let y : c.index_mut.result.now.side ≡ side_at s k = read_at s ds same k c.requires.there c.index_mut.result.now c.index_mut.ensures.value in
    let lv : target (shown_graph s.graph) m.edge < length (shown_graph s.graph) = ready.target_there c.requires.kept.0 c.requires.kept.1 s c.requires.kept.2 k c.requires.there c.requires.free c.args.place m got in
    let ls : length (side_at s k).shards ≡ length (shown_graph s.graph) = (c.requires.kept.2.sides k c.requires.there).shards in
    let j : Job = c.send_message-event.result.0 in
    let m2 : Message = c.send_message-event.ensures.message.0 in
    let got2 : slice_get (side_at s k).mail c.args.place ≡ Some m2 = ap (λ (z : Side). slice_get z.mail c.args.place) (sym y) ∙ c.send_message-event.ensures.message.1 in
    let one : m ≡ m2 = (let e : Some m ≡ Some m2 = sym got ∙ got2 in cc) in
    let v2 : c.edge.result.target.0 ≡ target (shown_graph s.graph) m2.edge = v ∙ ap (λ (z : Message). target (shown_graph s.graph) z.edge) one in
    ready.message_is_ready c.requires.kept.0 c.requires.kept.1 s c.requires.kept.2 k c.requires.there c.requires.free c.args.place m2 got2 j (c.send_message-event.ensures.wired ∙ ap (λ (z : Side). z.wired) y) c.send_message-event.ensures.message.2
    (sym (λ i. slice_index_or (y i).shards (v2 i) None) ∙ c.send_message-event.ensures.shard)

pub returns-clause-hands : goal.returns-clause-hands
returns-clause-hands c =
    let s : Shown = c.args.self.now in
    let ds : List WorkerShown = c.self.inside.workers.items in
    let k : ℕ = c.args.worker in
    let same : sides_of ds ≡ s.sides = ap (λ (x : Shown). x.sides) c.self.view_is in
    let x : c.index.result.now.side ≡ side_at s k = read_at s ds same k c.requires.there c.index.result.now c.index.ensures in
    let m : Message = c.get.result.now in
    let box : c.mailbox.result.now.messages ≡ (side_at s k).mail = c.mailbox.ensures ∙ ap (λ (z : Side). z.mail) x in
    let got : slice_get (side_at s k).mail c.args.place ≡ Some m =
    sym (ap (λ (ms : List Message). slice_get ms c.args.place) box) ∙ got_at c.mailbox.result.now.messages c.args.place m (omega (arith, c.requires.some, ap length box)) c.get.ensures in
    let edge : c.edge-edge.result.0 ≡ m.edge = c.edge-edge.ensures in
    let graph : c.graph.result.now ≡ s.graph = c.graph.ensures ∙ ap (λ (z : Wired). z.graph) c.deref.ensures ∙ ap (λ (z : Shown). z.graph) c.self.view_is in
    let v : c.edge.result.target.0 ≡ target (shown_graph s.graph) m.edge = c.edge.ensures.target ∙ (λ i. target (shown_graph (graph i)) (edge i)) in
    let y : c.index_mut.result.now.side ≡ side_at s k = read_at s ds same k c.requires.there c.index_mut.result.now c.index_mut.ensures.value in
    let lv : target (shown_graph s.graph) m.edge < length (shown_graph s.graph) = ready.target_there c.requires.kept.0 c.requires.kept.1 s c.requires.kept.2 k c.requires.there c.requires.free c.args.place m got in
    let ls : length (side_at s k).shards ≡ length (shown_graph s.graph) = (c.requires.kept.2.sides k c.requires.there).shards in
    let j : Job = c.send_message-event.result.0 in
    let m2 : Message = c.send_message-event.ensures.message.0 in
    let got2 : slice_get (side_at s k).mail c.args.place ≡ Some m2 = ap (λ (z : Side). slice_get z.mail c.args.place) (sym y) ∙ c.send_message-event.ensures.message.1 in
    let one : m ≡ m2 = (let e : Some m ≡ Some m2 = sym got ∙ got2 in cc) in
    let v2 : c.edge.result.target.0 ≡ target (shown_graph s.graph) m2.edge = v ∙ ap (λ (z : Message). target (shown_graph s.graph) z.edge) one in
    let pass : c.new.result.0 ≡ record { worker = k; table = c.index_mut.result.now.side.table; job = j } =
    c.new.ensures.pass ∙ ap (λ (z : Ticket Job). record { worker = k; table = z.table; job = z.job }) c.send_message-event.ensures.stub in
    hands_message s ds same k c.requires.there c.index_mut.result.now c.send_message-event.new.self c.index_mut.ensures.value c.edge.result.target.0 c.args.place j c.new.result.0 _ pass c.send_message-event.ensures.wired
    c.send_message-event.ensures.shard (v2 ∙ ap (event_at (shown_graph s.graph)) (sym c.send_message-event.ensures.message.2))
    (ap (λ (z : Shown). z.graph) c.self.view_is) (ap (λ (z : Shown). z.inputs) c.self.view_is) (ap (λ (z : Shown). z.emitted) c.self.view_is) (ap (λ (z : Shown). z.stopped) c.self.view_is) refl
    m2 c.send_message-event.ensures.message.1 c.send_message-event.ensures.message.2 c.send_message-event.ensures.state
