use Rattle.std.proofs.Common.{◌≡◌, ◌<◌, ℕ, List, length, refl, sym, ap, ◌∙◌, arith, slice_get, slice_index_or, Some, None}
use Rattle.graph.specs.Shown.{shown_graph}
use Rattle.machine.specs.World.{Request}
use Rattle.tokens.specs.Tokens.{Ticket}
use Rattle.events.specs.Jobs.{Job}
use Rattle.board.specs.WorkerShown.{WorkerShown, sides_of}
use Rattle.board.specs.Shown.{Shown, Side, side_at, event_at}
use Rattle.views.proofs.Contents.{got_at}
use Rattle.board.proofs.Handing.{read_at, hands_request}
use Rattle.board.proofs.Ready as ready
use Rattle.board.proofs.state.State.claim_request.Goals as goal

pub send_request-event-requires-clause-vertex : goal.send_request-event-requires-clause-vertex
send_request-event-requires-clause-vertex c =
    let s : Shown = c.args.self.now in
    let ds : List WorkerShown = c.self.inside.workers.items in
    let k : ℕ = c.args.worker in
    let same : sides_of ds ≡ s.sides = ap (λ (x : Shown). x.sides) c.self.view_is in
    let x : c.index.result.now.side ≡ side_at s k = read_at s ds same k c.requires.there c.index.result.now c.index.ensures in
    let r : Request = c.get.result.now in
    let box : c.requests.result.now.messages ≡ (side_at s k).requests = c.requests.ensures ∙ ap (λ (z : Side). z.requests) x in
    let got : slice_get (side_at s k).requests c.args.place ≡ Some r =
    sym (ap (λ (ms : List Request). slice_get ms c.args.place) box) ∙ got_at c.requests.result.now.messages c.args.place r (omega (arith, c.requires.some, ap length box)) c.get.ensures in
    let v : c.behind-requests.inside.vertex.0 ≡ r.vertex = ap (λ (z : Request). z.vertex) c.behind-requests.view_is in
    let y : c.index_mut.result.now.side ≡ side_at s k = read_at s ds same k c.requires.there c.index_mut.result.now c.index_mut.ensures.value in
    let lv : r.vertex < length (shown_graph s.graph) = (ready.good_request c.requires.kept.0 c.requires.kept.1 s c.requires.kept.2 k c.requires.there c.requires.free c.args.place r got).fits.0 in
    let ls : length (side_at s k).shards ≡ length (shown_graph s.graph) = (c.requires.kept.2.sides k c.requires.there).shards in
    omega (arith, lv, ls, v, ap (λ (z : Side). length z.shards) y)

pub send_request-event-requires-clause-shard : goal.send_request-event-requires-clause-shard
send_request-event-requires-clause-shard c =
    let s : Shown = c.args.self.now in
    let ds : List WorkerShown = c.self.inside.workers.items in
    let k : ℕ = c.args.worker in
    let same : sides_of ds ≡ s.sides = ap (λ (x : Shown). x.sides) c.self.view_is in
    let x : c.index.result.now.side ≡ side_at s k = read_at s ds same k c.requires.there c.index.result.now c.index.ensures in
    let r : Request = c.get.result.now in
    let box : c.requests.result.now.messages ≡ (side_at s k).requests = c.requests.ensures ∙ ap (λ (z : Side). z.requests) x in
    let got : slice_get (side_at s k).requests c.args.place ≡ Some r =
    sym (ap (λ (ms : List Request). slice_get ms c.args.place) box) ∙ got_at c.requests.result.now.messages c.args.place r (omega (arith, c.requires.some, ap length box)) c.get.ensures in
    let v : c.behind-requests.inside.vertex.0 ≡ r.vertex = ap (λ (z : Request). z.vertex) c.behind-requests.view_is in
    let y : c.index_mut.result.now.side ≡ side_at s k = read_at s ds same k c.requires.there c.index_mut.result.now c.index_mut.ensures.value in
    let lv : r.vertex < length (shown_graph s.graph) = (ready.good_request c.requires.kept.0 c.requires.kept.1 s c.requires.kept.2 k c.requires.there c.requires.free c.args.place r got).fits.0 in
    let ls : length (side_at s k).shards ≡ length (shown_graph s.graph) = (c.requires.kept.2.sides k c.requires.there).shards in
    let h = ready.shard_home c.requires.kept.0 c.requires.kept.1 s c.requires.kept.2 k c.requires.there c.requires.free r.vertex lv in
    (h.0, (λ i. slice_index_or (y i).shards (v i) None) ∙ h.1)

pub new-requires-clause-ready : goal.new-requires-clause-ready
new-requires-clause-ready c =
    let s : Shown = c.args.self.now in
    let ds : List WorkerShown = c.self.inside.workers.items in
    let k : ℕ = c.args.worker in
    let same : sides_of ds ≡ s.sides = ap (λ (x : Shown). x.sides) c.self.view_is in
    let x : c.index.result.now.side ≡ side_at s k = read_at s ds same k c.requires.there c.index.result.now c.index.ensures in
    let r : Request = c.get.result.now in
    let box : c.requests.result.now.messages ≡ (side_at s k).requests = c.requests.ensures ∙ ap (λ (z : Side). z.requests) x in
    let got : slice_get (side_at s k).requests c.args.place ≡ Some r =
    sym (ap (λ (ms : List Request). slice_get ms c.args.place) box) ∙ got_at c.requests.result.now.messages c.args.place r (omega (arith, c.requires.some, ap length box)) c.get.ensures in
    let v : c.behind-requests.inside.vertex.0 ≡ r.vertex = ap (λ (z : Request). z.vertex) c.behind-requests.view_is in
    let y : c.index_mut.result.now.side ≡ side_at s k = read_at s ds same k c.requires.there c.index_mut.result.now c.index_mut.ensures.value in
    let lv : r.vertex < length (shown_graph s.graph) = (ready.good_request c.requires.kept.0 c.requires.kept.1 s c.requires.kept.2 k c.requires.there c.requires.free c.args.place r got).fits.0 in
    let ls : length (side_at s k).shards ≡ length (shown_graph s.graph) = (c.requires.kept.2.sides k c.requires.there).shards in
    let j : Job = c.send_request-event.result.0 in
    let r2 : Request = c.send_request-event.ensures.request.0 in
    let got2 : slice_get (side_at s k).requests c.args.place ≡ Some r2 = ap (λ (z : Side). slice_get z.requests c.args.place) (sym y) ∙ c.send_request-event.ensures.request.1 in
    let one : r ≡ r2 = (let e : Some r ≡ Some r2 = sym got ∙ got2 in cc) in
    let v2 : c.behind-requests.inside.vertex.0 ≡ r2.vertex = v ∙ ap (λ (z : Request). z.vertex) one in
    ready.request_is_ready c.requires.kept.0 c.requires.kept.1 s c.requires.kept.2 k c.requires.there c.requires.free c.args.place r2 got2 j (c.send_request-event.ensures.wired ∙ ap (λ (z : Side). z.wired) y) c.send_request-event.ensures.request.2
    (sym (λ i. slice_index_or (y i).shards (v2 i) None) ∙ c.send_request-event.ensures.shard)

pub returns-clause-hands : goal.returns-clause-hands
returns-clause-hands c =
    let s : Shown = c.args.self.now in
    let ds : List WorkerShown = c.self.inside.workers.items in
    let k : ℕ = c.args.worker in
    let same : sides_of ds ≡ s.sides = ap (λ (x : Shown). x.sides) c.self.view_is in
    let x : c.index.result.now.side ≡ side_at s k = read_at s ds same k c.requires.there c.index.result.now c.index.ensures in
    let r : Request = c.get.result.now in
    let box : c.requests.result.now.messages ≡ (side_at s k).requests = c.requests.ensures ∙ ap (λ (z : Side). z.requests) x in
    let got : slice_get (side_at s k).requests c.args.place ≡ Some r =
    sym (ap (λ (ms : List Request). slice_get ms c.args.place) box) ∙ got_at c.requests.result.now.messages c.args.place r (omega (arith, c.requires.some, ap length box)) c.get.ensures in
    let v : c.behind-requests.inside.vertex.0 ≡ r.vertex = ap (λ (z : Request). z.vertex) c.behind-requests.view_is in
    let y : c.index_mut.result.now.side ≡ side_at s k = read_at s ds same k c.requires.there c.index_mut.result.now c.index_mut.ensures.value in
    let lv : r.vertex < length (shown_graph s.graph) = (ready.good_request c.requires.kept.0 c.requires.kept.1 s c.requires.kept.2 k c.requires.there c.requires.free c.args.place r got).fits.0 in
    let ls : length (side_at s k).shards ≡ length (shown_graph s.graph) = (c.requires.kept.2.sides k c.requires.there).shards in
    let j : Job = c.send_request-event.result.0 in
    let r2 : Request = c.send_request-event.ensures.request.0 in
    let got2 : slice_get (side_at s k).requests c.args.place ≡ Some r2 = ap (λ (z : Side). slice_get z.requests c.args.place) (sym y) ∙ c.send_request-event.ensures.request.1 in
    let one : r ≡ r2 = (let e : Some r ≡ Some r2 = sym got ∙ got2 in cc) in
    let v2 : c.behind-requests.inside.vertex.0 ≡ r2.vertex = v ∙ ap (λ (z : Request). z.vertex) one in
    let pass : c.new.result.0 ≡ record { worker = k; table = c.index_mut.result.now.side.table; job = j } =
    c.new.ensures.pass ∙ ap (λ (z : Ticket Job). record { worker = k; table = z.table; job = z.job }) c.send_request-event.ensures.stub in
    hands_request s ds same k c.requires.there c.index_mut.result.now c.send_request-event.new.self c.index_mut.ensures.value c.behind-requests.inside.vertex.0 c.args.place j c.new.result.0 _ pass c.send_request-event.ensures.wired
    c.send_request-event.ensures.shard (v2 ∙ ap (event_at (shown_graph s.graph)) (sym c.send_request-event.ensures.request.2))
    (ap (λ (z : Shown). z.graph) c.self.view_is) (ap (λ (z : Shown). z.inputs) c.self.view_is) (ap (λ (z : Shown). z.emitted) c.self.view_is) (ap (λ (z : Shown). z.stopped) c.self.view_is) refl
    r2 c.send_request-event.ensures.request.1 c.send_request-event.ensures.request.2 c.send_request-event.ensures.state
