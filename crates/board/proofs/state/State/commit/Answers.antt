use Rattle.std.proofs.Common.{◌≡◌, ◌<◌, ℕ, List, length, sym, ap, ◌∙◌, subst, arith, slice_set, length-set}
use Rattle.semantics.specs.Time.{Time}
use Rattle.semantics.specs.Could.{Pointstamp, Location}
use Rattle.semantics.specs.Multiset.{total}
use Rattle.graph.specs.Locations.{IsIn, location_of}
use Rattle.graph.specs.Shown.{GraphValue, shown_graph}
use Rattle.machine.specs.Active.{event_pointstamp}
use Rattle.machine.specs.Processing.{event_time}
use Rattle.tokens.specs.declared.rule.Place.TheVariants.{Out}
use Rattle.tokens.specs.Tokens.{Ticket}
use Rattle.events.specs.Jobs.{Job, Pass}
use Rattle.events.specs.Wired.{Wired}
use Rattle.events.specs.Outputs.{IsOutputOf, counted}
use Rattle.events.specs.declared.letter.Letter.{Letter}
use Rattle.events.specs.declared.work.Output.{Output}
use Rattle.board.specs.WorkerShown.{WorkerShown, AreWithin, sides_of}
use Rattle.board.specs.Shown.{Shown, Side, side_at, side_in, event_at, location_vertex}
use Rattle.board.specs.Steps.{with_emitted}
use Rattle.board.specs.declared.sent.Sent.{Sent}
use Rattle.board.proofs.Facts as facts
use Rattle.board.proofs.Ending.{many_settled, out_there, is_in, event_vertex_is, event_time_is, worker_there, side_there, read_side, own_table, state_then, added_then}
use Rattle.board.proofs.MailboxRoom.{sides_same, sides_length, as_many}
use Rattle.board.proofs.Telling.{tells_commit}
use Rattle.board.proofs.state.State.commit.Goals as goal

pub show-stub-requires : goal.show-stub-requires
show-stub-requires g c =
    let same : sides_of c.self.inside.workers.items ≡ c.args.self.now.sides = ap (λ (x : Shown). x.sides) c.self.view_is in
    let there = worker_there c.args.self.now c.args.done c.requires.own c.self.inside.workers.items c.worker-number.result c.worker-number.ensures same in
    let x : c.index_mut.result.now.side ≡ side_at c.args.self.now c.args.done.worker = read_side c.args.self.now c.args.done c.requires.own c.self.inside.workers.items c.worker-number.result c.worker-number.ensures same c.index_mut.result.now c.index_mut.ensures.value in
    ap (λ (t : Ticket Job). t.table) c.into_parts-stub.ensures.stub ∙ sym (facts.own_side c.args.self.now c.args.done c.requires.own).1 ∙ sym (ap (λ (z : Side). z.table) x)

pub prepare-requires-clause-there : goal.prepare-requires-clause-there
prepare-requires-clause-there g c =
    let s : Shown = c.args.self.now in
    let p : Pass = c.args.done in
    let ds : List WorkerShown = c.self.inside.workers.items in
    let k : ℕ = c.worker-number.result in
    let same : sides_of ds ≡ s.sides = ap (λ (x : Shown). x.sides) c.self.view_is in
    let there : k < length ds = worker_there s p c.requires.own ds k c.worker-number.ensures same in
    let shown : sides_of (slice_set ds k c.show-stub.new.self) ≡ sides_of ds = sides_same ds k c.show-stub.new.self c.index_mut.result.now there c.index_mut.ensures.value (ap (λ (x : WorkerShown). x.side) c.show-stub.ensures.state) in
    let many : length (slice_set ds k c.show-stub.new.self) ≡ length ds = as_many (slice_set ds k c.show-stub.new.self) ds shown in
    let many_sides : length ds ≡ length s.sides = sym (sides_length ds) ∙ ap length same in
    omega (arith, there, many)

pub prepare-requires-clause-within : goal.prepare-requires-clause-within
prepare-requires-clause-within g c =
    let s : Shown = c.args.self.now in
    let p : Pass = c.args.done in
    let ds : List WorkerShown = c.self.inside.workers.items in
    let k : ℕ = c.worker-number.result in
    let same : sides_of ds ≡ s.sides = ap (λ (x : Shown). x.sides) c.self.view_is in
    let there : k < length ds = worker_there s p c.requires.own ds k c.worker-number.ensures same in
    let shown : sides_of (slice_set ds k c.show-stub.new.self) ≡ sides_of ds = sides_same ds k c.show-stub.new.self c.index_mut.result.now there c.index_mut.ensures.value (ap (λ (x : WorkerShown). x.side) c.show-stub.ensures.state) in
    let many : length (slice_set ds k c.show-stub.new.self) ≡ length ds = as_many (slice_set ds k c.show-stub.new.self) ds shown in
    let many_sides : length ds ≡ length s.sides = sym (sides_length ds) ∙ ap length same in
    let x : c.index_mut.result.now.side ≡ side_at s p.worker = read_side s p c.requires.own ds k c.worker-number.ensures same c.index_mut.result.now c.index_mut.ensures.value in
    let out : (side_at s p.worker).place ≡ Out p.job = out_there s p c.index_mut.result.now.side c.into_parts-stub.result.0.job x c.show-stub.ensures.out (ap (λ (t : Ticket Job). t.job) c.into_parts-stub.ensures.stub) in
    let o : Output = c.into_parts-stub.result.1 in
    let is : IsOutputOf p.worker p.job o = c.into_parts-stub.ensures.output in
    let own = facts.own_side s p c.requires.own in
    let within : AreWithin (length s.sides) o.sent.items = facts.within_here (g.V.Views.graph c.args.views.now) (g.V.Views.content c.args.views.now) s c.requires.kept p.worker own.0 p.job out o is in
    let N : ℕ → Type 0 = λ n. AreWithin n o.sent.items in
    let L : List Letter → Type 0 = λ l. AreWithin (length (slice_set ds k c.show-stub.new.self)) l in
    subst L (sym c.deref-2.ensures.value) (subst N (sym (many ∙ many_sides)) within)

pub vertex_at-vertex-requires : goal.vertex_at-vertex-requires
vertex_at-vertex-requires g c =
    let s : Shown = c.args.self.now in
    let p : Pass = c.args.done in
    let ds : List WorkerShown = c.self.inside.workers.items in
    let k : ℕ = c.worker-number.result in
    let same : sides_of ds ≡ s.sides = ap (λ (x : Shown). x.sides) c.self.view_is in
    let there : k < length ds = worker_there s p c.requires.own ds k c.worker-number.ensures same in
    let shown : sides_of (slice_set ds k c.show-stub.new.self) ≡ sides_of ds = sides_same ds k c.show-stub.new.self c.index_mut.result.now there c.index_mut.ensures.value (ap (λ (x : WorkerShown). x.side) c.show-stub.ensures.state) in
    let many : length (slice_set ds k c.show-stub.new.self) ≡ length ds = as_many (slice_set ds k c.show-stub.new.self) ds shown in
    let many_sides : length ds ≡ length s.sides = sym (sides_length ds) ∙ ap length same in
    let x : c.index_mut.result.now.side ≡ side_at s p.worker = read_side s p c.requires.own ds k c.worker-number.ensures same c.index_mut.result.now c.index_mut.ensures.value in
    let out : (side_at s p.worker).place ≡ Out p.job = out_there s p c.index_mut.result.now.side c.into_parts-stub.result.0.job x c.show-stub.ensures.out (ap (λ (t : Ticket Job). t.job) c.into_parts-stub.ensures.stub) in
    let o : Output = c.into_parts-stub.result.1 in
    let is : IsOutputOf p.worker p.job o = c.into_parts-stub.ensures.output in
    let own = facts.own_side s p c.requires.own in
    let located = facts.located (g.V.Views.graph c.args.views.now) (g.V.Views.content c.args.views.now) s c.requires.kept p.worker own.0 p.job out in
    let h : IsIn (shown_graph s.graph) (event_pointstamp p.job.happening).location = is_in (shown_graph s.graph) (event_pointstamp p.job.happening).location (event_pointstamp p.job.happening).time located in
    let graph : c.graph-2.result.now ≡ s.graph = c.graph-2.ensures ∙ ap (λ (z : Wired). z.graph) c.deref-3.ensures ∙ ap (λ (x : Shown). x.graph) c.self.view_is in
    let place : location_of c.location.result ≡ (event_pointstamp p.job.happening).location = c.location.ensures ∙ ap (λ (x : Pointstamp). x.location) is.place in
    let A : GraphValue → Type 0 = λ x. IsIn (shown_graph x) (location_of c.location.result) in
    let B : Location → Type 0 = λ l. IsIn (shown_graph s.graph) l in
    subst A (sym graph) (subst B (sym place) h)

pub finish-place-requires-clause-table : goal.finish-place-requires-clause-table
finish-place-requires-clause-table g c =
    let s : Shown = c.args.self.now in
    let p : Pass = c.args.done in
    let ds : List WorkerShown = c.self.inside.workers.items in
    let k : ℕ = c.worker-number.result in
    let same : sides_of ds ≡ s.sides = ap (λ (x : Shown). x.sides) c.self.view_is in
    let there : k < length ds = worker_there s p c.requires.own ds k c.worker-number.ensures same in
    let shown : sides_of (slice_set ds k c.show-stub.new.self) ≡ sides_of ds = sides_same ds k c.show-stub.new.self c.index_mut.result.now there c.index_mut.ensures.value (ap (λ (x : WorkerShown). x.side) c.show-stub.ensures.state) in
    let many : length (slice_set ds k c.show-stub.new.self) ≡ length ds = as_many (slice_set ds k c.show-stub.new.self) ds shown in
    let many_sides : length ds ≡ length s.sides = sym (sides_length ds) ∙ ap length same in
    let now : sides_of c.prepare.new.workers.items ≡ s.sides = c.prepare.ensures.sides ∙ shown ∙ same in
    own_table s p c.requires.own c.prepare.new.workers.items k c.worker-number.ensures now c.show-stub.result.table
    (ap (λ (t : Ticket Job). t.table) (c.show-stub.ensures.stub ∙ c.into_parts-stub.ensures.stub))

pub emit-requires : goal.emit-requires
emit-requires g c =
    let s : Shown = c.args.self.now in
    let p : Pass = c.args.done in
    let ds : List WorkerShown = c.self.inside.workers.items in
    let k : ℕ = c.worker-number.result in
    let same : sides_of ds ≡ s.sides = ap (λ (x : Shown). x.sides) c.self.view_is in
    let x : c.index_mut.result.now.side ≡ side_at s p.worker = read_side s p c.requires.own ds k c.worker-number.ensures same c.index_mut.result.now c.index_mut.ensures.value in
    let out : (side_at s p.worker).place ≡ Out p.job = out_there s p c.index_mut.result.now.side c.into_parts-stub.result.0.job x c.show-stub.ensures.out (ap (λ (t : Ticket Job). t.job) c.into_parts-stub.ensures.stub) in
    let is : IsOutputOf p.worker p.job c.into_parts-stub.result.1 = c.into_parts-stub.ensures.output in
    let own = facts.own_side s p c.requires.own in
    let graph : c.graph-2.result.now ≡ s.graph = c.graph-2.ensures ∙ ap (λ (z : Wired). z.graph) c.deref-3.ensures ∙ ap (λ (x : Shown). x.graph) c.self.view_is in
    let place : location_of c.location.result ≡ (event_pointstamp p.job.happening).location = c.location.ensures ∙ ap (λ (x : Pointstamp). x.location) is.place in
    let vertex : c.vertex_at-vertex.result ≡ event_at (shown_graph s.graph) p.job.happening =
    c.vertex_at-vertex.ensures ∙ (λ i. location_vertex (shown_graph (graph i)) (place i)) ∙ event_vertex_is (shown_graph s.graph) p.job.happening in
    let there = (facts.own (g.V.Views.graph c.args.views.now) (g.V.Views.content c.args.views.now) s c.requires.kept p.worker own.0 p.job out).vertex in
    let room : length c.self.inside.emitted ≡ length (shown_graph s.graph) = ap (λ (x : Shown). length x.emitted) c.self.view_is ∙ c.requires.kept.room in
    omega (arith, there, vertex, room)

pub finish-place-requires-clause-vertex : goal.finish-place-requires-clause-vertex
finish-place-requires-clause-vertex g c =
    let s : Shown = c.args.self.now in
    let p : Pass = c.args.done in
    let ds : List WorkerShown = c.self.inside.workers.items in
    let k : ℕ = c.worker-number.result in
    let same : sides_of ds ≡ s.sides = ap (λ (x : Shown). x.sides) c.self.view_is in
    let there : k < length ds = worker_there s p c.requires.own ds k c.worker-number.ensures same in
    let shown : sides_of (slice_set ds k c.show-stub.new.self) ≡ sides_of ds = sides_same ds k c.show-stub.new.self c.index_mut.result.now there c.index_mut.ensures.value (ap (λ (x : WorkerShown). x.side) c.show-stub.ensures.state) in
    let many : length (slice_set ds k c.show-stub.new.self) ≡ length ds = as_many (slice_set ds k c.show-stub.new.self) ds shown in
    let many_sides : length ds ≡ length s.sides = sym (sides_length ds) ∙ ap length same in
    let x : c.index_mut.result.now.side ≡ side_at s p.worker = read_side s p c.requires.own ds k c.worker-number.ensures same c.index_mut.result.now c.index_mut.ensures.value in
    let out : (side_at s p.worker).place ≡ Out p.job = out_there s p c.index_mut.result.now.side c.into_parts-stub.result.0.job x c.show-stub.ensures.out (ap (λ (t : Ticket Job). t.job) c.into_parts-stub.ensures.stub) in
    let o : Output = c.into_parts-stub.result.1 in
    let is : IsOutputOf p.worker p.job o = c.into_parts-stub.ensures.output in
    let own = facts.own_side s p c.requires.own in
    let now : sides_of c.prepare.new.workers.items ≡ s.sides = c.prepare.ensures.sides ∙ shown ∙ same in
    let graph : c.graph-2.result.now ≡ s.graph = c.graph-2.ensures ∙ ap (λ (z : Wired). z.graph) c.deref-3.ensures ∙ ap (λ (x : Shown). x.graph) c.self.view_is in
    let place : location_of c.location.result ≡ (event_pointstamp p.job.happening).location = c.location.ensures ∙ ap (λ (x : Pointstamp). x.location) is.place in
    let vertex : c.vertex_at-vertex.result ≡ event_at (shown_graph s.graph) p.job.happening =
    c.vertex_at-vertex.ensures ∙ (λ i. location_vertex (shown_graph (graph i)) (place i)) ∙ event_vertex_is (shown_graph s.graph) p.job.happening in
    let v = facts.vertex_there (g.V.Views.graph c.args.views.now) (g.V.Views.content c.args.views.now) s c.requires.kept p.worker own.0 p.job out in
    let side : side_in (sides_of c.prepare.new.workers.items) k ≡ side_at s p.worker = side_there s p c.requires.own c.prepare.new.workers.items k c.worker-number.ensures now in
    omega (arith, v, vertex, ap (λ (z : Side). length z.shards) side)

pub finish-place-requires-clause-within : goal.finish-place-requires-clause-within
finish-place-requires-clause-within g c =
    let s : Shown = c.args.self.now in
    let p : Pass = c.args.done in
    let ds : List WorkerShown = c.self.inside.workers.items in
    let k : ℕ = c.worker-number.result in
    let same : sides_of ds ≡ s.sides = ap (λ (x : Shown). x.sides) c.self.view_is in
    let there : k < length ds = worker_there s p c.requires.own ds k c.worker-number.ensures same in
    let shown : sides_of (slice_set ds k c.show-stub.new.self) ≡ sides_of ds = sides_same ds k c.show-stub.new.self c.index_mut.result.now there c.index_mut.ensures.value (ap (λ (x : WorkerShown). x.side) c.show-stub.ensures.state) in
    let many : length (slice_set ds k c.show-stub.new.self) ≡ length ds = as_many (slice_set ds k c.show-stub.new.self) ds shown in
    let many_sides : length ds ≡ length s.sides = sym (sides_length ds) ∙ ap length same in
    let x : c.index_mut.result.now.side ≡ side_at s p.worker = read_side s p c.requires.own ds k c.worker-number.ensures same c.index_mut.result.now c.index_mut.ensures.value in
    let out : (side_at s p.worker).place ≡ Out p.job = out_there s p c.index_mut.result.now.side c.into_parts-stub.result.0.job x c.show-stub.ensures.out (ap (λ (t : Ticket Job). t.job) c.into_parts-stub.ensures.stub) in
    let o : Output = c.into_parts-stub.result.1 in
    let is : IsOutputOf p.worker p.job o = c.into_parts-stub.ensures.output in
    let own = facts.own_side s p c.requires.own in
    let now : sides_of c.prepare.new.workers.items ≡ s.sides = c.prepare.ensures.sides ∙ shown ∙ same in
    let rest : record c.in-Ok.output { emitted = o.emitted } ≡ o = c.in-Ok.ensures.rest in
    let within : AreWithin (length s.sides) o.sent.items = facts.within_here (g.V.Views.graph c.args.views.now) (g.V.Views.content c.args.views.now) s c.requires.kept p.worker own.0 p.job out o is in
    let n : length c.prepare.new.workers.items ≡ length s.sides = sym (sides_length c.prepare.new.workers.items) ∙ ap length now in
    let N : ℕ → Type 0 = λ m. AreWithin m o.sent.items in
    let L : Output → Type 0 = λ z. AreWithin (length c.prepare.new.workers.items) z.sent.items in
    subst L (sym rest) (subst N (sym n) within)

pub returns-in-Ok-clause-settles : goal.returns-in-Ok-clause-settles
returns-in-Ok-clause-settles g c =
    let s : Shown = c.args.self.now in
    let p : Pass = c.args.done in
    let ds : List WorkerShown = c.self.inside.workers.items in
    let k : ℕ = c.worker-number.result in
    let same : sides_of ds ≡ s.sides = ap (λ (x : Shown). x.sides) c.self.view_is in
    let there : k < length ds = worker_there s p c.requires.own ds k c.worker-number.ensures same in
    let shown : sides_of (slice_set ds k c.show-stub.new.self) ≡ sides_of ds = sides_same ds k c.show-stub.new.self c.index_mut.result.now there c.index_mut.ensures.value (ap (λ (x : WorkerShown). x.side) c.show-stub.ensures.state) in
    let many : length (slice_set ds k c.show-stub.new.self) ≡ length ds = as_many (slice_set ds k c.show-stub.new.self) ds shown in
    let many_sides : length ds ≡ length s.sides = sym (sides_length ds) ∙ ap length same in
    let x : c.index_mut.result.now.side ≡ side_at s p.worker = read_side s p c.requires.own ds k c.worker-number.ensures same c.index_mut.result.now c.index_mut.ensures.value in
    let out : (side_at s p.worker).place ≡ Out p.job = out_there s p c.index_mut.result.now.side c.into_parts-stub.result.0.job x c.show-stub.ensures.out (ap (λ (t : Ticket Job). t.job) c.into_parts-stub.ensures.stub) in
    let o : Output = c.into_parts-stub.result.1 in
    let is : IsOutputOf p.worker p.job o = c.into_parts-stub.ensures.output in
    let own = facts.own_side s p c.requires.own in
    let now : sides_of c.prepare.new.workers.items ≡ s.sides = c.prepare.ensures.sides ∙ shown ∙ same in
    let rest : record c.in-Ok.output { emitted = o.emitted } ≡ o = c.in-Ok.ensures.rest in
    let graph : c.graph-2.result.now ≡ s.graph = c.graph-2.ensures ∙ ap (λ (z : Wired). z.graph) c.deref-3.ensures ∙ ap (λ (x : Shown). x.graph) c.self.view_is in
    let place : location_of c.location.result ≡ (event_pointstamp p.job.happening).location = c.location.ensures ∙ ap (λ (x : Pointstamp). x.location) is.place in
    let vertex : c.vertex_at-vertex.result ≡ event_at (shown_graph s.graph) p.job.happening =
    c.vertex_at-vertex.ensures ∙ (λ i. location_vertex (shown_graph (graph i)) (place i)) ∙ event_vertex_is (shown_graph s.graph) p.job.happening in
    let epoch : c.epoch-epoch.result ≡ (event_time p.job.happening).epoch =
    c.epoch-epoch.ensures ∙ ap (λ (t : Time). t.epoch) (c.time.ensures ∙ ap (λ (x : Pointstamp). x.time) is.place ∙ event_time_is p.job.happening) in
    let t : Shown = record {
      graph = c.self.inside.wiring.value.graph;
      inputs = c.self.inside.inputs.items;
      sides = sides_of c.finish-place.new.workers.items;
      emitted = c.emit.new.emitted;
      stopped = c.self.inside.stopped;
    } in
    record {
      out = out;
      output = o;
      is = is;
      state = state_then s t p o c.in-Ok.output k c.vertex_at-vertex.result c.epoch-epoch.result (sides_of c.prepare.new.workers.items)
          (ap (λ (x : Shown). x.graph) c.self.view_is) (ap (λ (x : Shown). x.inputs) c.self.view_is) (ap (λ (x : Shown). x.stopped) c.self.view_is)
          c.finish-place.ensures.sides (c.in-Ok.ensures.ok ∙ ap (λ (x : Shown). with_emitted c.vertex_at-vertex.result c.epoch-epoch.result o.emitted x.emitted) c.self.view_is) now c.worker-number.ensures vertex epoch rest;
      added_are = added_then c.finish-place.new.added.items o c.in-Ok.output rest c.finish-place.ensures.added;
      place_is = c.finish-place.ensures.place ∙ ap (λ (x : Output). x.place) rest ∙ is.place;
    }

pub returns-in-Ok-clause-tells : goal.returns-in-Ok-clause-tells
returns-in-Ok-clause-tells g c =
    let s : Shown = c.args.self.now in
    let p : Pass = c.args.done in
    let ds : List WorkerShown = c.self.inside.workers.items in
    let k : ℕ = c.worker-number.result in
    let same : sides_of ds ≡ s.sides = ap (λ (x : Shown). x.sides) c.self.view_is in
    let there : k < length ds = worker_there s p c.requires.own ds k c.worker-number.ensures same in
    let shown : sides_of (slice_set ds k c.show-stub.new.self) ≡ sides_of ds = sides_same ds k c.show-stub.new.self c.index_mut.result.now there c.index_mut.ensures.value (ap (λ (x : WorkerShown). x.side) c.show-stub.ensures.state) in
    let many : length (slice_set ds k c.show-stub.new.self) ≡ length ds = as_many (slice_set ds k c.show-stub.new.self) ds shown in
    let many_sides : length ds ≡ length s.sides = sym (sides_length ds) ∙ ap length same in
    let x : c.index_mut.result.now.side ≡ side_at s p.worker = read_side s p c.requires.own ds k c.worker-number.ensures same c.index_mut.result.now c.index_mut.ensures.value in
    let out : (side_at s p.worker).place ≡ Out p.job = out_there s p c.index_mut.result.now.side c.into_parts-stub.result.0.job x c.show-stub.ensures.out (ap (λ (t : Ticket Job). t.job) c.into_parts-stub.ensures.stub) in
    let o : Output = c.into_parts-stub.result.1 in
    let is : IsOutputOf p.worker p.job o = c.into_parts-stub.ensures.output in
    let own = facts.own_side s p c.requires.own in
    let now : sides_of c.prepare.new.workers.items ≡ s.sides = c.prepare.ensures.sides ∙ shown ∙ same in
    let rest : record c.in-Ok.output { emitted = o.emitted } ≡ o = c.in-Ok.ensures.rest in
    let graph : c.graph-2.result.now ≡ s.graph = c.graph-2.ensures ∙ ap (λ (z : Wired). z.graph) c.deref-3.ensures ∙ ap (λ (x : Shown). x.graph) c.self.view_is in
    let place : location_of c.location.result ≡ (event_pointstamp p.job.happening).location = c.location.ensures ∙ ap (λ (x : Pointstamp). x.location) is.place in
    let vertex : c.vertex_at-vertex.result ≡ event_at (shown_graph s.graph) p.job.happening =
    c.vertex_at-vertex.ensures ∙ (λ i. location_vertex (shown_graph (graph i)) (place i)) ∙ event_vertex_is (shown_graph s.graph) p.job.happening in
    let epoch : c.epoch-epoch.result ≡ (event_time p.job.happening).epoch =
    c.epoch-epoch.ensures ∙ ap (λ (t : Time). t.epoch) (c.time.ensures ∙ ap (λ (x : Pointstamp). x.time) is.place ∙ event_time_is p.job.happening) in
    let t : Shown = record {
      graph = c.self.inside.wiring.value.graph;
      inputs = c.self.inside.inputs.items;
      sides = sides_of c.finish-place.new.workers.items;
      emitted = c.emit.new.emitted;
      stopped = c.self.inside.stopped;
    } in
    let state = state_then s t p o c.in-Ok.output k c.vertex_at-vertex.result c.epoch-epoch.result (sides_of c.prepare.new.workers.items)
    (ap (λ (x : Shown). x.graph) c.self.view_is) (ap (λ (x : Shown). x.inputs) c.self.view_is) (ap (λ (x : Shown). x.stopped) c.self.view_is)
    c.finish-place.ensures.sides (c.in-Ok.ensures.ok ∙ ap (λ (x : Shown). with_emitted c.vertex_at-vertex.result c.epoch-epoch.result o.emitted x.emitted) c.self.view_is) now c.worker-number.ensures vertex epoch rest in
    let letters = ap (λ (x : Output). counted (total (λ (l : Letter). length l.message.records) x.sent.items)) rest in
    tells_commit (g.V.Views.graph c.args.views.now) (g.V.Views.content c.args.views.now) s c.requires.kept p c.requires.own out o is t c.of_event-sent.result state
    (ap (λ (x : Sent). x.worker) c.of_event-sent.ensures ∙ c.worker-number.ensures)
    (ap (λ (x : Sent). x.vertex) c.of_event-sent.ensures ∙ vertex)
    (ap (λ (x : Sent). x.received) c.of_event-sent.ensures ∙ ap (λ (x : Output). x.received) rest)
    (ap (λ (x : Sent). x.records) c.of_event-sent.ensures ∙ c.of-sends.ensures ∙ ap (λ (ls : List Letter). counted (total (λ (l : Letter). length l.message.records) ls)) c.deref-in-Ok.ensures.value ∙ letters)

pub invariant_of-self-in-Ok : goal.invariant_of-self-in-Ok
invariant_of-self-in-Ok g c =
    c.self.invariant
    ∙ sym (length-set c.self.inside.workers.items c.worker-number.result c.show-stub.new.self)
    ∙ sym (as_many c.prepare.new.workers.items (slice_set c.self.inside.workers.items c.worker-number.result c.show-stub.new.self) c.prepare.ensures.sides)
    ∙ sym (many_settled c.finish-place.new.workers.items c.prepare.new.workers.items c.worker-number.result _ c.in-Ok.output.sent.items c.finish-place.ensures.sides)
