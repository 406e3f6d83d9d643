-- From what the code of a commit knows to what it promises.
use Rattle.std.proofs.Common.{◌≡◌, ◌<◌, ◌+◌, ℕ, List, length, refl, sym, ap, ◌∙◌, subst, arith, slice_set, slice_index_or, length-set}
use Rattle.atomic_table.specs.Seated.{TableId}
use Rattle.semantics.specs.Graph.{Graph}
use Rattle.semantics.specs.Could.{Pointstamp, Location, IsTimeAt}
use Rattle.semantics.specs.Time.{Time}
use Rattle.graph.specs.Locations.{IsIn}
use Rattle.graph.specs.Shown.{shown_graph}
use Rattle.machine.specs.World.{Event}
use Rattle.machine.specs.Active.{event_pointstamp}
use Rattle.machine.specs.Processing.{event_time}
use Rattle.views.specs.Content.{times_in}
use Rattle.tokens.specs.declared.rule.Place.TheVariants.{Out}
use Rattle.events.specs.Happenings.{requests_of}
use Rattle.events.specs.Jobs.{Job, Pass}
use Rattle.events.specs.declared.letter.Letter.{Letter}
use Rattle.events.specs.declared.work.Output.{Output}
use Rattle.board.proofs.Deliveries.{delivered_length}
use Rattle.board.specs.WorkerShown.{WorkerShown, sides_of, letters_count, requests_count}
use Rattle.board.specs.Shown.{Shown, Side, side_at, side_in, event_at, location_vertex}
use Rattle.board.specs.Steps.{delivered, settled, with_emitted, after_commit}
use Rattle.board.specs.Commits.{IsOf}
use Rattle.board.proofs.Facts.{own_side}
use Rattle.board.proofs.MailboxRoom.{sides_length, side_read}

pub is_in : (g : Graph) (l : Location) (t : Time) → IsTimeAt g l t → IsIn g l
is_in g (Location.edge e) t h = h.0
is_in g (Location.vertex v) t h = h.0

pub event_vertex_is : (g : Graph) (e : Event) → location_vertex g (event_pointstamp e).location ≡ event_at g e
event_vertex_is g (Event.arrival m) = refl
event_vertex_is g (Event.notification n) = refl

pub event_time_is : (e : Event) → (event_pointstamp e).time ≡ event_time e
event_time_is (Event.arrival m) = refl
event_time_is (Event.notification n) = refl

module _ (s : Shown) (p : Pass) (own : IsOf s p) (ds : List WorkerShown) (k : ℕ) (at : k ≡ p.worker) (same : sides_of ds ≡ s.sides) where
  pub worker_there : k < length ds
  worker_there = let o = own_side s p own in let a = sides_length ds in let b = ap length same in omega (arith, o.0, at, a, b)

  pub side_there : side_in (sides_of ds) k ≡ side_at s p.worker
  side_there = λ i. side_in (same i) (at i)

  pub read_side : (x : WorkerShown) → x ≡ slice_index_or ds k x → x.side ≡ side_at s p.worker
  read_side x e = sym (side_read ds k x worker_there e) ∙ side_there

  pub own_table : (t : TableId) → t ≡ p.table → t ≡ (side_in (sides_of ds) k).table
  own_table t e = e ∙ sym (own_side s p own).1 ∙ sym (ap (λ (x : Side). x.table) side_there)

-- what the code leaves is what the definition describes
pub state_then : (s t : Shown) (p : Pass) (o o' : Output) (k v e : ℕ) (xs : List Side) → t.graph ≡ s.graph → t.inputs ≡ s.inputs → t.stopped ≡ s.stopped
    → t.sides ≡ delivered (slice_set xs k (settled (side_in xs k) v o'.shard.value o'.asked)) o'.sent.items → t.emitted ≡ with_emitted v e o.emitted s.emitted
    → xs ≡ s.sides → k ≡ p.worker → v ≡ event_at (shown_graph s.graph) p.job.happening → e ≡ (event_time p.job.happening).epoch → record o' { emitted = o.emitted } ≡ o
    → t ≡ after_commit s p.worker p.job o.shard.value o.sent.items o.emitted o.asked
state_then s t p o o' k v e xs graph inputs stopped sides emitted ex ek ev ee rest =
    let all : t.sides ≡ delivered (slice_set s.sides p.worker (settled (side_at s p.worker) (event_at (shown_graph s.graph) p.job.happening) o.shard.value o.asked)) o.sent.items =
    sides ∙ (λ i. delivered (slice_set (ex i) (ek i) (settled (side_in (ex i) (ek i)) (ev i) (rest i).shard.value (rest i).asked)) (rest i).sent.items) in
    let out : t.emitted ≡ with_emitted (event_at (shown_graph s.graph) p.job.happening) (event_time p.job.happening).epoch o.emitted s.emitted = emitted ∙ (λ i. with_emitted (ev i) (ee i) o.emitted s.emitted) in
    λ i. record { graph = graph i; inputs = inputs i; sides = all i; emitted = out i; stopped = stopped i }

pub added_then : (added : List Pointstamp) (o o' : Output) → record o' { emitted = o.emitted } ≡ o
    → ((q : Pointstamp) → times_in added q ≡ letters_count q o'.sent.items + requests_count q (requests_of o'.asked))
    → (q : Pointstamp) → times_in added q ≡ letters_count q o.sent.items + requests_count q (requests_of o.asked)
added_then added o o' rest counts q =
    let P : Output → Type 0 = λ x. times_in added q ≡ letters_count q x.sent.items + requests_count q (requests_of x.asked) in
    subst P rest (counts q)

pub out_there : (s : Shown) (p : Pass) (x : Side) (j : Job) → x ≡ side_at s p.worker → x.place ≡ Out j → j ≡ p.job → (side_at s p.worker).place ≡ Out p.job
out_there s p x j e h q = sym (ap (λ (z : Side). z.place) e) ∙ h ∙ ap Out q

pub many_delivered : (ds es : List WorkerShown) (os : List Letter) → sides_of ds ≡ delivered (sides_of es) os → length ds ≡ length es
many_delivered ds es os e = sym (sides_length ds) ∙ ap length e ∙ delivered_length os (sides_of es) ∙ sides_length es

pub many_settled : (ds es : List WorkerShown) (k : ℕ) (y : Side) (os : List Letter) → sides_of ds ≡ delivered (slice_set (sides_of es) k y) os → length ds ≡ length es
many_settled ds es k y os e = sym (sides_length ds) ∙ ap length e ∙ delivered_length os (slice_set (sides_of es) k y) ∙ length-set (sides_of es) k y ∙ sides_length es
