-- From what the code of a claim knows to what it promises.
use Rattle.std.proofs.Common.{◌≡◌, ◌<◌, ℕ, List, length, refl, sym, ap, ◌∙◌, subst, arith, slice_get, slice_set, slice_index_or, remove, Some, None}
use Rattle.graph.specs.Shown.{shown_graph}
use Rattle.machine.specs.World.{Message, Request, Event}
use Rattle.events.specs.Jobs.{Job, Pass}
use Rattle.board.specs.WorkerShown.{WorkerShown, sides_of}
use Rattle.board.specs.Shown.{Shown, Side, side_at, side_in, event_at}
use Rattle.board.specs.Steps.{out_with}
use Rattle.board.specs.Claims.{IsTaken, HandsMessage, HandsRequest}
use Rattle.board.proofs.MailboxRoom.{sides_length, side_read, sides_change}

module _ (s : Shown) (ds : List WorkerShown) (same : sides_of ds ≡ s.sides) (k : ℕ) (there : k < length s.sides) where
  pub worker_there : k < length ds
  worker_there = let a = sides_length ds in let b = ap length same in omega (arith, there, a, b)

  pub read_at : (x : WorkerShown) → x ≡ slice_index_or ds k x → x.side ≡ side_at s k
  read_at x e = sym (side_read ds k x worker_there e) ∙ ap (λ xs. side_in xs k) same

  module _ (y d : WorkerShown) (read : y ≡ slice_index_or ds k y) (v at : ℕ) (j : Job) (p : Pass) (t : Shown)
      (pass : p ≡ record { worker = k; table = y.side.table; job = j }) (wired : j.wired ≡ y.side.wired)
      (shard : slice_index_or y.side.shards v None ≡ Some j.before) (vertex : v ≡ event_at (shown_graph s.graph) j.happening)
      (graph : t.graph ≡ s.graph) (inputs : t.inputs ≡ s.inputs) (emitted : t.emitted ≡ s.emitted) (stopped : t.stopped ≡ s.stopped)
      (sides : t.sides ≡ sides_of (slice_set ds k d)) where
    taken : IsTaken s k (record { worker = k; table = y.side.table; job = j })
    taken = record {
      worker = refl;
      table = ap (λ (z : Side). z.table) (read_at y read);
      wired = wired ∙ ap (λ (z : Side). z.wired) (read_at y read);
      shard = sym (λ i. slice_index_or (read_at y read i).shards (vertex i) None) ∙ shard;
    }

    pub hands_message : (m : Message) → slice_get y.side.mail at ≡ Some m → j.happening ≡ Event.arrival m
        → d.side ≡ out_with (record y.side { mail = remove y.side.mail at }) v j → HandsMessage s t k at p
    hands_message m got happening new =
        let all : t.sides ≡ slice_set s.sides k (out_with (record (side_at s k) { mail = remove (side_at s k).mail at }) (event_at (shown_graph s.graph) j.happening) j) =
        sides ∙ sides_change ds k d y (λ (x : Side). out_with (record x { mail = remove x.mail at }) v j) worker_there read new
        ∙ (λ i. slice_set (same i) k (out_with (record (side_in (same i) k) { mail = remove (side_in (same i) k).mail at }) (vertex i) j)) in
        subst (HandsMessage s t k at) (sym pass) (record {
          message = m;
          got = ap (λ (z : Side). slice_get z.mail at) (sym (read_at y read)) ∙ got;
          happening = happening;
          taken = taken;
          state = λ i. record { graph = graph i; inputs = inputs i; sides = all i; emitted = emitted i; stopped = stopped i };
        })

    pub hands_request : (r : Request) → slice_get y.side.requests at ≡ Some r → j.happening ≡ Event.notification r
        → d.side ≡ out_with (record y.side { requests = remove y.side.requests at }) v j → HandsRequest s t k at p
    hands_request r got happening new =
        let all : t.sides ≡ slice_set s.sides k (out_with (record (side_at s k) { requests = remove (side_at s k).requests at }) (event_at (shown_graph s.graph) j.happening) j) =
        sides ∙ sides_change ds k d y (λ (x : Side). out_with (record x { requests = remove x.requests at }) v j) worker_there read new
        ∙ (λ i. slice_set (same i) k (out_with (record (side_in (same i) k) { requests = remove (side_in (same i) k).requests at }) (vertex i) j)) in
        subst (HandsRequest s t k at) (sym pass) (record {
          request = r;
          got = ap (λ (z : Side). slice_get z.requests at) (sym (read_at y read)) ∙ got;
          happening = happening;
          taken = taken;
          state = λ i. record { graph = graph i; inputs = inputs i; sides = all i; emitted = emitted i; stopped = stopped i };
        })
