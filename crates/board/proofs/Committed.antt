-- A commit is one step, and keeps what a board keeps.
use Rattle.std.proofs.Common.{◌≡◌, ◌≢◌, ◌⊎◌, inl, inr, ◌<◌, ◌+◌, ℕ, ◌==◌, true, false, List, [], ◌∷◌, length, refl, sym, ap, ◌∙◌, subst, arith, slice_set, slice_index_or, Option, Some, None, length-set}
use Rattle.std.proofs.lemmas.Bool.Decides.{eqb_tells}
use Rattle.semantics.specs.Multiset.{Record, total}
use Rattle.semantics.specs.Time.{at_epoch}
use Rattle.semantics.specs.Kinds.{Role, role}
use Rattle.semantics.specs.Graph.{Graph, vertex, target}
use Rattle.semantics.specs.Could.{Pointstamp}
use Rattle.semantics.specs.Dataflow.{IsDataflow}
use Rattle.graph.specs.Shown.{shown_graph}
use Rattle.machine.specs.World.{Message, Request, Event}
use Rattle.machine.specs.Active.{one_if_same, message_pointstamp, event_pointstamp}
use Rattle.machine.specs.Changes.{parcel_count}
use Rattle.machine.specs.InTransit.{IsGoodEvent}
use Rattle.machine.specs.Processing.{asked, event_vertex, event_time}
use Rattle.machine.specs.Step.{Step}
use Rattle.machine.proofs.Counting.{below_same}
use Rattle.machine.proofs.Engine.{role_output}
use Rattle.vertices.specs.Outs.{records_of}
use Rattle.tokens.specs.declared.rule.Place.{Place}
use Rattle.tokens.specs.declared.rule.Place.TheVariants.{Home, Out}
use Rattle.events.specs.Happenings.{requests_of}
use Rattle.events.specs.Jobs.{Job, Pass}
use Rattle.events.specs.Letters.{sent_to}
use Rattle.events.specs.Outputs.{IsOutputOf, IsDoneFor}
use Rattle.events.specs.declared.work.Output.{Output}
use Rattle.board.specs.WorkerShown.{letters_count, requests_count}
use Rattle.board.specs.Shown.{Shown, Side, Epochs, emitted_by, side_at, side_in, no_side, net, event_at}
use Rattle.board.specs.Showing.{IsOwn, IsSideOf, AreSidesOf, EachShard, OnShard, known, known_shard}
use Rattle.board.specs.Fitting.{FitsPlace, FitsVertex}
use Rattle.vertices.specs.declared.shard.Shard.{Shard}
use Rattle.board.proofs.Shards.{each_back}
use Rattle.board.specs.Steps.{settled, delivered, after_commit, more_at, with_emitted}
use Rattle.board.proofs.Emitting.{emits_with}
use Rattle.board.specs.Kept.{IsKept, Goes}
use Rattle.board.specs.Commits.{IsOf}
use Rattle.board.proofs.Committing.{EndsAt, asks_as, may_commit, shows_commit}
use Rattle.board.proofs.Deliveries.{delivered_at, delivered_length, with_all}
use Rattle.board.proofs.Facts as facts
use Rattle.board.proofs.Keeping.{kept_more}
use Rattle.board.proofs.Mails.{by_workers}
use Rattle.board.proofs.Places.{index_set_here, index_set_other}

room_with : (v e : ℕ) (o : Option (List Record)) (es : List Epochs) → length (with_emitted v e o es) ≡ length es
room_with v e None es = refl
room_with v e (Some b) es = length-set es v (more_at e (b ∷ []) (emitted_by es v))

no_counters : (cs : List ℕ) → length cs ≡ 0 → cs ≡ []
no_counters [] e = refl
no_counters (c ∷ cs) e = absurd (omega (arith, e))

-- an event emits only at an epoch
ends_by : (g : Graph) (workers : ℕ) → IsDataflow g → (e : Event) → IsGoodEvent g e → event_at g e < length g → (role (vertex g (event_at g e)).kind ≡ Role.output) → event_time e ≡ at_epoch (event_time e).epoch
ends_by g workers flows (Event.arrival m) good l out =
    let kind = role_output (vertex g (target g m.edge)).kind out in
    let depth = flows.shaped.flat (target g m.edge) l (inr kind) in
    let none = no_counters m.time.counters (good.fits.1 ∙ depth) in
    λ i. record { epoch = m.time.epoch; counters = none i }
ends_by g workers flows (Event.notification n) good l out = absurd (let z : Role.notified ≡ Role.output = sym good.notified ∙ out in cc)

-- a side of the board with other mail is still one
pub with_mail_of : (s : Shown) (n : ℕ) (x : Side) (ms : List Message) → IsSideOf s n x → IsSideOf s n (with_all x ms)
with_mail_of s n x ms is = record {
  wired = is.wired;
  shards = is.shards;
  own = λ j e. let o = is.own j e in record { wired = o.wired; vertex = o.vertex; away = o.away; others = o.others };
}

-- a worker's side is still one once its event is settled
settled_of : (s : Shown) (n : ℕ) (x : Side) (v : ℕ) (shard : _) (asks : Option Request) → IsSideOf s n x → IsSideOf s n (settled x v shard asks)
settled_of s n x v shard asks is = record {
  wired = is.wired;
  shards = length-set x.shards v (Some shard) ∙ is.shards;
  own = λ j e. absurd (let z : Home ≡ Out j = e in cc);
}

pub sides_put : (s : Shown) (n k : ℕ) (y : Side) → k < length s.sides → AreSidesOf s n → IsSideOf s n y → (i : ℕ) → i < length s.sides → IsSideOf s n (side_in (slice_set s.sides k y) i)
sides_put s n k y lk are is i l = go (eqb_tells i k)
  where
    go : ((i == k) ≡ true) × (i ≡ k) ⊎ ((i == k) ≡ false) × (i ≢ k) → IsSideOf s n (side_in (slice_set s.sides k y) i)
    go (inl (t, q)) = subst (IsSideOf s n) (sym (ap (λ j. side_in (slice_set s.sides k y) j) q ∙ index_set_here s.sides k y no_side lk)) is
    go (inr (t, q)) = subst (IsSideOf s n) (sym (index_set_other s.sides k i y no_side q)) (are i l)

module _ (graph : Graph) (content : Pointstamp → ℕ) (s : Shown) (kept : IsKept graph content s) (p : Pass) (of : IsOf s p) (out : (side_at s p.worker).place ≡ Out p.job) (o : Output) (is : IsOutputOf p.worker p.job o) where
  k : ℕ
  k = p.worker

  there : p.worker < length s.sides
  there = (facts.own_side s p of).0

  own : IsOwn s (side_at s p.worker) p.job
  own = facts.own graph content s kept p.worker there p.job out

  pub done : IsDoneFor (net s) p.worker p.job.happening p.job.before o.shard.value o.sent.items (requests_of o.asked) (records_of o.emitted)
  done = facts.done_here graph content s kept p.worker there p.job out o is

  ends : EndsAt p.job.happening (records_of o.emitted)
  ends = record { at = by done.only }
    where
      by : (records_of o.emitted ≡ []) ⊎ ((net s).role (event_vertex (net s) p.job.happening) ≡ Role.output)
          → (records_of o.emitted ≡ []) ⊎ (event_time p.job.happening ≡ at_epoch (event_time p.job.happening).epoch)
      by (inl none) = inl none
      by (inr role) =
          let v = (facts.net_of graph content s kept).at p.job.happening in
          let e = ends_by (shown_graph s.graph) (length s.sides) kept.flows p.job.happening (facts.good graph content s kept p.worker there p.job out) own.vertex (ap (λ n. (net s).role n) (sym v) ∙ role) in
          inr e

  pub goes_commit : Goes s (Step.commit p.worker p.job.happening (done.out)) (after_commit s p.worker p.job o.shard.value o.sent.items o.emitted o.asked)
  goes_commit = record {
    step = λ w shows. (
      may_commit (net s) s (facts.net_of graph content s kept) w shows p.worker there p.job out own (kept.sides p.worker there).shards o.shard.value o.sent.items o.emitted o.asked done ends kept.room,
      shows_commit (net s) s (facts.net_of graph content s kept) w shows p.worker there p.job out own (kept.sides p.worker there).shards o.shard.value o.sent.items o.emitted o.asked done ends kept.room,
    );
    graph = refl;
    workers = delivered_length o.sent.items (slice_set s.sides p.worker (settled (side_at s p.worker) (event_at (shown_graph s.graph) p.job.happening) o.shard.value o.asked))
        ∙ length-set s.sides p.worker (settled (side_at s p.worker) (event_at (shown_graph s.graph) p.job.happening) o.shard.value o.asked);
    emitted =
        emits_with (event_at (shown_graph s.graph) p.job.happening) (event_time p.job.happening).epoch o.emitted s.emitted (let l = own.vertex in let r = kept.room in omega (arith, l, r));
  }

  sides_then : AreSidesOf (after_commit s p.worker p.job o.shard.value o.sent.items o.emitted o.asked) (length s.sides)
  sides_then i l =
      let y = settled (side_at s p.worker) (event_at (shown_graph s.graph) p.job.happening) o.shard.value o.asked in
      let li : i < length s.sides = omega (arith, l, goes_commit.workers) in
      let one = sides_put s (length s.sides) p.worker y there kept.sides (settled_of s (length s.sides) (side_at s p.worker) (event_at (shown_graph s.graph) p.job.happening) o.shard.value o.asked (kept.sides p.worker there)) i li in
      let two : IsSideOf s (length s.sides) (side_in (delivered (slice_set s.sides p.worker y) o.sent.items) i) =
      subst (IsSideOf s (length s.sides)) (sym (delivered_at o.sent.items (slice_set s.sides p.worker y) i (let n = length-set s.sides p.worker y in omega (arith, li, n)))) (with_mail_of s (length s.sides) (side_in (slice_set s.sides p.worker y) i) (sent_to i o.sent.items) one) in
      record { wired = two.wired; shards = two.shards; own = λ j e. let z = two.own j e in record { wired = z.wired; vertex = z.vertex; away = z.away; others = z.others } }

  fits_then : EachShard (after_commit s p.worker p.job o.shard.value o.sent.items o.emitted o.asked) (FitsPlace s.graph)
  fits_then i u l lu =
      let v : ℕ = event_at (shown_graph s.graph) p.job.happening in
      let y = settled (side_at s p.worker) v o.shard.value o.asked in
      let li : i < length s.sides = omega (arith, l, goes_commit.workers) in
      let A : Place Job → Type 0 = λ x. OnShard (FitsPlace s.graph p.worker v) (known (slice_index_or (side_at s p.worker).shards v None) x) in
      let B : Option Shard → Type 0 = λ x. OnShard (FitsPlace s.graph p.worker v) (known x (Out p.job)) in
      let before : FitsVertex s.graph v p.job.before = subst B own.away (subst A out (kept.fitting p.worker v there own.vertex)) in
      let new : FitsVertex s.graph v o.shard.value = record { kind = done.kind ∙ before.kind; takes = λ port lp. done.takes port _ (before.takes port lp) } in
      let one = each_back s p.worker there (FitsPlace s.graph) (FitsPlace s.graph) v p.job o.shard.value y kept.fitting out (omega (arith, own.vertex, (kept.sides p.worker there).shards)) own.others refl refl new (λ a b z ne h. h) i u li lu in
      let C : Side → Type 0 = λ z. OnShard (FitsPlace s.graph i u) (known_shard z u) in
      subst C (sym (delivered_at o.sent.items (slice_set s.sides p.worker y) i (let n = length-set s.sides p.worker y in omega (arith, li, n)))) one

  pub letters_are : (q : Pointstamp) → letters_count q o.sent.items ≡ parcel_count (net s) p.worker (event_vertex (net s) p.job.happening) ((net s).act (event_vertex (net s) p.job.happening) (event_time p.job.happening)) done.out q
  letters_are q =
      sym (by_workers (length s.sides) (λ m. one_if_same q (message_pointstamp m)) o.sent.items done.sends.within)
      ∙ below_same (length s.sides) _ _ (λ to l. ap (total (λ m. one_if_same q (message_pointstamp m))) (done.sends.each to l))

  pub asks_are : requests_of o.asked ≡ asked (net s) kept.world p.worker p.job.happening
  asks_are = asks_as (net s) s (facts.net_of graph content s kept) kept.world kept.shows p.worker there p.job out own (requests_of o.asked) done.asks

  pub keeps_commit : (graph' : Graph) (content' : Pointstamp → ℕ) → graph' ≡ graph
      → ((q : Pointstamp) → content' q + one_if_same q (event_pointstamp p.job.happening) ≡ letters_count q o.sent.items + requests_count q (requests_of o.asked) + content q)
      → IsKept graph' content' (after_commit s p.worker p.job o.shard.value o.sent.items o.emitted o.asked)
  keeps_commit graph' content' same counts =
      let both = goes_commit.step kept.world kept.shows in
      kept_more graph content s kept (Step.commit p.worker p.job.happening done.out) s.inputs
      (delivered (slice_set s.sides p.worker (settled (side_at s p.worker) (event_at (shown_graph s.graph) p.job.happening) o.shard.value o.asked)) o.sent.items)
      (with_emitted (event_at (shown_graph s.graph) p.job.happening) (event_time p.job.happening).epoch o.emitted s.emitted) s.stopped graph' content' refl (room_with (event_at (shown_graph s.graph) p.job.happening) (event_time p.job.happening).epoch o.emitted s.emitted) goes_commit.workers same sides_then fits_then kept.fed both.0 both.1
      (λ q. order _ _ _ _ _ _ _ (counts q) (letters_are q) (ap (requests_count q) asks_are))
    where
      order : (a r l n c l' n' : ℕ) → a + r ≡ l + n + c → l ≡ l' → n ≡ n' → a + r ≡ c + (l' + n')
      order a r l n c l' n' p q t = omega (arith, p, q, t)
