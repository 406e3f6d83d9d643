-- What is known of an event that a board handed out.
use Rattle.std.proofs.Common.{◌≡◌, ◌<◌, ℕ, zero, suc, Bool, true, false, cond, List, [], ◌∷◌, length, map, refl, sym, ap, ◌∙◌, subst, arith, slice_get, Option, Some, None, IfSome}
use Rattle.atomic_table.specs.Seated.{TableId}
use Rattle.semantics.specs.Graph.{Graph}
use Rattle.semantics.specs.Could.{Pointstamp, Location, IsTimeAt}
use Rattle.graph.specs.Shown.{shown_graph}
use Rattle.machine.specs.World.{World, Request, Event, Held}
use Rattle.machine.specs.Active.{event_pointstamp, IsActive}
use Rattle.machine.specs.InTransit.{IsGoodEvent}
use Rattle.machine.specs.Headline.{IsRunOn}
use Rattle.machine.specs.Processing.{asked, event_vertex, event_time}
use Rattle.machine.proofs.InTransit as transit
use Rattle.machine.proofs.Tracking.{active_counts}
use Rattle.vertices.specs.Outs.{records_of}
use Rattle.tokens.specs.declared.rule.Place.TheVariants.{Out}
use Rattle.events.specs.Happenings.{requests_of}
use Rattle.events.specs.Jobs.{Job, Pass}
use Rattle.events.specs.Outputs.{IsOutputOf, IsDoneFor}
use Rattle.events.specs.Wired.{Wired, network_of}
use Rattle.events.specs.declared.work.Output.{Output}
use Rattle.board.specs.Shown.{Shown, Side, side_at, side_in, net, event_at, held_of}
use Rattle.board.specs.Showing.{IsOwn}
use Rattle.board.specs.WorkerShown.{AreAtEdges, AreWithin}
use Rattle.board.specs.Kept.{IsKept}
use Rattle.board.specs.Commits.{IsOf}
use Rattle.board.proofs.Committing.{IsNetOf, asks_as}
use Rattle.board.proofs.Later.{comes, later}
use Rattle.board.proofs.Still.{reads_same}

pub net_of : (graph : Graph) (content : Pointstamp → ℕ) (s : Shown) → IsKept graph content s → IsNetOf (net s) s
net_of graph content s kept = record {
  workers = refl;
  at = at;
  of_net = λ w k v x h. h;
  to_net = λ w k v x h. h;
  reads = reads_same (shown_graph s.graph) (length s.sides);
  comes = comes graph content s kept;
  later = later graph content s kept;
}
  where
    at : (e : Event) → event_vertex (net s) e ≡ event_at (shown_graph s.graph) e
    at (Event.arrival m) = refl
    at (Event.notification n) = refl

at_table : (xs : List Side) (k : ℕ) (t : TableId) → slice_get (map (λ (x : Side). x.table) xs) k ≡ Some t → (k < length xs) × ((side_in xs k).table ≡ t)
at_table [] k t e = absurd (cc)
at_table (x ∷ xs) zero t e = (omega arith, cc)
at_table (x ∷ xs) (suc k) t e = let r = at_table xs k t e in (omega (arith, r.0), r.1)

pub own_side : (s : Shown) (p : Pass) → IsOf s p → (p.worker < length s.sides) × ((side_at s p.worker).table ≡ p.table)
own_side s p own = at_table s.sides p.worker p.table own

asks_one : (r n : Request) (b : Bool) → r ∷ [] ≡ cond b (n ∷ []) [] → r ≡ n
asks_one r n true e = cc
asks_one r n false e = absurd cc

module _ (graph : Graph) (content : Pointstamp → ℕ) (s : Shown) (kept : IsKept graph content s) where
  pub run_on : IsRunOn (shown_graph s.graph) (length s.sides) kept.steps kept.world
  run_on = record { flows = kept.flows; some = kept.some; run = kept.run }

  module _ (k : ℕ) (there : k < length s.sides) (j : Job) (out : (side_at s k).place ≡ Out j) where
    pub held_there : kept.world.held k ≡ Held.holding false j.happening
    held_there = kept.shows.held k there ∙ ap held_of out

    pub good : IsGoodEvent (shown_graph s.graph) j.happening
    good = transit.held (shown_graph s.graph) (length s.sides) kept.steps kept.world run_on k false j.happening there held_there

    pub own : IsOwn s (side_at s k) j
    own = (kept.sides k there).own j out

    pub wired_here : j.wired ≡ record { graph = s.graph; workers = length s.sides }
    wired_here = own.wired ∙ (kept.sides k there).wired

    pub located : IsTimeAt (shown_graph s.graph) (event_pointstamp j.happening).location (event_pointstamp j.happening).time
    located = by j.happening good
      where
        by : (e : Event) → IsGoodEvent (shown_graph s.graph) e → IsTimeAt (shown_graph s.graph) (event_pointstamp e).location (event_pointstamp e).time
        by (Event.arrival m) h = h.fits
        by (Event.notification n) h = h.fits

    -- the graph has the location and the time of a request at the event's vertex and time
    pub request_located : IsTimeAt (shown_graph s.graph) (Location.vertex (event_at (shown_graph s.graph) j.happening)) (event_time j.happening)
    request_located = by j.happening own.vertex good
      where
        by : (e : Event) → event_at (shown_graph s.graph) e < length (shown_graph s.graph) → IsGoodEvent (shown_graph s.graph) e → IsTimeAt (shown_graph s.graph) (Location.vertex (event_at (shown_graph s.graph) e)) (event_time e)
        by (Event.arrival m) l h = (l, h.fits.1)
        by (Event.notification n) l h = h.fits

    pub vertex_there : event_at (shown_graph s.graph) j.happening < length (side_at s k).shards
    vertex_there = omega (arith, own.vertex, (kept.sides k there).shards)

    pub active_there : 0 < content (event_pointstamp j.happening)
    active_there =
        let a = (active_counts (shown_graph s.graph) kept.flows (length s.sides) kept.some kept.world (event_pointstamp j.happening)).0 (IsActive.of_held k false j.happening there held_there) in
        omega (arith, a, kept.tracked (event_pointstamp j.happening))

    module _ (o : Output) (is : IsOutputOf k j o) where
      pub done_here : IsDoneFor (net s) k j.happening j.before o.shard.value o.sent.items (requests_of o.asked) (records_of o.emitted)
      done_here = let P : Wired → Type 0 = λ x. IsDoneFor (network_of x) k j.happening j.before o.shard.value o.sent.items (requests_of o.asked) (records_of o.emitted) in subst P wired_here is.done

      pub within_here : AreWithin (length s.sides) o.sent.items
      within_here = done_here.sends.within

      pub edges_here : AreAtEdges graph o.sent.items
      edges_here = let P : Graph → Type 0 = λ x. AreAtEdges x o.sent.items in subst P (sym kept.same) done_here.sends.fits

      asks_here : (event : Event) (w : World) → event_at (shown_graph s.graph) event ≡ event_at (shown_graph s.graph) j.happening → event_time event ≡ event_time j.happening
          → (a : Option Request) → requests_of a ≡ asked (net s) w k event → IfSome a (λ r. IsTimeAt graph (Location.vertex r.vertex) r.time)
      asks_here event w v t None e = tt
      asks_here (Event.notification n) w v t (Some r) e = absurd cc
      asks_here (Event.arrival m) w v t (Some r) e =
          let same : r ≡ record { vertex = event_at (shown_graph s.graph) (Event.arrival m); time = m.time } = asks_one r _ _ e in
          let P : Request → Type 0 = λ x. IsTimeAt graph (Location.vertex x.vertex) x.time in
          let Q : Graph → Type 0 = λ x. IsTimeAt x (Location.vertex (event_at (shown_graph s.graph) (Event.arrival m))) m.time in
          subst P (sym same) (subst Q (sym kept.same) (let R : ℕ → Type 0 = λ x. IsTimeAt (shown_graph s.graph) (Location.vertex x) m.time in
          subst R (sym v) (let S : _ → Type 0 = λ x. IsTimeAt (shown_graph s.graph) (Location.vertex (event_at (shown_graph s.graph) j.happening)) x in subst S (sym t) request_located)))

      pub asked_here : IfSome o.asked (λ r. IsTimeAt graph (Location.vertex r.vertex) r.time)
      asked_here =
          asks_here j.happening kept.world refl refl o.asked
          (asks_as (net s) s (net_of graph content s kept) kept.world kept.shows k there j out own (requests_of o.asked) done_here.asks)
