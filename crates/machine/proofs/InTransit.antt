-- What is in mailboxes, in requests and held by workers fits the graph.
use Rattle.std.proofs.Common.{◌≡◌, ◌≤◌, ◌<◌, ℕ, List, [], ◌∷◌, Some, refl, arith, ap, subst, slice_get, length, true, Bool}
use Rattle.semantics.specs.Multiset.{Record, count}
use Rattle.semantics.specs.Time.{last, turn_count}
use Rattle.semantics.specs.Kinds.{ends_turn}
use Rattle.semantics.specs.Graph.{Graph, vertex, target, in_port}
use Rattle.semantics.specs.Flow.{HasOneFlow}
use Rattle.machine.specs.World.{World, Message, Request, Event, Held}
use Rattle.machine.specs.Active.{sum_below}
use Rattle.machine.specs.Step.{Step}
use Rattle.machine.specs.Engine.{network}
use Rattle.machine.specs.Headline.{IsRunOn}
use Rattle.machine.specs.InTransit.{IsGoodMessage, IsGoodRequest, IsGoodEvent}
use Rattle.semantics.proofs.OneFlow.{one_flow}
use Rattle.semantics.proofs.RankRises.{rises_from_nested}
use Rattle.machine.proofs.Counting.{below_one, total_one, eqb_self}
use Rattle.machine.proofs.Engine.{place_at}
use Rattle.machine.proofs.Kept.{History, Kept, GoodMessage, GoodRequest, GoodEvent, GoodHeld, carried, held_records, under_way, some}
use Rattle.machine.proofs.Places.{same_time_self}
use Rattle.machine.proofs.Runs.{keep_reached}
use Rattle.machine.proofs.Sending.{each_at}
use Rattle.machine.proofs.Tracking.{laws, have_flows, kept}
use Rattle.machine.proofs.Notifications.{some_row}

not_empty : (records : List Record) → 0 < some records → 0 < length records
not_empty [] x = absurd (omega arith)
not_empty (r ∷ records) x = omega arith

module _ (g : Graph) (workers : ℕ) (steps : List Step) (w : World) (is : IsRunOn g workers steps w) where
  pub keeps : (h : History) × Kept (network g workers) w h
  keeps = keep_reached (network g workers) (laws g workers steps w is) (have_flows g workers steps w is) w (steps, is.run)

  -- what is under way to a worker was sent
  pub way_part : (k : ℕ) (m : Message) → k < workers → GoodMessage (network g workers) k m → ((r : Record) → carried m.edge m.time r m ≤ under_way w m.edge m.time r k) → (r : Record) → count r m.records ≤ count r (w.sent m.edge m.time)
  way_part k m l good there r =
      let a = keeps.1.balance m.edge m.time r good.0 in
      let b : under_way w m.edge m.time r k ≤ sum_below workers (under_way w m.edge m.time r) = below_one workers k (under_way w m.edge m.time r) l in
      let c = there r in
      let d : carried m.edge m.time r m ≡ count r m.records = rw (eqb_self m.edge) (rw (same_time_self m.time) refl) in
      omega arith

  within : (k : ℕ) (m : Message) → GoodMessage (network g workers) k m → ((r : Record) → count r m.records ≤ count r (w.sent m.edge m.time)) → ends_turn (vertex g (target g m.edge)).kind ≡ true → last m.time.counters < turn_count
  within k m good sent ends = go (last m.time.counters) turn_count (λ over.
      let x = some_row m.records good.1 in
      let a = sent x.0 in
      let part = (kept g workers steps w is one.flow one.is_only.is_flow).part m.edge m.time good.0 good.3 in
      let none = is.flows.quiet.quiet w.fed one.flow one.is_only.is_flow (target g m.edge) (in_port g m.edge) m.time (place_at g is.flows workers is.some m.edge m.time good.0 good.3) ends over in
      let p = part.within x.0 in
      let n = none.counts x.0 in
      omega arith)
    where
      one : HasOneFlow g w.fed
      one = one_flow g is.flows.loops is.flows.wired (rises_from_nested g is.flows.loops is.flows.nested is.flows.wired) w.fed

      go : (a b : ℕ) → (b ≤ a → ⊥) → a < b
      go a b f = grind (arith, f)

  good_message : (k : ℕ) (m : Message) → GoodMessage (network g workers) k m → ((r : Record) → count r m.records ≤ count r (w.sent m.edge m.time)) → IsGoodMessage g m
  good_message k m good sent = record { fits = good.3; some = not_empty m.records good.1; within = within k m good sent }

  good_request : (n : Request) → GoodRequest (network g workers) n → IsGoodRequest g n
  good_request n good = record { fits = good.1; notified = good.0 }

  mail_good : (k at : ℕ) (m : Message) → k < workers → slice_get (w.mail k) at ≡ Some m → GoodMessage (network g workers) k m
  mail_good k at m l there = each_at (GoodMessage (network g workers) k) (w.mail k) at m (keeps.1.good_mail k l) there

  -- what is in a mailbox was sent
  pub mail_sent : (k at : ℕ) (m : Message) → k < workers → slice_get (w.mail k) at ≡ Some m → (r : Record) → count r m.records ≤ count r (w.sent m.edge m.time)
  mail_sent k at m l there = way_part k m l (mail_good k at m l there) (λ r. let c = total_one (carried m.edge m.time r) (w.mail k) at m there in omega arith)

  pub held_good : (k : ℕ) (up : Bool) (event : Event) → k < workers → w.held k ≡ Held.holding up event → GoodEvent (network g workers) k event
  held_good k up event l there = subst (GoodHeld (network g workers) k) there (keeps.1.good_held k l)

  -- what is held was sent
  pub held_sent : (k : ℕ) (up : Bool) (m : Message) → k < workers → w.held k ≡ Held.holding up (Event.arrival m) → (r : Record) → count r m.records ≤ count r (w.sent m.edge m.time)
  held_sent k up m l there = way_part k m l (held_good k up (Event.arrival m) l there) (λ r. let c : held_records m.edge m.time r (w.held k) ≡ carried m.edge m.time r m = ap (held_records m.edge m.time r) there in omega arith)

  pub messages : (k at : ℕ) (m : Message) → k < workers → slice_get (w.mail k) at ≡ Some m → IsGoodMessage g m
  messages k at m l there = good_message k m (mail_good k at m l there) (mail_sent k at m l there)

  pub requests : (k at : ℕ) (n : Request) → k < workers → slice_get (w.requests k) at ≡ Some n → IsGoodRequest g n
  requests k at n l there = good_request n (each_at (GoodRequest (network g workers)) (w.requests k) at n (keeps.1.good_requests k l) there)

  pub held : (k : ℕ) (up : Bool) (event : Event) → k < workers → w.held k ≡ Held.holding up event → IsGoodEvent g event
  held k up (Event.arrival m) l there = good_message k m (held_good k up (Event.arrival m) l there) (held_sent k up m l there)
  held k up (Event.notification n) l there = good_request n (held_good k up (Event.notification n) l there)
