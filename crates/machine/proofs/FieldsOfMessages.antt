-- If what is fed has its input's arity, the records at each port have the port's arity.
use Rattle.std.proofs.Common.{◌≡◌, ◌⊎◌, ◌≤◌, ◌<◌, ◌∙◌, ◌+◌, ℕ, Bool, List, Some, sym, ap, subst, arith, length, slice_get}
use Rattle.semantics.specs.Multiset.{Record, count}
use Rattle.semantics.specs.Time.{Time, at_epoch}
use Rattle.semantics.specs.Kinds.{Kind, Role, role}
use Rattle.semantics.specs.Graph.{Graph, vertex, source, edge_count, target, in_port, edge_into, edge_source}
use Rattle.semantics.specs.Flow.{HasOneFlow}
use Rattle.semantics.specs.Could.{Location, IsTimeAt}
use Rattle.semantics.specs.PortArity.{HaveFields, PortsFit, IsTyped}
use Rattle.semantics.proofs.EdgeNumbers.{into}
use Rattle.semantics.proofs.FieldsKept.{dataflow_fields}
use Rattle.semantics.proofs.RankRises.{dataflow_one_flow}
use Rattle.machine.specs.World.{World, Message, Event, Held}
use Rattle.machine.specs.Active.{sum_below}
use Rattle.machine.specs.Step.{Step}
use Rattle.machine.specs.Headline.{IsRunOn}
use Rattle.machine.proofs.Counting.{below_one}
use Rattle.machine.proofs.Engine.{place_at, output_is, network_is}
use Rattle.machine.proofs.InTransit.{keeps, messages, held, mail_sent, held_sent}
use Rattle.machine.proofs.Kept.{under_way}
use Rattle.machine.proofs.Tracking.{kept}

-- a part of records of one arity
part_fields : (n : ℕ) (xs ys : List Record) → ((r : Record) → count r xs ≤ count r ys) → HaveFields n ys → HaveFields n xs
part_fields n xs ys part fields r l = fields r (let p = part r in omega arith)

module _ (g : Graph) (workers : ℕ) (steps : List Step) (w : World) (is : IsRunOn g workers steps w) (arity : ℕ → ℕ) (typed : IsTyped g arity)
    (given : (v epoch : ℕ) → v < length g → (vertex g v).kind ≡ Kind.input → HaveFields (arity v) (w.fed v epoch)) where
  one : HasOneFlow g w.fed
  one = dataflow_one_flow g is.flows w.fed

  edge_fields : (e : ℕ) (t : Time) → e < edge_count g → IsTimeAt g (Location.edge e) t → HaveFields (arity (edge_source g e).vertex) (one.flow (target g e) (in_port g e) t)
  edge_fields e t l fits = dataflow_fields g is.flows arity typed w.fed given one.flow one.is_only.is_flow (target g e) (in_port g e) t (place_at g is.flows workers is.some e t l fits)

  pub sent_fields : (e : ℕ) (t : Time) → e < edge_count g → IsTimeAt g (Location.edge e) t → HaveFields (arity (edge_source g e).vertex) (w.sent e t)
  sent_fields e t l fits =
      part_fields (arity (edge_source g e).vertex) (w.sent e t) (one.flow (target g e) (in_port g e) t)
      ((kept g workers steps w is one.flow one.is_only.is_flow).part e t l fits).within (edge_fields e t l fits)

  pub mail_fields : (k at : ℕ) (m : Message) → k < workers → slice_get (w.mail k) at ≡ Some m → HaveFields (arity (edge_source g m.edge).vertex) m.records
  mail_fields k at m l there =
      let fits = (messages g workers steps w is k at m l there).fits in
      part_fields (arity (edge_source g m.edge).vertex) m.records (w.sent m.edge m.time) (mail_sent g workers steps w is k at m l there) (sent_fields m.edge m.time fits.0 fits)

  pub held_fields : (k : ℕ) (up : Bool) (m : Message) → k < workers → w.held k ≡ Held.holding up (Event.arrival m) → HaveFields (arity (edge_source g m.edge).vertex) m.records
  held_fields k up m l there =
      let fits = (held g workers steps w is k up (Event.arrival m) l there).fits in
      part_fields (arity (edge_source g m.edge).vertex) m.records (w.sent m.edge m.time) (held_sent g workers steps w is k up m l there) (sent_fields m.edge m.time fits.0 fits)

  pub absorbed_fields : (k v port : ℕ) (t : Time) → k < workers → port < length (vertex g v).ins → IsTimeAt g (Location.vertex v) t
      → (role (vertex g v).kind ≡ Role.stateful) ⊎ (role (vertex g v).kind ≡ Role.notified) → HaveFields (arity (source g v port).vertex) (w.absorbed k v port t)
  absorbed_fields k v port t l lp fits keyed r some =
      let law = network_is g is.flows workers is.some in
      let x = keeps g workers steps w is in
      let e : ℕ = edge_into g v port in
      let i = into g v port lp in
      let a : count r (w.absorbed k v port t) ≡ count r (x.0.done k e t) = ap (count r) (x.1.shards k v port t l lp keyed) in
      let b : count r (x.0.done k e t) ≤ sum_below workers (λ j. count r (x.0.done j e t)) = below_one workers k (λ j. count r (x.0.done j e t)) l in
      let c : count r (w.sent e t) ≡ sum_below workers (λ j. count r (x.0.done j e t)) + sum_below workers (under_way w e t r) = x.1.balance e t r i.edge in
      let f : length r ≡ arity (edge_source g e).vertex = sent_fields e t i.edge (law.fits_into v port t lp fits) r (omega arith) in
      f ∙ ap (λ y. arity (source g y (in_port g e)).vertex) i.vertex ∙ ap (λ y. arity (source g v y).vertex) i.port

  pub emitted_fields : (v epoch : ℕ) → v < length g → (vertex g v).kind ≡ Kind.output → HaveFields (arity v) (w.emitted v epoch)
  emitted_fields v epoch known o r some =
      let law = network_is g is.flows workers is.some in
      let out = output_is g is.flows workers is.some v known o in
      let e : ℕ = edge_into g v 0 in
      let i = into g v 0 out.1 in
      let a : count r (w.emitted v epoch) ≤ count r (one.flow (target g e) (in_port g e) (at_epoch epoch)) = ((kept g workers steps w is one.flow one.is_only.is_flow).emitted_part v epoch out).within r in
      let f : length r ≡ arity (edge_source g e).vertex = edge_fields e (at_epoch epoch) i.edge (law.fits_into v 0 (at_epoch epoch) out.1 (law.fits_output v epoch out)) r (omega arith) in
      let p : PortsFit Kind.output (λ j. arity (source g v j).vertex) (arity v) = subst (λ (k : Kind). PortsFit k (λ j. arity (source g v j).vertex) (arity v)) o (typed.ports v known) in
      f ∙ ap (λ y. arity (source g y (in_port g e)).vertex) i.vertex ∙ ap (λ y. arity (source g v y).vertex) i.port ∙ sym p
