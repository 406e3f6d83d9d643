use Rattle.std.proofs.Common.{◌≡◌, ◌≤◌, ◌∙◌, All, List, [], ◌∷◌, arith, subst, sym}
use Rattle.std.proofs.lemmas.List.{map-id}
use Rattle.std.proofs.lemmas.List.Elements.{All-append}
use Rattle.std.proofs.lemmas.Iterator.Consumers.{YieldsList-end}
use Rattle.std.proofs.lemmas.Iterator.Adapters.{YieldsList-from_vec}
use Rattle.workers.specs.Held.{HeldShown}
use Rattle.workers.specs.Tokens.{Token}
use Rattle.workers.proofs.Ones.{one}
use Rattle.workers.proofs.report.observe_all_received.Goals as goal

pub loop-seat-preserved : goal.loop-seat-preserved
loop-seat-preserved g c = (
  c.observe_received.ensures.held ∙ c.loop-seat.invariant.0,
  All-append (λ (s : Token). s.number ≤ c.args.held.now.received) c.loop-seat.yielded (c.in-Some.seat ∷ []) c.loop-seat.invariant.1
      (one (λ (s : Token). s.number ≤ c.args.held.now.received) c.in-Some.seat (subst (λ (h : HeldShown). c.in-Some.seat.number ≤ h.received) c.loop-seat.invariant.0 c.observe_received.ensures.seat)),
)

pub returns-clause-seats : goal.returns-clause-seats
returns-clause-seats g c =
    let s = c.into_iter-seat-iterator.result in
    let e = YieldsList-end (YieldsList-from_vec {s = s} c.args.seats.items c.into_iter-seat-iterator.ensures.into_iter_gives.0 (omega (arith, c.into_iter-seat-iterator.ensures.into_iter_gives.1, c.args.seats.ok.0))) c.loop-seat.yielded c.loop-seat.seat-iterator c.loop-seat.yielded_by c.next.result c.next.new.self c.in-None.is c.next.ensures.steps in
    let same : c.loop-seat.yielded ≡ c.args.seats.items = sym (map-id c.loop-seat.yielded) ∙ e.0 in
    subst (λ (l : List Token). All (λ (t : Token). t.number ≤ c.args.held.now.received) l) same c.loop-seat.invariant.1
