use Rattle.std.proofs.Common.{◌≡◌, ◌<◌, ℕ, List, true, false, length, sym, ap, ◌∙◌, subst, arith, slice_get, slice_index, Some, Result, Ok, Err, OnErr}
use Rattle.arrayvec.specs.ArrayVec.{ArrayVec}
use Rattle.machine.specs.World.{Request}
use Rattle.views.specs.Waiting.{IsSeenBy}
use Rattle.board.specs.Deliverable.{IsBlocked, IsDeliverable, StandsBefore}
use Rattle.board.proofs.Frontiers.{blocked_next, each_pushed, stands_blocked}
use Rattle.views.proofs.Contents.{got_at}
use Rattle.board.proofs.Places.{get_index}
use Rattle.board.proofs.frontier.first_seen.Goals as goal

pub may_deliver-requires-clause-known : goal.may_deliver-requires-clause-known
may_deliver-requires-clause-known g c =
    let r : Request = c.get-request.result.now in
    c.requires.known c.loop-place.place r (got_at c.args.requests.now.messages c.loop-place.place r (omega (arith, c.loop-place-test.true, c.len-place-end.ensures)) c.get-request.ensures)

pub returns-then-may_deliver-clause-some : goal.returns-then-may_deliver-clause-some
returns-then-may_deliver-clause-some g c =
    let r : Request = c.get-request.result.now in
    (r, got_at c.args.requests.now.messages c.loop-place.place r (omega (arith, c.loop-place-test.true, c.len-place-end.ensures)) c.get-request.ensures, c.may_deliver.ensures.there c.if-may_deliver.true)

pub returns-clause-none : goal.returns-clause-none
returns-clause-none g c at r e h =
    let l = (get_index c.args.requests.now.messages at r r e).0 in
    c.loop-place.invariant.0 at r (omega (arith, l, c.loop-place-test.false, c.len-place-end.ensures)) e h

pub loop-place-preserved-then-is_behind : goal.loop-place-preserved-then-is_behind
loop-place-preserved-then-is_behind g c =
    let rs : List Request = c.args.requests.now.messages in
    let r : Request = c.get-request.result.now in
    let got : slice_get rs c.loop-place.place ≡ Some r = got_at rs c.loop-place.place r (omega (arith, c.loop-place-test.true, c.len-place-end.ensures)) c.get-request.ensures in
    let B : List ℕ → Type 0 = λ places. (i : ℕ) × (i < length places) × StandsBefore rs r (slice_index places i) in
    let behind : B c.loop-place.fronts.items = subst B c.as_slice.ensures.value (c.is_behind.ensures c.if-is_behind.true) in (
      blocked_next (IsDeliverable (g.V.Views.graph c.args.views.now) (IsSeenBy (g.V.Views.content c.args.views.now) (g.V.Views.waiting c.args.views.now) (g.V.Views.workers c.args.views.now) c.args.worker)) rs c.loop-place.place r got
          (stands_blocked (g.V.Views.graph c.args.views.now) c.requires.flows (IsSeenBy (g.V.Views.content c.args.views.now) (g.V.Views.waiting c.args.views.now) (g.V.Views.workers c.args.views.now) c.args.worker) rs c.requires.known (slice_index c.loop-place.fronts.items behind.0) (c.loop-place.invariant.1 behind.0 behind.1) c.loop-place.place r got behind.2) c.loop-place.invariant.0,
      c.loop-place.invariant.1,
    )

pub loop-place-preserved : goal.loop-place-preserved
loop-place-preserved g c =
    let rs : List Request = c.args.requests.now.messages in
    let r : Request = c.get-request.result.now in
    let got : slice_get rs c.loop-place.place ≡ Some r = got_at rs c.loop-place.place r (omega (arith, c.loop-place-test.true, c.len-place-end.ensures)) c.get-request.ensures in
    let blocked : IsDeliverable (g.V.Views.graph c.args.views.now) (IsSeenBy (g.V.Views.content c.args.views.now) (g.V.Views.waiting c.args.views.now) (g.V.Views.workers c.args.views.now) c.args.worker) r → ⊥ = λ h. let t : true ≡ false = sym (c.may_deliver.ensures.seen.1 h) ∙ c.if-may_deliver.false in cc in (
      blocked_next (IsDeliverable (g.V.Views.graph c.args.views.now) (IsSeenBy (g.V.Views.content c.args.views.now) (g.V.Views.waiting c.args.views.now) (g.V.Views.workers c.args.views.now) c.args.worker)) rs c.loop-place.place r got blocked c.loop-place.invariant.0,
      each_pushed (IsBlocked (g.V.Views.graph c.args.views.now) (IsSeenBy (g.V.Views.content c.args.views.now) (g.V.Views.waiting c.args.views.now) (g.V.Views.workers c.args.views.now) c.args.worker) rs) c.loop-place.fronts.items c.try_push-remembered.new.self.items c.loop-place.place c.try_push-remembered.result c.try_push-remembered.ensures.ok
          (same_items c.try_push-remembered.new.self c.loop-place.fronts c.try_push-remembered.result c.try_push-remembered.ensures.err) c.loop-place.invariant.1 (record { request = r; there = got; blocked = blocked }),
    )
  where
    same_items : {T E : Type 0} (v w : ArrayVec ℕ) (r : Result T E) → OnErr r (v ≡ w) → OnErr r (v.items ≡ w.items)
    same_items v w (Ok _) e = tt
    same_items v w (Err _) e = ap (λ (x : ArrayVec ℕ). x.items) e
