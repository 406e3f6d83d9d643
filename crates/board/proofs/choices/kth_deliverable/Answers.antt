use Rattle.std.proofs.Common.{◌≡◌, ◌+◌, ◌-◌, ℕ, suc, true, false, sym, ◌∙◌, subst, arith, slice_get, Some}
use Rattle.machine.specs.World.{Request}
use Rattle.views.specs.Waiting.{IsSeenBy}
use Rattle.board.specs.Deliverable.{IsDeliverable}
use Rattle.views.proofs.Contents.{got_at}
use Rattle.board.proofs.KthElements.{Remains, remain_first, remain_here, remain_none, remain_one}
use Rattle.board.proofs.choices.kth_deliverable.Goals as goal
use Rattle.board.proofs.choices.kth_deliverable.Goals.{then-may_deliver+else-left-eq0, else-may_deliver}

pub loop-place-init : goal.loop-place-init
loop-place-init g c = remain_first (IsDeliverable (g.V.Views.graph c.args.views.now) (IsSeenBy (g.V.Views.content c.args.views.now) (g.V.Views.waiting c.args.views.now) (g.V.Views.workers c.args.views.now) c.args.worker)) c.args.requests.now.messages c.args.number

pub may_deliver-requires-clause-known : goal.may_deliver-requires-clause-known
may_deliver-requires-clause-known g c =
    let r : Request = c.get.result.now in
    c.requires.known c.loop-place.place r (got_at c.args.requests.now.messages c.loop-place.place r (omega (arith, c.loop-place-test.true, c.len-place-end.ensures)) c.get.ensures)

pub returns-then-left-eq0-clause-some : goal.returns-then-left-eq0-clause-some
returns-then-left-eq0-clause-some g c =
    let r : Request = c.get.result.now in
    let got : slice_get c.args.requests.now.messages c.loop-place.place ≡ Some r = got_at c.args.requests.now.messages c.loop-place.place r (omega (arith, c.loop-place-test.true, c.len-place-end.ensures)) c.get.ensures in
    remain_here (IsDeliverable (g.V.Views.graph c.args.views.now) (IsSeenBy (g.V.Views.content c.args.views.now) (g.V.Views.waiting c.args.views.now) (g.V.Views.workers c.args.views.now) c.args.worker)) c.args.requests.now.messages c.args.number c.loop-place.place c.loop-place.left c.loop-place.invariant r got (c.may_deliver.ensures.seen.0 c.if-may_deliver.true) c.if-left-eq0.true

pub returns-then-left-eq0-clause-there : goal.returns-then-left-eq0-clause-there
returns-then-left-eq0-clause-there g c =
    let r : Request = c.get.result.now in
    (r, got_at c.args.requests.now.messages c.loop-place.place r (omega (arith, c.loop-place-test.true, c.len-place-end.ensures)) c.get.ensures, c.may_deliver.ensures.there c.if-may_deliver.true)

pub loop-place-preserved : goal.loop-place-preserved
loop-place-preserved g c =
    let r : Request = c.get.result.now in
    let got : slice_get c.args.requests.now.messages c.loop-place.place ≡ Some r = got_at c.args.requests.now.messages c.loop-place.place r (omega (arith, c.loop-place-test.true, c.len-place-end.ensures)) c.get.ensures in
    let next : c.loop-place.place + 1 ≡ suc c.loop-place.place = omega arith in
    let P : ℕ → Type 0 = λ n. Remains (IsDeliverable (g.V.Views.graph c.args.views.now) (IsSeenBy (g.V.Views.content c.args.views.now) (g.V.Views.waiting c.args.views.now) (g.V.Views.workers c.args.views.now) c.args.worker)) c.args.requests.now.messages c.args.number (c.loop-place.place + 1) n in
    elim c.if-may_deliver.branch [
      | then-may_deliver+else-left-eq0 w ↦
          subst P (sym w.left-is)
          (remain_one (IsDeliverable (g.V.Views.graph c.args.views.now) (IsSeenBy (g.V.Views.content c.args.views.now) (g.V.Views.waiting c.args.views.now) (g.V.Views.workers c.args.views.now) c.args.worker)) c.args.requests.now.messages c.args.number c.loop-place.place c.loop-place.left c.loop-place.invariant r got (c.loop-place.left - 1) (c.loop-place.place + 1) (omega (arith, w.if-left-eq0.false)) next
          (c.may_deliver.ensures.seen.0 w.if-may_deliver.true))
      | else-may_deliver w ↦
          subst P (sym w.left-is)
          (remain_none (IsDeliverable (g.V.Views.graph c.args.views.now) (IsSeenBy (g.V.Views.content c.args.views.now) (g.V.Views.waiting c.args.views.now) (g.V.Views.workers c.args.views.now) c.args.worker)) c.args.requests.now.messages c.args.number c.loop-place.place c.loop-place.left c.loop-place.invariant r got (c.loop-place.place + 1) next
          (λ h. let t : true ≡ false = sym (c.may_deliver.ensures.seen.1 h) ∙ w.if-may_deliver.false in cc))
    ]
