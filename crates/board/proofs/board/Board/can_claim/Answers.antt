use Rattle.std.proofs.Common.{◌≡◌, ◌<◌, ℕ, false, List, length, sym, ap, ◌∙◌, subst, arith, slice_get, Some}
use Rattle.semantics.specs.Dataflow.{IsDataflow}
use Rattle.semantics.specs.Graph.{Graph}
use Rattle.semantics.specs.Could.{IsTimeAt, Location}
use Rattle.machine.specs.World.{Request}
use Rattle.tokens.specs.declared.rule.Place.TheVariants.{Home}
use Rattle.board.specs.Answers.{HasChoice, HasNoChoice}
use Rattle.board.specs.Deliverable.{IsDeliverable}
use Rattle.board.specs.Lateness.{BoardShown, IsUpToDate}
use Rattle.board.specs.Shown.{Shown, side_at}
use Rattle.board.proofs.Choosing.{choice_message, choice_request}
use Rattle.board.proofs.HandedOut.{no_choice}
use Rattle.board.proofs.Lateness.{board_of, none_waits}
use Rattle.board.proofs.Ready.{good_request}
use Rattle.board.proofs.board.Board.can_claim.Goals as goal

pub returns-then-mail-gt0-clause-some : goal.returns-then-mail-gt0-clause-some
returns-then-mail-gt0-clause-some g c =
    let s : Shown = c.self.inside.state in
    let k : ℕ = c.args.worker in
    let there : k < length s.sides = c.if-not-has_worker.ensures in
    let free : (side_at s k).place ≡ Home = c.if-not-is_free.ensures in
    let runs : s.stopped ≡ false = sym c.is_stopped.ensures ∙ c.if-is_stopped.false in
    let P : BoardShown → Type 0 = λ z. HasChoice z.shown k in
    λ t. subst P c.self.view_is (choice_message (g.V.Views.graph c.self.inside.views) (g.V.Views.content c.self.inside.views) s c.self.invariant.kept k there free runs (omega (arith, c.if-mail-gt0.true, c.mail_count-mail.ensures)))

pub first_seen-requires-clause-known : goal.first_seen-requires-clause-known
first_seen-requires-clause-known g c =
    let s : Shown = c.self.inside.state in
    let k : ℕ = c.args.worker in
    let there : k < length s.sides = c.if-not-has_worker.ensures in
    let free : (side_at s k).place ≡ Home = c.if-not-is_free.ensures in
    let runs : s.stopped ≡ false = sym c.is_stopped.ensures ∙ c.if-is_stopped.false in
    λ at r e.
    let good = good_request (g.V.Views.graph c.self.inside.views) (g.V.Views.content c.self.inside.views) s c.self.invariant.kept k there free at r (ap (λ (rs : List Request). slice_get rs at) (sym c.requests.ensures) ∙ e) in
    let P : Graph → Type 0 = λ z. IsTimeAt z (Location.vertex r.vertex) r.time in
    subst P (sym c.self.invariant.kept.same) good.fits

pub first_seen-requires-clause-worker : goal.first_seen-requires-clause-worker
first_seen-requires-clause-worker g c =
    let s : Shown = c.self.inside.state in
    let k : ℕ = c.args.worker in
    let there : k < length s.sides = c.if-not-has_worker.ensures in
    let free : (side_at s k).place ≡ Home = c.if-not-is_free.ensures in
    let runs : s.stopped ≡ false = sym c.is_stopped.ensures ∙ c.if-is_stopped.false in
    let v = c.self.invariant.viewers_are in omega (arith, there, v)

pub first_seen-requires-clause-flows : goal.first_seen-requires-clause-flows
first_seen-requires-clause-flows g c = let P : Graph → Type 0 = λ z. IsDataflow z in subst P (sym c.self.invariant.kept.same) c.self.invariant.kept.flows

pub returns-in-Some-clause-some : goal.returns-in-Some-clause-some
returns-in-Some-clause-some g c =
    let s : Shown = c.self.inside.state in
    let k : ℕ = c.args.worker in
    let there : k < length s.sides = c.if-not-has_worker.ensures in
    let free : (side_at s k).place ≡ Home = c.if-not-is_free.ensures in
    let runs : s.stopped ≡ false = sym c.is_stopped.ensures ∙ c.if-is_stopped.false in
    let h = c.in-Some.ensures.some in
    let P : BoardShown → Type 0 = λ z. HasChoice z.shown k in
    λ t. subst P c.self.view_is (choice_request (g.V.Views.graph c.self.inside.views) (g.V.Views.content c.self.inside.views) s c.self.invariant.kept k there free runs c.in-Some.field-0 h.0 (ap (λ (rs : List Request). slice_get rs c.in-Some.field-0) (sym c.requests.ensures) ∙ h.1) h.2)

pub returns-in-None-clause-none : goal.returns-in-None-clause-none
returns-in-None-clause-none g c =
    let s : Shown = c.self.inside.state in
    let k : ℕ = c.args.worker in
    let there : k < length s.sides = c.if-not-has_worker.ensures in
    let free : (side_at s k).place ≡ Home = c.if-not-is_free.ensures in
    let runs : s.stopped ≡ false = sym c.is_stopped.ensures ∙ c.if-is_stopped.false in
    let none : IsUpToDate (board_of s (g.V.Views.workers c.self.inside.views) (g.V.Views.waiting c.self.inside.views) (g.V.Views.behind c.self.inside.views 0) c.self.inside.passed) k → HasNoChoice s k =
    λ up.
    let exactly = c.law_of_waiting.ensures.seen (g.V.Views.content c.self.inside.views) (g.V.Views.waiting c.self.inside.views) (g.V.Views.workers c.self.inside.views) k (none_waits s (g.V.Views.workers c.self.inside.views) (g.V.Views.waiting c.self.inside.views) c.self.inside.passed k (let v = c.self.invariant.viewers_are in omega (arith, there, v)) up) in
    let blocked : (at : ℕ) (r : Request) → slice_get (side_at s k).requests at ≡ Some r → IsDeliverable (g.V.Views.graph c.self.inside.views) (λ q. 0 < g.V.Views.content c.self.inside.views q) r → ⊥ =
    λ at r e d. c.in-None.ensures.none at r (ap (λ (rs : List Request). slice_get rs at) c.requests.ensures ∙ e) (λ q l could. d q ((exactly q).0 l) could) in
    no_choice (g.V.Views.graph c.self.inside.views) (g.V.Views.content c.self.inside.views) s c.self.invariant.kept k there free (omega (arith, c.if-mail-gt0.false, c.mail_count-mail.ensures)) blocked in
    let P : BoardShown → Type 0 = λ z. IsUpToDate z k → HasNoChoice z.shown k in
    λ t. subst P c.self.view_is none
