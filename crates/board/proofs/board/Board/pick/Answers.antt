use Rattle.std.proofs.Common.{◌≡◌, ◌<◌, ◌+◌, ◌-◌, ℕ, false, List, length, sym, ap, ◌∙◌, subst, arith, slice_get, None, Some}
use Rattle.semantics.specs.Graph.{Graph}
use Rattle.semantics.specs.Could.{CouldResultIn, IsTimeAt, Location, NoOtherOf}
use Rattle.machine.specs.Active.{request_pointstamp}
use Rattle.machine.specs.Choices.{Kth}
use Rattle.machine.specs.Step.{Step}
use Rattle.machine.specs.World.{Request}
use Rattle.tokens.specs.declared.rule.Place.TheVariants.{Home}
use Rattle.views.specs.Waiting.{IsSeenBy}
use Rattle.board.specs.Answers.{Hands}
use Rattle.board.specs.Claims.{HandsRequest}
use Rattle.board.specs.Deliverable.{IsDeliverable}
use Rattle.board.specs.Lateness.{BoardShown, IsUpToDate}
use Rattle.board.specs.Picks.{IsChoice, IsCertain, LacksChoice}
use Rattle.board.specs.Shown.{Shown, side_at, tables}
use Rattle.board.proofs.Counted.{keeps_message, keeps_request}
use Rattle.board.proofs.HandedOut.{hands_message_tables, hands_request, hands_request_tables, request_taken}
use Rattle.board.proofs.KthElements.{kth_same}
use Rattle.board.proofs.Lateness.{board_of, none_waits}
use Rattle.board.proofs.Picking.{behind_mail, chosen_request, lacks, picks_message}
use Rattle.board.proofs.Places.{get_index}
use Rattle.board.proofs.Ready.{good_request}
use Rattle.board.proofs.Called.{as_late}
use Rattle.board.proofs.board.Board.pick.Goals as goal

pub invariant_of-self : goal.invariant_of-self
invariant_of-self g c =
    let s : Shown = c.self.inside.state in
    let k : ℕ = c.args.worker in
    let there : k < length s.sides = c.if-not-has_worker.ensures in
    let free : (side_at s k).place ≡ Home = c.if-not-is_free.ensures in
    let runs : s.stopped ≡ false = sym c.is_stopped.ensures ∙ c.if-is_stopped.false in
    keeps_message (g.V.Views.graph c.self.inside.views) (g.V.Views.workers c.self.inside.views) (g.V.Views.content c.self.inside.views) (g.V.Views.waiting c.self.inside.views) (g.V.Views.room c.self.inside.views) g.V.Views.late c.self.inside.passed s c.self.invariant c.claim_message.new.self k there free runs c.args.choice c.claim_message.result.0 c.claim_message.ensures.hands

pub returns-then-choice-mail-clause-picks : goal.returns-then-choice-mail-clause-picks
returns-then-choice-mail-clause-picks g c =
    let s : Shown = c.self.inside.state in
    let k : ℕ = c.args.worker in
    let there : k < length s.sides = c.if-not-has_worker.ensures in
    let free : (side_at s k).place ≡ Home = c.if-not-is_free.ensures in
    let runs : s.stopped ≡ false = sym c.is_stopped.ensures ∙ c.if-is_stopped.false in
    let both = picks_message (g.V.Views.graph c.self.inside.views) (g.V.Views.content c.self.inside.views) s c.self.invariant.kept k there free runs c.claim_message.new.self c.args.choice c.claim_message.result.0 c.claim_message.ensures.hands in
    let P : BoardShown → Type 0 = λ z. (hands : Hands z.shown k c.claim_message.new.self c.claim_message.result.0) × (IsCertain (IsUpToDate z k) z.shown k c.args.choice → IsChoice z.shown k c.args.choice hands.taken) × (c.claim_message.result.1 ≡ None) in
    subst P c.self.view_is (both.0, (λ known. both.1), c.claim_message.ensures.whole)

pub returns-then-choice-mail-clause-tables : goal.returns-then-choice-mail-clause-tables
returns-then-choice-mail-clause-tables g c =
    let s : Shown = c.self.inside.state in
    let k : ℕ = c.args.worker in
    let there : k < length s.sides = c.if-not-has_worker.ensures in
    let free : (side_at s k).place ≡ Home = c.if-not-is_free.ensures in
    let runs : s.stopped ≡ false = sym c.is_stopped.ensures ∙ c.if-is_stopped.false in
    hands_message_tables (g.V.Views.graph c.self.inside.views) (g.V.Views.content c.self.inside.views) s c.self.invariant.kept k there free runs c.claim_message.new.self c.args.choice c.claim_message.result.0 c.claim_message.ensures.hands ∙ ap tables (ap (λ (b : BoardShown). b.shown) c.self.view_is)

pub returns-then-choice-mail-clause-views : goal.returns-then-choice-mail-clause-views
returns-then-choice-mail-clause-views g c =
    let s : Shown = c.self.inside.state in
    let k : ℕ = c.args.worker in
    let there : k < length s.sides = c.if-not-has_worker.ensures in
    let free : (side_at s k).place ≡ Home = c.if-not-is_free.ensures in
    let runs : s.stopped ≡ false = sym c.is_stopped.ensures ∙ c.if-is_stopped.false in
    as_late (g.V.Views.graph c.self.inside.views) (g.V.Views.workers c.self.inside.views) (g.V.Views.content c.self.inside.views) (g.V.Views.waiting c.self.inside.views) (g.V.Views.behind c.self.inside.views 0) (g.V.Views.room c.self.inside.views) g.V.Views.late c.self.inside.passed c.self.inside.state c.claim_message.new.self (g.met.V.Views.as_lists c.self.inside.views 0) c.self.invariant
    (keeps_message (g.V.Views.graph c.self.inside.views) (g.V.Views.workers c.self.inside.views) (g.V.Views.content c.self.inside.views) (g.V.Views.waiting c.self.inside.views) (g.V.Views.room c.self.inside.views) g.V.Views.late c.self.inside.passed s c.self.invariant c.claim_message.new.self k there free runs c.args.choice c.claim_message.result.0 c.claim_message.ensures.hands) c.args.self.now c.self.view_is

pub kth_deliverable-requires-clause-known : goal.kth_deliverable-requires-clause-known
kth_deliverable-requires-clause-known g c =
    let s : Shown = c.self.inside.state in
    let k : ℕ = c.args.worker in
    let there : k < length s.sides = c.if-not-has_worker.ensures in
    let free : (side_at s k).place ≡ Home = c.if-not-is_free.ensures in
    let runs : s.stopped ≡ false = sym c.is_stopped.ensures ∙ c.if-is_stopped.false in
    λ at r e.
    let good = good_request (g.V.Views.graph c.self.inside.views) (g.V.Views.content c.self.inside.views) s c.self.invariant.kept k there free at r (ap (λ (rs : List Request). slice_get rs at) (sym c.requests.ensures) ∙ e) in
    let P : Graph → Type 0 = λ z. IsTimeAt z (Location.vertex r.vertex) r.time in
    subst P (sym c.self.invariant.kept.same) good.fits

pub kth_deliverable-requires-clause-worker : goal.kth_deliverable-requires-clause-worker
kth_deliverable-requires-clause-worker g c =
    let s : Shown = c.self.inside.state in
    let k : ℕ = c.args.worker in
    let there : k < length s.sides = c.if-not-has_worker.ensures in
    let free : (side_at s k).place ≡ Home = c.if-not-is_free.ensures in
    let runs : s.stopped ≡ false = sym c.is_stopped.ensures ∙ c.if-is_stopped.false in
    let v = c.self.invariant.viewers_are in omega (arith, there, v)

pub claim_request-requires-clause-some : goal.claim_request-requires-clause-some
claim_request-requires-clause-some g c =
    let s : Shown = c.self.inside.state in
    let k : ℕ = c.args.worker in
    let there : k < length s.sides = c.if-not-has_worker.ensures in
    let free : (side_at s k).place ≡ Home = c.if-not-is_free.ensures in
    let runs : s.stopped ≡ false = sym c.is_stopped.ensures ∙ c.if-is_stopped.false in
    let h = c.in-Some.ensures.there in
    (get_index (side_at s k).requests c.in-Some.place h.0 h.0 (ap (λ (rs : List Request). slice_get rs c.in-Some.place) (sym c.requests.ensures) ∙ h.1)).0

pub invariant_of-self-in-Some : goal.invariant_of-self-in-Some
invariant_of-self-in-Some g c =
    let s : Shown = c.self.inside.state in
    let k : ℕ = c.args.worker in
    let there : k < length s.sides = c.if-not-has_worker.ensures in
    let free : (side_at s k).place ≡ Home = c.if-not-is_free.ensures in
    let runs : s.stopped ≡ false = sym c.is_stopped.ensures ∙ c.if-is_stopped.false in
    let at : ℕ = c.in-Some.place in
    let h = c.in-Some.ensures.there in
    let hands : HandsRequest s c.claim_request.new.self k at c.claim_request.result.0 = c.claim_request.ensures.hands in
    let same : hands.request ≡ h.0 = (let e : Some hands.request ≡ Some h.0 = sym hands.got ∙ ap (λ (rs : List Request). slice_get rs at) (sym c.requests.ensures) ∙ h.1 in cc) in
    let P : Request → Type 0 = λ x. NoOtherOf (CouldResultIn (g.V.Views.graph c.self.inside.views)) (λ q. 0 < g.V.Views.content c.self.inside.views q) (request_pointstamp x) in
    let front : P hands.request = subst P (sym same) h.2 in
    keeps_request (g.V.Views.graph c.self.inside.views) (g.V.Views.workers c.self.inside.views) (g.V.Views.content c.self.inside.views) (g.V.Views.waiting c.self.inside.views) (g.V.Views.room c.self.inside.views) g.V.Views.late c.self.inside.passed s c.self.invariant c.claim_request.new.self k there free runs at c.claim_request.result.0 hands front

pub returns-in-Some-clause-picks : goal.returns-in-Some-clause-picks
returns-in-Some-clause-picks g c =
    let s : Shown = c.self.inside.state in
    let k : ℕ = c.args.worker in
    let there : k < length s.sides = c.if-not-has_worker.ensures in
    let free : (side_at s k).place ≡ Home = c.if-not-is_free.ensures in
    let runs : s.stopped ≡ false = sym c.is_stopped.ensures ∙ c.if-is_stopped.false in
    let at : ℕ = c.in-Some.place in
    let h = c.in-Some.ensures.there in
    let hands : HandsRequest s c.claim_request.new.self k at c.claim_request.result.0 = c.claim_request.ensures.hands in
    let same : hands.request ≡ h.0 = (let e : Some hands.request ≡ Some h.0 = sym hands.got ∙ ap (λ (rs : List Request). slice_get rs at) (sym c.requests.ensures) ∙ h.1 in cc) in
    let P : Request → Type 0 = λ x. NoOtherOf (CouldResultIn (g.V.Views.graph c.self.inside.views)) (λ q. 0 < g.V.Views.content c.self.inside.views q) (request_pointstamp x) in
    let front : P hands.request = subst P (sym same) h.2 in
    let number : c.args.choice ≡ length (side_at s k).mail + (c.args.choice - c.mail_count-mail.result) = omega (arith, c.if-choice-mail.false, c.mail_count-mail.ensures) in
    let given : Hands s k c.claim_request.new.self c.claim_request.result.0 = hands_request (g.V.Views.graph c.self.inside.views) (g.V.Views.content c.self.inside.views) s c.self.invariant.kept k there free runs c.claim_request.new.self at c.claim_request.result.0 hands front in
    let kth : Kth (IsDeliverable (g.V.Views.graph c.self.inside.views) (IsSeenBy (g.V.Views.content c.self.inside.views) (g.V.Views.waiting c.self.inside.views) (g.V.Views.workers c.self.inside.views) k)) (side_at s k).requests (c.args.choice - c.mail_count-mail.result) at =
    (let K : List Request → Type 0 = λ rs. Kth (IsDeliverable (g.V.Views.graph c.self.inside.views) (IsSeenBy (g.V.Views.content c.self.inside.views) (g.V.Views.waiting c.self.inside.views) (g.V.Views.workers c.self.inside.views) k)) rs (c.args.choice - c.mail_count-mail.result) at in subst K c.requests.ensures c.in-Some.ensures.some) in
    let choice : IsUpToDate (board_of s (g.V.Views.workers c.self.inside.views) (g.V.Views.waiting c.self.inside.views) (g.V.Views.behind c.self.inside.views 0) c.self.inside.passed) k → IsChoice s k c.args.choice given.taken =
    λ up.
    let exactly = c.law_of_waiting.ensures.seen (g.V.Views.content c.self.inside.views) (g.V.Views.waiting c.self.inside.views) (g.V.Views.workers c.self.inside.views) k (none_waits s (g.V.Views.workers c.self.inside.views) (g.V.Views.waiting c.self.inside.views) c.self.inside.passed k (let v = c.self.invariant.viewers_are in omega (arith, there, v)) up) in
    let real : Kth (IsDeliverable (g.V.Views.graph c.self.inside.views) (λ q. 0 < g.V.Views.content c.self.inside.views q)) (side_at s k).requests (c.args.choice - c.mail_count-mail.result) at =
    kth_same (IsDeliverable (g.V.Views.graph c.self.inside.views) (IsSeenBy (g.V.Views.content c.self.inside.views) (g.V.Views.waiting c.self.inside.views) (g.V.Views.workers c.self.inside.views) k)) (IsDeliverable (g.V.Views.graph c.self.inside.views) (λ q. 0 < g.V.Views.content c.self.inside.views q)) (λ x d q l could. d q ((exactly q).1 l) could) (λ x d q l could. d q ((exactly q).0 l) could) (side_at s k).requests (c.args.choice - c.mail_count-mail.result) at kth in
    let Q : Step → Type 0 = λ x. IsChoice s k c.args.choice x in
    subst Q (sym (request_taken (g.V.Views.graph c.self.inside.views) (g.V.Views.content c.self.inside.views) s c.self.invariant.kept k there free runs c.claim_request.new.self at c.claim_request.result.0 hands front))
    (chosen_request (g.V.Views.graph c.self.inside.views) (g.V.Views.content c.self.inside.views) s c.self.invariant.kept k there c.args.choice (c.args.choice - c.mail_count-mail.result) at hands.request number hands.got real) in
    let R : BoardShown → Type 0 = λ z. (x : Hands z.shown k c.claim_request.new.self c.claim_request.result.0) × (IsCertain (IsUpToDate z k) z.shown k c.args.choice → IsChoice z.shown k c.args.choice x.taken) × (c.claim_request.result.1 ≡ None) in
    subst R c.self.view_is (given, behind_mail s k c.args.choice (omega (arith, number)) choice, c.claim_request.ensures.whole)

pub returns-in-Some-clause-tables : goal.returns-in-Some-clause-tables
returns-in-Some-clause-tables g c =
    let s : Shown = c.self.inside.state in
    let k : ℕ = c.args.worker in
    let there : k < length s.sides = c.if-not-has_worker.ensures in
    let free : (side_at s k).place ≡ Home = c.if-not-is_free.ensures in
    let runs : s.stopped ≡ false = sym c.is_stopped.ensures ∙ c.if-is_stopped.false in
    let at : ℕ = c.in-Some.place in
    let h = c.in-Some.ensures.there in
    let hands : HandsRequest s c.claim_request.new.self k at c.claim_request.result.0 = c.claim_request.ensures.hands in
    let same : hands.request ≡ h.0 = (let e : Some hands.request ≡ Some h.0 = sym hands.got ∙ ap (λ (rs : List Request). slice_get rs at) (sym c.requests.ensures) ∙ h.1 in cc) in
    let P : Request → Type 0 = λ x. NoOtherOf (CouldResultIn (g.V.Views.graph c.self.inside.views)) (λ q. 0 < g.V.Views.content c.self.inside.views q) (request_pointstamp x) in
    let front : P hands.request = subst P (sym same) h.2 in
    hands_request_tables (g.V.Views.graph c.self.inside.views) (g.V.Views.content c.self.inside.views) s c.self.invariant.kept k there free runs c.claim_request.new.self at c.claim_request.result.0 hands front ∙ ap tables (ap (λ (b : BoardShown). b.shown) c.self.view_is)

pub returns-in-Some-clause-views : goal.returns-in-Some-clause-views
returns-in-Some-clause-views g c =
    let s : Shown = c.self.inside.state in
    let k : ℕ = c.args.worker in
    let there : k < length s.sides = c.if-not-has_worker.ensures in
    let free : (side_at s k).place ≡ Home = c.if-not-is_free.ensures in
    let runs : s.stopped ≡ false = sym c.is_stopped.ensures ∙ c.if-is_stopped.false in
    let at : ℕ = c.in-Some.place in
    let h = c.in-Some.ensures.there in
    let hands : HandsRequest s c.claim_request.new.self k at c.claim_request.result.0 = c.claim_request.ensures.hands in
    let same : hands.request ≡ h.0 = (let e : Some hands.request ≡ Some h.0 = sym hands.got ∙ ap (λ (rs : List Request). slice_get rs at) (sym c.requests.ensures) ∙ h.1 in cc) in
    let P : Request → Type 0 = λ x. NoOtherOf (CouldResultIn (g.V.Views.graph c.self.inside.views)) (λ q. 0 < g.V.Views.content c.self.inside.views q) (request_pointstamp x) in
    let front : P hands.request = subst P (sym same) h.2 in
    as_late (g.V.Views.graph c.self.inside.views) (g.V.Views.workers c.self.inside.views) (g.V.Views.content c.self.inside.views) (g.V.Views.waiting c.self.inside.views) (g.V.Views.behind c.self.inside.views 0) (g.V.Views.room c.self.inside.views) g.V.Views.late c.self.inside.passed c.self.inside.state c.claim_request.new.self (g.met.V.Views.as_lists c.self.inside.views 0) c.self.invariant
    (keeps_request (g.V.Views.graph c.self.inside.views) (g.V.Views.workers c.self.inside.views) (g.V.Views.content c.self.inside.views) (g.V.Views.waiting c.self.inside.views) (g.V.Views.room c.self.inside.views) g.V.Views.late c.self.inside.passed s c.self.invariant c.claim_request.new.self k there free runs at c.claim_request.result.0 hands front) c.args.self.now c.self.view_is

pub returns-in-None-clause-picks : goal.returns-in-None-clause-picks
returns-in-None-clause-picks g c =
    let s : Shown = c.self.inside.state in
    let k : ℕ = c.args.worker in
    let there : k < length s.sides = c.if-not-has_worker.ensures in
    let free : (side_at s k).place ≡ Home = c.if-not-is_free.ensures in
    let runs : s.stopped ≡ false = sym c.is_stopped.ensures ∙ c.if-is_stopped.false in
    let number : c.args.choice ≡ length (side_at s k).mail + (c.args.choice - c.mail_count-mail.result) = omega (arith, c.if-choice-mail.false, c.mail_count-mail.ensures) in
    let none : (at : ℕ) → Kth (IsDeliverable (g.V.Views.graph c.self.inside.views) (IsSeenBy (g.V.Views.content c.self.inside.views) (g.V.Views.waiting c.self.inside.views) (g.V.Views.workers c.self.inside.views) k)) (side_at s k).requests (c.args.choice - c.mail_count-mail.result) at → ⊥ =
    (let K : List Request → Type 0 = λ rs. (at : ℕ) → Kth (IsDeliverable (g.V.Views.graph c.self.inside.views) (IsSeenBy (g.V.Views.content c.self.inside.views) (g.V.Views.waiting c.self.inside.views) (g.V.Views.workers c.self.inside.views) k)) rs (c.args.choice - c.mail_count-mail.result) at → ⊥ in subst K c.requests.ensures c.in-None.ensures.none) in
    let lacking : IsUpToDate (board_of s (g.V.Views.workers c.self.inside.views) (g.V.Views.waiting c.self.inside.views) (g.V.Views.behind c.self.inside.views 0) c.self.inside.passed) k → LacksChoice s k c.args.choice =
    λ up.
    let exactly = c.law_of_waiting.ensures.seen (g.V.Views.content c.self.inside.views) (g.V.Views.waiting c.self.inside.views) (g.V.Views.workers c.self.inside.views) k (none_waits s (g.V.Views.workers c.self.inside.views) (g.V.Views.waiting c.self.inside.views) c.self.inside.passed k (let v = c.self.invariant.viewers_are in omega (arith, there, v)) up) in
    lacks (g.V.Views.graph c.self.inside.views) (g.V.Views.content c.self.inside.views) s c.self.invariant.kept k there c.args.choice (c.args.choice - c.mail_count-mail.result) number
    (λ at kth. none at (kth_same (IsDeliverable (g.V.Views.graph c.self.inside.views) (λ q. 0 < g.V.Views.content c.self.inside.views q)) (IsDeliverable (g.V.Views.graph c.self.inside.views) (IsSeenBy (g.V.Views.content c.self.inside.views) (g.V.Views.waiting c.self.inside.views) (g.V.Views.workers c.self.inside.views) k)) (λ x d q l could. d q ((exactly q).0 l) could) (λ x d q l could. d q ((exactly q).1 l) could) (side_at s k).requests (c.args.choice - c.mail_count-mail.result) at kth)) in
    let P : BoardShown → Type 0 = λ z. ((z.shown.stopped ≡ false) × (k < length z.shown.sides → ((side_at z.shown k).place ≡ Home) × (IsCertain (IsUpToDate z k) z.shown k c.args.choice → LacksChoice z.shown k c.args.choice))) × (z.shown ≡ c.args.self.now.shown) in
    subst P c.self.view_is ((runs, λ l. (free, behind_mail s k c.args.choice (omega (arith, number)) lacking)), (ap (λ (b : BoardShown). b.shown) c.self.view_is))
