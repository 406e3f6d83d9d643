use Rattle.std.proofs.Common.{◌≡◌, ◌<◌, ℕ, false, List, length, sym, ap, ◌∙◌, subst, arith, slice_get, Some}
use Rattle.semantics.specs.Dataflow.{IsDataflow}
use Rattle.semantics.specs.Graph.{Graph}
use Rattle.semantics.specs.Could.{CouldResultIn, IsTimeAt, Location, NoOtherOf}
use Rattle.machine.specs.Active.{request_pointstamp}
use Rattle.machine.specs.World.{Request}
use Rattle.tokens.specs.declared.rule.Place.TheVariants.{Home}
use Rattle.board.specs.Answers.{Hands, HasNoChoice}
use Rattle.board.specs.Claims.{HandsRequest}
use Rattle.board.specs.Deliverable.{IsDeliverable}
use Rattle.board.specs.Lateness.{BoardShown, IsUpToDate}
use Rattle.board.specs.Promises.{IsDrained}
use Rattle.board.specs.Shown.{Shown, side_at, tables}
use Rattle.board.proofs.Counted.{keeps_request}
use Rattle.board.proofs.HandedOut.{hands_request, hands_request_tables, no_choice}
use Rattle.board.proofs.Lateness.{board_of, none_waits}
use Rattle.board.proofs.Places.{get_index}
use Rattle.board.proofs.Ready.{good_request}
use Rattle.board.proofs.Called.{as_late}
use Rattle.board.proofs.board.Board.claim_rest.Goals as goal
use Rattle.board.proofs.board.Board.claim_rest.Goals.{then-is_drained, else-is_drained}

pub first_deliverable-requires-clause-known : goal.first_deliverable-requires-clause-known
first_deliverable-requires-clause-known g c =
    let s : Shown = c.self.inside.state in
    let k : ℕ = c.args.worker in
    let there : k < length s.sides = subst (λ (b : BoardShown). k < length b.shown.sides) (sym c.self.view_is) c.requires.there in
    let free : (side_at s k).place ≡ Home = subst (λ (b : BoardShown). (side_at b.shown k).place ≡ Home) (sym c.self.view_is) c.requires.free in
    let runs : s.stopped ≡ false = subst (λ (b : BoardShown). b.shown.stopped ≡ false) (sym c.self.view_is) c.requires.runs in
    λ at r e.
    let good = good_request (g.V.Views.graph c.self.inside.views) (g.V.Views.content c.self.inside.views) s c.self.invariant.kept k there free at r (ap (λ (rs : List Request). slice_get rs at) (sym c.requests.ensures) ∙ e) in
    let P : Graph → Type 0 = λ z. IsTimeAt z (Location.vertex r.vertex) r.time in
    subst P (sym c.self.invariant.kept.same) good.fits

pub first_deliverable-requires-clause-worker : goal.first_deliverable-requires-clause-worker
first_deliverable-requires-clause-worker g c =
    let s : Shown = c.self.inside.state in
    let k : ℕ = c.args.worker in
    let there : k < length s.sides = subst (λ (b : BoardShown). k < length b.shown.sides) (sym c.self.view_is) c.requires.there in
    let free : (side_at s k).place ≡ Home = subst (λ (b : BoardShown). (side_at b.shown k).place ≡ Home) (sym c.self.view_is) c.requires.free in
    let runs : s.stopped ≡ false = subst (λ (b : BoardShown). b.shown.stopped ≡ false) (sym c.self.view_is) c.requires.runs in
    let v = c.self.invariant.viewers_are in omega (arith, there, v)

pub first_deliverable-requires-clause-flows : goal.first_deliverable-requires-clause-flows
first_deliverable-requires-clause-flows g c = let P : Graph → Type 0 = λ z. IsDataflow z in subst P (sym c.self.invariant.kept.same) c.self.invariant.kept.flows

pub first_deliverable-requires-clause-prompt : goal.first_deliverable-requires-clause-prompt
first_deliverable-requires-clause-prompt g c =
    let s : Shown = c.self.inside.state in
    let k : ℕ = c.args.worker in
    let there : k < length s.sides = subst (λ (b : BoardShown). k < length b.shown.sides) (sym c.self.view_is) c.requires.there in
    let free : (side_at s k).place ≡ Home = subst (λ (b : BoardShown). (side_at b.shown k).place ≡ Home) (sym c.self.view_is) c.requires.free in
    let runs : s.stopped ≡ false = subst (λ (b : BoardShown). b.shown.stopped ≡ false) (sym c.self.view_is) c.requires.runs in
    let up : IsUpToDate (board_of s (g.V.Views.workers c.self.inside.views) (g.V.Views.waiting c.self.inside.views) (g.V.Views.behind c.self.inside.views 0) c.self.inside.passed) k = subst (λ (b : BoardShown). IsUpToDate b k) (sym c.self.view_is) c.requires.prompt in
    none_waits s (g.V.Views.workers c.self.inside.views) (g.V.Views.waiting c.self.inside.views) c.self.inside.passed k (let v = c.self.invariant.viewers_are in omega (arith, there, v)) up

pub claim_request-requires-clause-some : goal.claim_request-requires-clause-some
claim_request-requires-clause-some g c =
    let s : Shown = c.self.inside.state in
    let k : ℕ = c.args.worker in
    let there : k < length s.sides = subst (λ (b : BoardShown). k < length b.shown.sides) (sym c.self.view_is) c.requires.there in
    let free : (side_at s k).place ≡ Home = subst (λ (b : BoardShown). (side_at b.shown k).place ≡ Home) (sym c.self.view_is) c.requires.free in
    let runs : s.stopped ≡ false = subst (λ (b : BoardShown). b.shown.stopped ≡ false) (sym c.self.view_is) c.requires.runs in
    let h = c.in-Some.ensures.some in
    (get_index (side_at s k).requests c.in-Some.place h.0 h.0 (ap (λ (rs : List Request). slice_get rs c.in-Some.place) (sym c.requests.ensures) ∙ h.1)).0

pub invariant_of-self : goal.invariant_of-self
invariant_of-self g c =
    let s : Shown = c.self.inside.state in
    let k : ℕ = c.args.worker in
    let there : k < length s.sides = subst (λ (b : BoardShown). k < length b.shown.sides) (sym c.self.view_is) c.requires.there in
    let free : (side_at s k).place ≡ Home = subst (λ (b : BoardShown). (side_at b.shown k).place ≡ Home) (sym c.self.view_is) c.requires.free in
    let runs : s.stopped ≡ false = subst (λ (b : BoardShown). b.shown.stopped ≡ false) (sym c.self.view_is) c.requires.runs in
    let h = c.in-Some.ensures.some in
    let hands : HandsRequest s c.claim_request.new.self k c.in-Some.place c.claim_request.result.0 = c.claim_request.ensures.hands in
    let same : hands.request ≡ h.0 = (let e : Some hands.request ≡ Some h.0 = sym hands.got ∙ ap (λ (rs : List Request). slice_get rs c.in-Some.place) (sym c.requests.ensures) ∙ h.1 in cc) in
    let P : Request → Type 0 = λ x. NoOtherOf (CouldResultIn (g.V.Views.graph c.self.inside.views)) (λ q. 0 < g.V.Views.content c.self.inside.views q) (request_pointstamp x) in
    let front : P hands.request = subst P (sym same) h.2 in
    keeps_request (g.V.Views.graph c.self.inside.views) (g.V.Views.workers c.self.inside.views) (g.V.Views.content c.self.inside.views) (g.V.Views.waiting c.self.inside.views) (g.V.Views.room c.self.inside.views) g.V.Views.late c.self.inside.passed s c.self.invariant c.claim_request.new.self k there free runs c.in-Some.place c.claim_request.result.0 hands front

pub returns-in-Some-clause-claims : goal.returns-in-Some-clause-claims
returns-in-Some-clause-claims g c =
    let s : Shown = c.self.inside.state in
    let k : ℕ = c.args.worker in
    let there : k < length s.sides = subst (λ (b : BoardShown). k < length b.shown.sides) (sym c.self.view_is) c.requires.there in
    let free : (side_at s k).place ≡ Home = subst (λ (b : BoardShown). (side_at b.shown k).place ≡ Home) (sym c.self.view_is) c.requires.free in
    let runs : s.stopped ≡ false = subst (λ (b : BoardShown). b.shown.stopped ≡ false) (sym c.self.view_is) c.requires.runs in
    let h = c.in-Some.ensures.some in
    let hands : HandsRequest s c.claim_request.new.self k c.in-Some.place c.claim_request.result.0 = c.claim_request.ensures.hands in
    let same : hands.request ≡ h.0 = (let e : Some hands.request ≡ Some h.0 = sym hands.got ∙ ap (λ (rs : List Request). slice_get rs c.in-Some.place) (sym c.requests.ensures) ∙ h.1 in cc) in
    let P : Request → Type 0 = λ x. NoOtherOf (CouldResultIn (g.V.Views.graph c.self.inside.views)) (λ q. 0 < g.V.Views.content c.self.inside.views q) (request_pointstamp x) in
    let front : P hands.request = subst P (sym same) h.2 in
    let Q : BoardShown → Type 0 = λ z. Hands z.shown k c.claim_request.new.self c.claim_request.result.0 in
    (subst Q c.self.view_is (hands_request (g.V.Views.graph c.self.inside.views) (g.V.Views.content c.self.inside.views) s c.self.invariant.kept k there free runs c.claim_request.new.self c.in-Some.place c.claim_request.result.0 hands front), c.claim_request.ensures.whole)

pub returns-in-Some-clause-tables : goal.returns-in-Some-clause-tables
returns-in-Some-clause-tables g c =
    let s : Shown = c.self.inside.state in
    let k : ℕ = c.args.worker in
    let there : k < length s.sides = subst (λ (b : BoardShown). k < length b.shown.sides) (sym c.self.view_is) c.requires.there in
    let free : (side_at s k).place ≡ Home = subst (λ (b : BoardShown). (side_at b.shown k).place ≡ Home) (sym c.self.view_is) c.requires.free in
    let runs : s.stopped ≡ false = subst (λ (b : BoardShown). b.shown.stopped ≡ false) (sym c.self.view_is) c.requires.runs in
    let h = c.in-Some.ensures.some in
    let hands : HandsRequest s c.claim_request.new.self k c.in-Some.place c.claim_request.result.0 = c.claim_request.ensures.hands in
    let same : hands.request ≡ h.0 = (let e : Some hands.request ≡ Some h.0 = sym hands.got ∙ ap (λ (rs : List Request). slice_get rs c.in-Some.place) (sym c.requests.ensures) ∙ h.1 in cc) in
    let P : Request → Type 0 = λ x. NoOtherOf (CouldResultIn (g.V.Views.graph c.self.inside.views)) (λ q. 0 < g.V.Views.content c.self.inside.views q) (request_pointstamp x) in
    let front : P hands.request = subst P (sym same) h.2 in
    hands_request_tables (g.V.Views.graph c.self.inside.views) (g.V.Views.content c.self.inside.views) s c.self.invariant.kept k there free runs c.claim_request.new.self c.in-Some.place c.claim_request.result.0 hands front ∙ ap tables (ap (λ (b : BoardShown). b.shown) c.self.view_is)

pub returns-in-Some-clause-views : goal.returns-in-Some-clause-views
returns-in-Some-clause-views g c =
    let s : Shown = c.self.inside.state in
    let k : ℕ = c.args.worker in
    let there : k < length s.sides = subst (λ (b : BoardShown). k < length b.shown.sides) (sym c.self.view_is) c.requires.there in
    let free : (side_at s k).place ≡ Home = subst (λ (b : BoardShown). (side_at b.shown k).place ≡ Home) (sym c.self.view_is) c.requires.free in
    let runs : s.stopped ≡ false = subst (λ (b : BoardShown). b.shown.stopped ≡ false) (sym c.self.view_is) c.requires.runs in
    let h = c.in-Some.ensures.some in
    let hands : HandsRequest s c.claim_request.new.self k c.in-Some.place c.claim_request.result.0 = c.claim_request.ensures.hands in
    let same : hands.request ≡ h.0 = (let e : Some hands.request ≡ Some h.0 = sym hands.got ∙ ap (λ (rs : List Request). slice_get rs c.in-Some.place) (sym c.requests.ensures) ∙ h.1 in cc) in
    let P : Request → Type 0 = λ x. NoOtherOf (CouldResultIn (g.V.Views.graph c.self.inside.views)) (λ q. 0 < g.V.Views.content c.self.inside.views q) (request_pointstamp x) in
    let front : P hands.request = subst P (sym same) h.2 in
    as_late (g.V.Views.graph c.self.inside.views) (g.V.Views.workers c.self.inside.views) (g.V.Views.content c.self.inside.views) (g.V.Views.waiting c.self.inside.views) (g.V.Views.behind c.self.inside.views 0) (g.V.Views.room c.self.inside.views) g.V.Views.late c.self.inside.passed c.self.inside.state c.claim_request.new.self (g.met.V.Views.as_lists c.self.inside.views 0) c.self.invariant
    (keeps_request (g.V.Views.graph c.self.inside.views) (g.V.Views.workers c.self.inside.views) (g.V.Views.content c.self.inside.views) (g.V.Views.waiting c.self.inside.views) (g.V.Views.room c.self.inside.views) g.V.Views.late c.self.inside.passed s c.self.invariant c.claim_request.new.self k there free runs c.in-Some.place c.claim_request.result.0 hands front) c.args.self.now c.self.view_is

pub returns-after-is_drained-clause-claims : goal.returns-after-is_drained-clause-claims
returns-after-is_drained-clause-claims g c =
    let s : Shown = c.self.inside.state in
    let k : ℕ = c.args.worker in
    let there : k < length s.sides = subst (λ (b : BoardShown). k < length b.shown.sides) (sym c.self.view_is) c.requires.there in
    let free : (side_at s k).place ≡ Home = subst (λ (b : BoardShown). (side_at b.shown k).place ≡ Home) (sym c.self.view_is) c.requires.free in
    let runs : s.stopped ≡ false = subst (λ (b : BoardShown). b.shown.stopped ≡ false) (sym c.self.view_is) c.requires.runs in
    let blocked : (at : ℕ) (r : Request) → slice_get (side_at s k).requests at ≡ Some r → IsDeliverable (g.V.Views.graph c.self.inside.views) (λ q. 0 < g.V.Views.content c.self.inside.views q) r → ⊥ =
    λ at r e. c.in-None.ensures.none at r (ap (λ (rs : List Request). slice_get rs at) c.requests.ensures ∙ e) in
    let mail : length (side_at s k).mail ≡ 0 = subst (λ (b : BoardShown). length (side_at b.shown k).mail ≡ 0) (sym c.self.view_is) c.requires.mail in
    let none : HasNoChoice s k = no_choice (g.V.Views.graph c.self.inside.views) (g.V.Views.content c.self.inside.views) s c.self.invariant.kept k there free mail blocked in
    let P : BoardShown → Type 0 = λ z. (z.shown.stopped ≡ false) × (k < length z.shown.sides) × IsDrained z.shown × (z.shown ≡ c.args.self.now.shown) in
    let Q : BoardShown → Type 0 = λ z. (z.shown.stopped ≡ false) × (k < length z.shown.sides) × ((side_at z.shown k).place ≡ Home) × HasNoChoice z.shown k × (IsDrained z.shown → ⊥) × (z.shown ≡ c.args.self.now.shown) in
    elim c.if-is_drained.branch [
      | then-is_drained w ↦ rw w.result-is (subst P c.self.view_is (runs, there, w.if-is_drained.ensures, (ap (λ (b : BoardShown). b.shown) c.self.view_is)))
      | else-is_drained w ↦ rw w.result-is (subst Q c.self.view_is (runs, there, free, none, w.if-is_drained.ensures, (ap (λ (b : BoardShown). b.shown) c.self.view_is)))
    ]
