use Rattle.std.proofs.Common.{◌≡◌, ◌<◌, ℕ, false, List, length, refl, sym, ap, ◌∙◌, subst, arith, slice_get, Some}
use Rattle.semantics.specs.Graph.{Graph}
use Rattle.semantics.specs.Could.{CouldResultIn, IsTimeAt, Location, NoOtherOf}
use Rattle.machine.specs.Active.{request_pointstamp}
use Rattle.machine.specs.World.{Request}
use Rattle.views.proofs.Contents.{got_at}
use Rattle.tokens.specs.declared.rule.Place.TheVariants.{Home}
use Rattle.board.specs.Answers.{Hands}
use Rattle.board.specs.Claims.{HandsRequest}
use Rattle.board.specs.Lateness.{BoardShown}
use Rattle.board.specs.Shown.{Shown, side_at, tables}
use Rattle.board.proofs.Counted.{keeps_request}
use Rattle.board.proofs.HandedOut.{hands_request, hands_request_tables}
use Rattle.board.proofs.Ready.{good_request}
use Rattle.board.proofs.Called.{as_late}
use Rattle.board.proofs.board.Board.claim_due.Goals as goal

pub may_deliver-requires-clause-known : goal.may_deliver-requires-clause-known
may_deliver-requires-clause-known g c =
    let s : Shown = c.self.inside.state in
    let k : ℕ = c.args.worker in
    let there : k < length s.sides = subst (λ (b : BoardShown). k < length b.shown.sides) (sym c.self.view_is) c.requires.there in
    let free : (side_at s k).place ≡ Home = subst (λ (b : BoardShown). (side_at b.shown k).place ≡ Home) (sym c.self.view_is) c.requires.free in
    let r : Request = c.get.result.now in
    let got : slice_get (side_at s k).requests c.in-Some.place ≡ Some r =
    sym (ap (λ (rs : List Request). slice_get rs c.in-Some.place) c.requests.ensures) ∙ got_at c.requests.result.now.messages c.in-Some.place r (omega (arith, c.in-Some.ensures, ap length c.requests.ensures)) c.get.ensures in
    let good = good_request (g.V.Views.graph c.self.inside.views) (g.V.Views.content c.self.inside.views) s c.self.invariant.kept k there free c.in-Some.place r got in
    let P : Graph → Type 0 = λ z. IsTimeAt z (Location.vertex r.vertex) r.time in
    subst P (sym c.self.invariant.kept.same) good.fits

pub invariant_of-self : goal.invariant_of-self
invariant_of-self g c =
    let s : Shown = c.self.inside.state in
    let k : ℕ = c.args.worker in
    let there : k < length s.sides = subst (λ (b : BoardShown). k < length b.shown.sides) (sym c.self.view_is) c.requires.there in
    let free : (side_at s k).place ≡ Home = subst (λ (b : BoardShown). (side_at b.shown k).place ≡ Home) (sym c.self.view_is) c.requires.free in
    let r : Request = c.get.result.now in
    let got : slice_get (side_at s k).requests c.in-Some.place ≡ Some r =
    sym (ap (λ (rs : List Request). slice_get rs c.in-Some.place) c.requests.ensures) ∙ got_at c.requests.result.now.messages c.in-Some.place r (omega (arith, c.in-Some.ensures, ap length c.requests.ensures)) c.get.ensures in
    let runs : s.stopped ≡ false = subst (λ (b : BoardShown). b.shown.stopped ≡ false) (sym c.self.view_is) c.requires.runs in
    let hands : HandsRequest s c.claim_request.new.self k c.in-Some.place c.claim_request.result.0 = c.claim_request.ensures.hands in
    let same : r ≡ hands.request = (let e : Some r ≡ Some hands.request = sym got ∙ hands.got in cc) in
    let P : Request → Type 0 = λ x. NoOtherOf (CouldResultIn (g.V.Views.graph c.self.inside.views)) (λ q. 0 < g.V.Views.content c.self.inside.views q) (request_pointstamp x) in
    let front : P hands.request = subst P same (c.if-may_deliver.ensures.there refl) in
    keeps_request (g.V.Views.graph c.self.inside.views) (g.V.Views.workers c.self.inside.views) (g.V.Views.content c.self.inside.views) (g.V.Views.waiting c.self.inside.views) (g.V.Views.room c.self.inside.views) g.V.Views.late c.self.inside.passed s c.self.invariant c.claim_request.new.self k there free runs c.in-Some.place c.claim_request.result.0 hands front

pub returns-then-may_deliver-clause-hands : goal.returns-then-may_deliver-clause-hands
returns-then-may_deliver-clause-hands g c =
    let s : Shown = c.self.inside.state in
    let k : ℕ = c.args.worker in
    let there : k < length s.sides = subst (λ (b : BoardShown). k < length b.shown.sides) (sym c.self.view_is) c.requires.there in
    let free : (side_at s k).place ≡ Home = subst (λ (b : BoardShown). (side_at b.shown k).place ≡ Home) (sym c.self.view_is) c.requires.free in
    let r : Request = c.get.result.now in
    let got : slice_get (side_at s k).requests c.in-Some.place ≡ Some r =
    sym (ap (λ (rs : List Request). slice_get rs c.in-Some.place) c.requests.ensures) ∙ got_at c.requests.result.now.messages c.in-Some.place r (omega (arith, c.in-Some.ensures, ap length c.requests.ensures)) c.get.ensures in
    let runs : s.stopped ≡ false = subst (λ (b : BoardShown). b.shown.stopped ≡ false) (sym c.self.view_is) c.requires.runs in
    let hands : HandsRequest s c.claim_request.new.self k c.in-Some.place c.claim_request.result.0 = c.claim_request.ensures.hands in
    let same : r ≡ hands.request = (let e : Some r ≡ Some hands.request = sym got ∙ hands.got in cc) in
    let P : Request → Type 0 = λ x. NoOtherOf (CouldResultIn (g.V.Views.graph c.self.inside.views)) (λ q. 0 < g.V.Views.content c.self.inside.views q) (request_pointstamp x) in
    let front : P hands.request = subst P same (c.if-may_deliver.ensures.there refl) in
    let Q : BoardShown → Type 0 = λ z. Hands z.shown k c.claim_request.new.self c.claim_request.result.0 in
    (subst Q c.self.view_is (hands_request (g.V.Views.graph c.self.inside.views) (g.V.Views.content c.self.inside.views) s c.self.invariant.kept k there free runs c.claim_request.new.self c.in-Some.place c.claim_request.result.0 hands front), c.claim_request.ensures.whole)

pub returns-then-may_deliver-clause-tables : goal.returns-then-may_deliver-clause-tables
returns-then-may_deliver-clause-tables g c =
    let s : Shown = c.self.inside.state in
    let k : ℕ = c.args.worker in
    let there : k < length s.sides = subst (λ (b : BoardShown). k < length b.shown.sides) (sym c.self.view_is) c.requires.there in
    let free : (side_at s k).place ≡ Home = subst (λ (b : BoardShown). (side_at b.shown k).place ≡ Home) (sym c.self.view_is) c.requires.free in
    let r : Request = c.get.result.now in
    let got : slice_get (side_at s k).requests c.in-Some.place ≡ Some r =
    sym (ap (λ (rs : List Request). slice_get rs c.in-Some.place) c.requests.ensures) ∙ got_at c.requests.result.now.messages c.in-Some.place r (omega (arith, c.in-Some.ensures, ap length c.requests.ensures)) c.get.ensures in
    let runs : s.stopped ≡ false = subst (λ (b : BoardShown). b.shown.stopped ≡ false) (sym c.self.view_is) c.requires.runs in
    let hands : HandsRequest s c.claim_request.new.self k c.in-Some.place c.claim_request.result.0 = c.claim_request.ensures.hands in
    let same : r ≡ hands.request = (let e : Some r ≡ Some hands.request = sym got ∙ hands.got in cc) in
    let P : Request → Type 0 = λ x. NoOtherOf (CouldResultIn (g.V.Views.graph c.self.inside.views)) (λ q. 0 < g.V.Views.content c.self.inside.views q) (request_pointstamp x) in
    let front : P hands.request = subst P same (c.if-may_deliver.ensures.there refl) in
    hands_request_tables (g.V.Views.graph c.self.inside.views) (g.V.Views.content c.self.inside.views) s c.self.invariant.kept k there free runs c.claim_request.new.self c.in-Some.place c.claim_request.result.0 hands front ∙ ap tables (ap (λ (b : BoardShown). b.shown) c.self.view_is)

pub returns-then-may_deliver-clause-views : goal.returns-then-may_deliver-clause-views
returns-then-may_deliver-clause-views g c =
    let s : Shown = c.self.inside.state in
    let k : ℕ = c.args.worker in
    let there : k < length s.sides = subst (λ (b : BoardShown). k < length b.shown.sides) (sym c.self.view_is) c.requires.there in
    let free : (side_at s k).place ≡ Home = subst (λ (b : BoardShown). (side_at b.shown k).place ≡ Home) (sym c.self.view_is) c.requires.free in
    let r : Request = c.get.result.now in
    let got : slice_get (side_at s k).requests c.in-Some.place ≡ Some r =
    sym (ap (λ (rs : List Request). slice_get rs c.in-Some.place) c.requests.ensures) ∙ got_at c.requests.result.now.messages c.in-Some.place r (omega (arith, c.in-Some.ensures, ap length c.requests.ensures)) c.get.ensures in
    let runs : s.stopped ≡ false = subst (λ (b : BoardShown). b.shown.stopped ≡ false) (sym c.self.view_is) c.requires.runs in
    let hands : HandsRequest s c.claim_request.new.self k c.in-Some.place c.claim_request.result.0 = c.claim_request.ensures.hands in
    let same : r ≡ hands.request = (let e : Some r ≡ Some hands.request = sym got ∙ hands.got in cc) in
    let P : Request → Type 0 = λ x. NoOtherOf (CouldResultIn (g.V.Views.graph c.self.inside.views)) (λ q. 0 < g.V.Views.content c.self.inside.views q) (request_pointstamp x) in
    let front : P hands.request = subst P same (c.if-may_deliver.ensures.there refl) in
    as_late (g.V.Views.graph c.self.inside.views) (g.V.Views.workers c.self.inside.views) (g.V.Views.content c.self.inside.views) (g.V.Views.waiting c.self.inside.views) (g.V.Views.behind c.self.inside.views 0) (g.V.Views.room c.self.inside.views) g.V.Views.late c.self.inside.passed c.self.inside.state c.claim_request.new.self (g.met.V.Views.as_lists c.self.inside.views 0) c.self.invariant
    (keeps_request (g.V.Views.graph c.self.inside.views) (g.V.Views.workers c.self.inside.views) (g.V.Views.content c.self.inside.views) (g.V.Views.waiting c.self.inside.views) (g.V.Views.room c.self.inside.views) g.V.Views.late c.self.inside.passed s c.self.invariant c.claim_request.new.self k there free runs c.in-Some.place c.claim_request.result.0 hands front) c.args.self.now c.self.view_is
