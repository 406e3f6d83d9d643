use Rattle.std.proofs.Common.{◌≡◌, ◌<◌, ℕ, false, length, refl, sym, ap, ◌∙◌, subst, arith}
use Rattle.tokens.specs.declared.rule.Place.TheVariants.{Home}
use Rattle.board.specs.Answers.{Hands}
use Rattle.board.specs.Lateness.{BoardShown}
use Rattle.board.specs.Shown.{Shown, side_at, tables}
use Rattle.board.proofs.Counted.{keeps_message}
use Rattle.board.proofs.Forgetting.{hands_before}
use Rattle.board.proofs.HandedOut.{hands_message, hands_message_tables}
use Rattle.board.proofs.Called.{as_late, late_after}
use Rattle.board.proofs.board.Board.claim_mail.Goals as goal

pub invariant_of-self : goal.invariant_of-self
invariant_of-self g c =
    let less = c.forget.ensures.less in
    let s : Shown = c.self-in-Some.inside.state in
    let k : ℕ = c.args.worker in
    let here : k < length c.forget.new.self.shown.sides = (let l = c.requires.there in let n = less.workers in omega (arith, l, n)) in
    let there : k < length s.sides = subst (λ (b : BoardShown). k < length b.shown.sides) (sym c.self-in-Some.view_is) here in
    let free : (side_at s k).place ≡ Home = subst (λ (b : BoardShown). (side_at b.shown k).place ≡ Home) (sym c.self-in-Some.view_is) (less.place ∙ c.requires.free) in
    let runs : s.stopped ≡ false = subst (λ (b : BoardShown). b.shown.stopped ≡ false) (sym c.self-in-Some.view_is) (less.stopped ∙ c.requires.runs) in
    keeps_message (g.V.Views.graph c.self-in-Some.inside.views) (g.V.Views.workers c.self-in-Some.inside.views) (g.V.Views.content c.self-in-Some.inside.views) (g.V.Views.waiting c.self-in-Some.inside.views) (g.V.Views.room c.self-in-Some.inside.views) g.V.Views.late c.self-in-Some.inside.passed s c.self-in-Some.invariant c.claim_message.new.self k there free runs c.in-Some.place c.claim_message.result.0 c.claim_message.ensures.hands

pub returns-in-Some-clause-hands : goal.returns-in-Some-clause-hands
returns-in-Some-clause-hands g c =
    let less = c.forget.ensures.less in
    let s : Shown = c.self-in-Some.inside.state in
    let k : ℕ = c.args.worker in
    let here : k < length c.forget.new.self.shown.sides = (let l = c.requires.there in let n = less.workers in omega (arith, l, n)) in
    let there : k < length s.sides = subst (λ (b : BoardShown). k < length b.shown.sides) (sym c.self-in-Some.view_is) here in
    let free : (side_at s k).place ≡ Home = subst (λ (b : BoardShown). (side_at b.shown k).place ≡ Home) (sym c.self-in-Some.view_is) (less.place ∙ c.requires.free) in
    let runs : s.stopped ≡ false = subst (λ (b : BoardShown). b.shown.stopped ≡ false) (sym c.self-in-Some.view_is) (less.stopped ∙ c.requires.runs) in
    let P : BoardShown → Type 0 = λ z. Hands z.shown k c.claim_message.new.self c.claim_message.result.0 in
    let hands = subst P c.self-in-Some.view_is (hands_message (g.V.Views.graph c.self-in-Some.inside.views) (g.V.Views.content c.self-in-Some.inside.views) s c.self-in-Some.invariant.kept k there free runs c.claim_message.new.self c.in-Some.place c.claim_message.result.0 c.claim_message.ensures.hands) in
    (hands_before c.args.self.now.shown c.forget.new.self.shown c.claim_message.new.self k c.claim_message.result.0 less hands, c.claim_message.ensures.whole)

pub returns-in-Some-clause-tables : goal.returns-in-Some-clause-tables
returns-in-Some-clause-tables g c =
    let less = c.forget.ensures.less in
    let s : Shown = c.self-in-Some.inside.state in
    let k : ℕ = c.args.worker in
    let here : k < length c.forget.new.self.shown.sides = (let l = c.requires.there in let n = less.workers in omega (arith, l, n)) in
    let there : k < length s.sides = subst (λ (b : BoardShown). k < length b.shown.sides) (sym c.self-in-Some.view_is) here in
    let free : (side_at s k).place ≡ Home = subst (λ (b : BoardShown). (side_at b.shown k).place ≡ Home) (sym c.self-in-Some.view_is) (less.place ∙ c.requires.free) in
    let runs : s.stopped ≡ false = subst (λ (b : BoardShown). b.shown.stopped ≡ false) (sym c.self-in-Some.view_is) (less.stopped ∙ c.requires.runs) in
    hands_message_tables (g.V.Views.graph c.self-in-Some.inside.views) (g.V.Views.content c.self-in-Some.inside.views) s c.self-in-Some.invariant.kept k there free runs c.claim_message.new.self c.in-Some.place c.claim_message.result.0 c.claim_message.ensures.hands
    ∙ ap tables (ap (λ (b : BoardShown). b.shown) c.self-in-Some.view_is) ∙ less.tables

pub returns-in-Some-clause-views : goal.returns-in-Some-clause-views
returns-in-Some-clause-views g c =
    let less = c.forget.ensures.less in
    let s : Shown = c.self-in-Some.inside.state in
    let k : ℕ = c.args.worker in
    let here : k < length c.forget.new.self.shown.sides = (let l = c.requires.there in let n = less.workers in omega (arith, l, n)) in
    let there : k < length s.sides = subst (λ (b : BoardShown). k < length b.shown.sides) (sym c.self-in-Some.view_is) here in
    let free : (side_at s k).place ≡ Home = subst (λ (b : BoardShown). (side_at b.shown k).place ≡ Home) (sym c.self-in-Some.view_is) (less.place ∙ c.requires.free) in
    let runs : s.stopped ≡ false = subst (λ (b : BoardShown). b.shown.stopped ≡ false) (sym c.self-in-Some.view_is) (less.stopped ∙ c.requires.runs) in
    let late = as_late (g.V.Views.graph c.self-in-Some.inside.views) (g.V.Views.workers c.self-in-Some.inside.views) (g.V.Views.content c.self-in-Some.inside.views) (g.V.Views.waiting c.self-in-Some.inside.views) (g.V.Views.behind c.self-in-Some.inside.views 0) (g.V.Views.room c.self-in-Some.inside.views) g.V.Views.late c.self-in-Some.inside.passed c.self-in-Some.inside.state c.claim_message.new.self (g.met.V.Views.as_lists c.self-in-Some.inside.views 0) c.self-in-Some.invariant
    (keeps_message (g.V.Views.graph c.self-in-Some.inside.views) (g.V.Views.workers c.self-in-Some.inside.views) (g.V.Views.content c.self-in-Some.inside.views) (g.V.Views.waiting c.self-in-Some.inside.views) (g.V.Views.room c.self-in-Some.inside.views) g.V.Views.late c.self-in-Some.inside.passed s c.self-in-Some.invariant c.claim_message.new.self k there free runs c.in-Some.place c.claim_message.result.0 c.claim_message.ensures.hands) c.forget.new.self c.self-in-Some.view_is in
    late_after c.args.self.now c.forget.new.self _ c.forget.ensures.views late

pub returns-in-None-clause-none : goal.returns-in-None-clause-none
returns-in-None-clause-none g c = (refl, subst (λ (b : BoardShown). length (side_at b.shown c.args.worker).mail ≡ 0) c.self.view_is c.in-None.ensures.none)
