use Rattle.std.proofs.Common.{◌≡◌, ◌<◌, ℕ, length, refl, sym, subst}
use Rattle.tokens.specs.declared.rule.Place.TheVariants.{Home}
use Rattle.board.specs.Forgetting.{KeepsLess}
use Rattle.board.specs.Lateness.{BoardShown}
use Rattle.board.specs.Shown.{Shown, side_at}
use Rattle.board.proofs.Forgetting.{keeps_forgotten, keeps_less}
use Rattle.board.proofs.Called.{as_late}
use Rattle.board.proofs.board.Board.forget.Goals as goal

pub invariant_of-self : goal.invariant_of-self
invariant_of-self g c =
    let s : Shown = c.self.inside.state in
    let k : ℕ = c.args.worker in
    let there : k < length s.sides = subst (λ (b : BoardShown). k < length b.shown.sides) (sym c.self.view_is) c.requires.there in
    let free : (side_at s k).place ≡ Home = subst (λ (b : BoardShown). (side_at b.shown k).place ≡ Home) (sym c.self.view_is) c.requires.free in
    keeps_forgotten (g.V.Views.graph c.self.inside.views) (g.V.Views.content c.self.inside.views) s c.self.invariant.kept k there free c.in-Some.earlier c.in-Some.ensures (c.if-none_before.ensures.there refl) c.forget.new.self c.forget.ensures (g.V.Views.workers c.self.inside.views) (g.V.Views.waiting c.self.inside.views) (g.V.Views.room c.self.inside.views) g.V.Views.late c.self.inside.passed c.self.invariant

pub returns-then-none_before-clause-less : goal.returns-then-none_before-clause-less
returns-then-none_before-clause-less g c =
    let s : Shown = c.self.inside.state in
    let k : ℕ = c.args.worker in
    let there : k < length s.sides = subst (λ (b : BoardShown). k < length b.shown.sides) (sym c.self.view_is) c.requires.there in
    let free : (side_at s k).place ≡ Home = subst (λ (b : BoardShown). (side_at b.shown k).place ≡ Home) (sym c.self.view_is) c.requires.free in
    let P : BoardShown → Type 0 = λ z. KeepsLess z.shown c.forget.new.self k in
    subst P c.self.view_is (keeps_less (g.V.Views.graph c.self.inside.views) (g.V.Views.content c.self.inside.views) s c.self.invariant.kept k there free c.in-Some.earlier c.in-Some.ensures (c.if-none_before.ensures.there refl) c.forget.new.self c.forget.ensures)

pub returns-then-none_before-clause-views : goal.returns-then-none_before-clause-views
returns-then-none_before-clause-views g c =
    let s : Shown = c.self.inside.state in
    let k : ℕ = c.args.worker in
    let there : k < length s.sides = subst (λ (b : BoardShown). k < length b.shown.sides) (sym c.self.view_is) c.requires.there in
    let free : (side_at s k).place ≡ Home = subst (λ (b : BoardShown). (side_at b.shown k).place ≡ Home) (sym c.self.view_is) c.requires.free in
    as_late (g.V.Views.graph c.self.inside.views) (g.V.Views.workers c.self.inside.views) (g.V.Views.content c.self.inside.views) (g.V.Views.waiting c.self.inside.views) (g.V.Views.behind c.self.inside.views 0) (g.V.Views.room c.self.inside.views) g.V.Views.late c.self.inside.passed c.self.inside.state c.forget.new.self (g.met.V.Views.as_lists c.self.inside.views 0) c.self.invariant
    (keeps_forgotten (g.V.Views.graph c.self.inside.views) (g.V.Views.content c.self.inside.views) s c.self.invariant.kept k there free c.in-Some.earlier c.in-Some.ensures (c.if-none_before.ensures.there refl) c.forget.new.self c.forget.ensures (g.V.Views.workers c.self.inside.views) (g.V.Views.waiting c.self.inside.views) (g.V.Views.room c.self.inside.views) g.V.Views.late c.self.inside.passed c.self.invariant) c.args.self.now c.self.view_is
