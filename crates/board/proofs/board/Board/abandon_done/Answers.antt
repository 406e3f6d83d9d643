use Rattle.std.proofs.Common.{◌≡◌, ◌∙◌, ℕ, sym, ap, subst}
use Rattle.tokens.specs.declared.rule.Place.TheVariants.{Out}
use Rattle.tokens.specs.Tokens.{Ticket}
use Rattle.machine.specs.Step.{Step}
use Rattle.events.specs.Jobs.{Job, Pass}
use Rattle.board.specs.Commits.{IsOf}
use Rattle.board.specs.Kept.{Goes}
use Rattle.board.specs.Shown.{Shown, side_at, tables}
use Rattle.board.specs.Steps.{after_abandon}
use Rattle.board.proofs.Facts.{own_side}
use Rattle.board.proofs.Counted.{keeps_abandon}
use Rattle.board.proofs.Later.{later}
use Rattle.board.proofs.Abandoning.{abandon_goes, abandon_tables}
use Rattle.board.specs.Lateness.{BoardShown}
use Rattle.board.proofs.Called.{as_late}
use Rattle.board.proofs.board.Board.abandon_done.Goals as goal

pub invariant_of-self : goal.invariant_of-self
invariant_of-self g c =
    let s : Shown = c.self.inside.state in
    let p : Pass = c.args.done in
    let O : Shown → Type 0 = λ z. IsOf z p in
    let own = own_side s p (subst O (sym (ap (λ (b : BoardShown). b.shown) c.self.view_is)) c.requires) in
    let job : c.into_parts-stub.result.0.job ≡ p.job = ap (λ (t : Ticket Job). t.job) c.into_parts-stub.ensures.stub in
    let out : (side_at s p.worker).place ≡ Out p.job = ap (λ (n : ℕ). (side_at s n).place) (sym c.worker-worker.ensures) ∙ c.abandon.ensures.out ∙ ap Out job in
    let now : c.abandon.new.self ≡ after_abandon s p.worker p.job = c.abandon.ensures.state ∙ (λ i. after_abandon s (c.worker-worker.ensures i) (job i)) in
    keeps_abandon (g.V.Views.graph c.self.inside.views) (g.V.Views.workers c.self.inside.views) (g.V.Views.content c.self.inside.views) (g.V.Views.waiting c.self.inside.views) (g.V.Views.room c.self.inside.views) g.V.Views.late c.self.inside.passed s c.self.invariant c.abandon.new.self p.worker own.0 p.job out now

pub returns-clause-step : goal.returns-clause-step
returns-clause-step g c =
    let s : Shown = c.self.inside.state in
    let p : Pass = c.args.done in
    let O : Shown → Type 0 = λ z. IsOf z p in
    let own = own_side s p (subst O (sym (ap (λ (b : BoardShown). b.shown) c.self.view_is)) c.requires) in
    let job : c.into_parts-stub.result.0.job ≡ p.job = ap (λ (t : Ticket Job). t.job) c.into_parts-stub.ensures.stub in
    let out : (side_at s p.worker).place ≡ Out p.job = ap (λ (n : ℕ). (side_at s n).place) (sym c.worker-worker.ensures) ∙ c.abandon.ensures.out ∙ ap Out job in
    let now : c.abandon.new.self ≡ after_abandon s p.worker p.job = c.abandon.ensures.state ∙ (λ i. after_abandon s (c.worker-worker.ensures i) (job i)) in
    let A : Shown → Type 0 = λ z. Goes z (Step.abandon p.worker p.job.happening) c.abandon.new.self in
    subst A (ap (λ (b : BoardShown). b.shown) c.self.view_is) (subst (Goes s (Step.abandon p.worker p.job.happening)) (sym now) (abandon_goes s p.worker own.0 p.job out (later (g.V.Views.graph c.self.inside.views) (g.V.Views.content c.self.inside.views) s c.self.invariant.kept)))

pub returns-clause-tables : goal.returns-clause-tables
returns-clause-tables g c =
    let s : Shown = c.self.inside.state in
    let p : Pass = c.args.done in
    let O : Shown → Type 0 = λ z. IsOf z p in
    let own = own_side s p (subst O (sym (ap (λ (b : BoardShown). b.shown) c.self.view_is)) c.requires) in
    let job : c.into_parts-stub.result.0.job ≡ p.job = ap (λ (t : Ticket Job). t.job) c.into_parts-stub.ensures.stub in
    let out : (side_at s p.worker).place ≡ Out p.job = ap (λ (n : ℕ). (side_at s n).place) (sym c.worker-worker.ensures) ∙ c.abandon.ensures.out ∙ ap Out job in
    let now : c.abandon.new.self ≡ after_abandon s p.worker p.job = c.abandon.ensures.state ∙ (λ i. after_abandon s (c.worker-worker.ensures i) (job i)) in
    ap tables now ∙ abandon_tables s p.worker own.0 p.job out ∙ ap tables (ap (λ (b : BoardShown). b.shown) c.self.view_is)

pub abandon-requires-clause-table : goal.abandon-requires-clause-table
abandon-requires-clause-table g c =
    let s : Shown = c.self.inside.state in
    let p : Pass = c.args.done in
    let O : Shown → Type 0 = λ z. IsOf z p in
    let own = own_side s p (subst O (sym (ap (λ (b : BoardShown). b.shown) c.self.view_is)) c.requires) in
    ap (λ (t : Ticket Job). t.table) c.into_parts-stub.ensures.stub ∙ sym own.1 ∙ ap (λ (n : ℕ). (side_at s n).table) (sym c.worker-worker.ensures)

pub returns-clause-views : goal.returns-clause-views
returns-clause-views g c =
    let s : Shown = c.self.inside.state in
    let p : Pass = c.args.done in
    let O : Shown → Type 0 = λ z. IsOf z p in
    let own = own_side s p (subst O (sym (ap (λ (b : BoardShown). b.shown) c.self.view_is)) c.requires) in
    let job : c.into_parts-stub.result.0.job ≡ p.job = ap (λ (t : Ticket Job). t.job) c.into_parts-stub.ensures.stub in
    let out : (side_at s p.worker).place ≡ Out p.job = ap (λ (n : ℕ). (side_at s n).place) (sym c.worker-worker.ensures) ∙ c.abandon.ensures.out ∙ ap Out job in
    let now : c.abandon.new.self ≡ after_abandon s p.worker p.job = c.abandon.ensures.state ∙ (λ i. after_abandon s (c.worker-worker.ensures i) (job i)) in
    as_late (g.V.Views.graph c.self.inside.views) (g.V.Views.workers c.self.inside.views) (g.V.Views.content c.self.inside.views) (g.V.Views.waiting c.self.inside.views) (g.V.Views.behind c.self.inside.views 0) (g.V.Views.room c.self.inside.views) g.V.Views.late c.self.inside.passed c.self.inside.state c.abandon.new.self (g.met.V.Views.as_lists c.self.inside.views 0) c.self.invariant
    (keeps_abandon (g.V.Views.graph c.self.inside.views) (g.V.Views.workers c.self.inside.views) (g.V.Views.content c.self.inside.views) (g.V.Views.waiting c.self.inside.views) (g.V.Views.room c.self.inside.views) g.V.Views.late c.self.inside.passed s c.self.invariant c.abandon.new.self p.worker own.0 p.job out now) c.args.self.now c.self.view_is
