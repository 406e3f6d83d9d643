use Rattle.std.proofs.Common.{◌<◌, ◌↔◌, IsTrue, sym, subst, arith}
use Rattle.board.specs.Lateness.{BoardShown, CallsPassed, IsUpToDate}
use Rattle.board.specs.Promises.{HasPassed, IsOutputPlace}
use Rattle.board.proofs.Called.{called_there, there_called}
use Rattle.board.proofs.Lateness.{none_waits}
use Rattle.board.proofs.Passing.{has_passed, has_passed_back, outputs_there}
use Rattle.board.proofs.board.Board.passed.Goals as goal

pub is_past-requires-clause-some : goal.is_past-requires-clause-some
is_past-requires-clause-some g c = let v = c.self.invariant.viewers_are in let l = c.self.invariant.kept.some in omega (arith, v, l)

pub is_past-requires-clause-outputs : goal.is_past-requires-clause-outputs
is_past-requires-clause-outputs g c = outputs_there (g.V.Views.graph c.self.inside.views) (g.V.Views.content c.self.inside.views) c.self.inside.state c.self.invariant.kept

pub is_past-requires-clause-place : goal.is_past-requires-clause-place
is_past-requires-clause-place g c = subst (λ (b : BoardShown). IsOutputPlace b.shown c.args.output) (sym c.self.view_is) c.requires

pub returns-clause-called : goal.returns-clause-called
returns-clause-called g c =
    let P : BoardShown → Type 0 = λ z. IsTrue c.is_past.result ↔ CallsPassed z c.args.output c.args.epoch in
    subst P c.self.view_is (
      (λ t. there_called (g.V.Views.graph c.self.inside.views) (g.V.Views.content c.self.inside.views) c.self.inside.state c.self.invariant.kept (g.V.Views.workers c.self.inside.views) (g.V.Views.waiting c.self.inside.views) (g.V.Views.behind c.self.inside.views 0) c.self.inside.passed c.self.invariant.viewers_are (g.met.V.Views.as_lists c.self.inside.views 0) c.args.output c.args.epoch (c.is_past.ensures.seen.0 t)),
      (λ called. c.is_past.ensures.seen.1 (called_there (g.V.Views.graph c.self.inside.views) (g.V.Views.content c.self.inside.views) c.self.inside.state c.self.invariant.kept (g.V.Views.workers c.self.inside.views) (g.V.Views.waiting c.self.inside.views) (g.V.Views.behind c.self.inside.views 0) c.self.inside.passed c.self.invariant.viewers_are (g.met.V.Views.as_lists c.self.inside.views 0) c.args.output c.args.epoch called)),
    )

pub returns-clause-passed : goal.returns-clause-passed
returns-clause-passed g c =
    let P : BoardShown → Type 0 = λ z. HasPassed z.shown c.args.output c.args.epoch in
    λ t. subst P c.self.view_is (has_passed (g.V.Views.graph c.self.inside.views) (g.V.Views.content c.self.inside.views) c.self.inside.state c.self.invariant.kept c.args.output c.args.epoch (c.is_past.ensures.there t))

pub returns-clause-seen : goal.returns-clause-seen
returns-clause-seen g c =
    let P : BoardShown → Type 0 = λ z. IsUpToDate z 0 → HasPassed z.shown c.args.output c.args.epoch → IsTrue c.is_past.result in
    subst P c.self.view_is (λ up h.
    let exactly = c.law_of_waiting.ensures.seen (g.V.Views.content c.self.inside.views) (g.V.Views.waiting c.self.inside.views) (g.V.Views.workers c.self.inside.views) 0 (none_waits c.self.inside.state (g.V.Views.workers c.self.inside.views) (g.V.Views.waiting c.self.inside.views) c.self.inside.passed 0 (let v = c.self.invariant.viewers_are in let l = c.self.invariant.kept.some in omega (arith, v, l)) up) in
    let none = has_passed_back (g.V.Views.graph c.self.inside.views) (g.V.Views.content c.self.inside.views) c.self.inside.state c.self.invariant.kept c.args.output c.args.epoch h in
    c.is_past.ensures.seen.1 (λ q is could. none q ((exactly q).0 is) could))

pub returns-clause-known : goal.returns-clause-known
returns-clause-known g c =
    let P : BoardShown → Type 0 = λ z. IsOutputPlace z.shown c.args.output → c.args.epoch < z.passed → IsTrue c.is_past.result in
    subst P c.self.view_is (λ there l. c.is_past.ensures.seen.1 (c.self.invariant.passed_seen c.args.epoch l c.args.output there)) c.requires
