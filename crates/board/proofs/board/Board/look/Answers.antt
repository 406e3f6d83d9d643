use Rattle.std.proofs.Common.{[], ℕ, refl, sym, ap, ◌∙◌, subst, slice_index_or}
use Rattle.semantics.specs.Query.{Program}
use Rattle.events.specs.Wired.{Wired}
use Rattle.board.specs.Lateness.{BoardShown}
use Rattle.board.specs.Looks.{AreOutputLooks, IsLookAt, LookShown}
use Rattle.board.specs.Promises.{KeepsPromise, RunsProgram}
use Rattle.board.proofs.Lateness.{board_of}
use Rattle.board.proofs.Looked.{fed_at, promised}
use Rattle.board.proofs.board.Board.look.Goals as goal

pub of-requires : goal.of-requires
of-requires g c =
    let b : BoardShown = board_of c.self.inside.state (g.V.Views.workers c.self.inside.views) (g.V.Views.waiting c.self.inside.views) (g.V.Views.behind c.self.inside.views 0) c.self.inside.passed in
    let e : ℕ = c.args.epoch in
    let l : LookShown = record { graph = c.in_ok-wiring.wiring.value.graph; epoch = e; fed = c.in_ok-fed.fed.items; outputs = c.in_ok-outputs.outputs.items } in
    let P : BoardShown → Type 0 = λ z. AreOutputLooks z e c.in_ok-outputs.outputs.items in
    let Q : BoardShown → Type 0 = λ z. (p : Program) → RunsProgram p z.shown → KeepsPromise p z.shown in
    let keeps = subst Q (sym c.self.view_is) c.law_headline.ensures in
    let look : IsLookAt b e l =
    record {
      graph = ap (λ (w : Wired). w.graph) c.in_ok-wiring.ensures;
      epoch = refl;
      fed = λ i. ap (λ xs. slice_index_or xs i []) c.in_ok-fed.ensures ∙ fed_at c.self.inside.state.inputs e i;
      outputs = subst P (sym c.self.view_is) c.in_ok-outputs.ensures;
    } in
    promised b e l look keeps
