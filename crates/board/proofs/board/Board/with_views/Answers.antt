use Rattle.std.proofs.Common.{◌≡◌, ◌+◌, ℕ, length, sym, ap, ◌∙◌, subst, arith}
use Rattle.semantics.specs.Dataflow.{IsDataflow}
use Rattle.semantics.specs.Graph.{input_count}
use Rattle.semantics.specs.PortArity.{IsTyped}
use Rattle.graph.specs.Shown.{GraphValue, shown_graph}
use Rattle.views.specs.Opening.{active_at_first}
use Rattle.board.specs.Fitting.{arity_in}
use Rattle.board.specs.Shown.{Shown}
use Rattle.board.proofs.Counted.{few_open}
use Rattle.board.proofs.Counts.{have_new}
use Rattle.board.proofs.Lateness.{up_to_date}
use Rattle.board.proofs.Opened.{kept_new, shows_new}
use Rattle.board.proofs.board.Board.with_views.Goals as goal

nothing_more : (a b : ℕ) → b ≡ 0 → a + b ≡ a
nothing_more a b e = omega (arith, e)

pub invariant_of-result : goal.invariant_of-result
invariant_of-result g c =
    let s : Shown = c.in_ok-state.state in
    let A : GraphValue → Type 0 = λ x. IsDataflow (shown_graph x) in
    let B : GraphValue → Type 0 = λ x. IsTyped (shown_graph x) (arity_in x) in
    let is = c.in_ok-state.ensures in
    let same : (g.V.Views.graph c.reserve.new.self) ≡ shown_graph s.graph = c.reserve.ensures.graph ∙ c.requires.same ∙ ap shown_graph (sym is.graph) in
    let many : (g.V.Views.workers c.reserve.new.self) ≡ length s.sides = c.reserve.ensures.workers ∙ c.requires.viewers ∙ sym is.sides.long in
    let count : c.input_count.result ≡ input_count (shown_graph s.graph) = c.input_count.ensures.value ∙ ap (λ (x : GraphValue). input_count (shown_graph x)) c.graph-plan.ensures in
    record {
      kept = kept_new (g.V.Views.graph c.reserve.new.self) (g.V.Views.content c.reserve.new.self) c.args.graph.value c.args.workers s is c.requires.some c.requires.few
          (subst A c.graph-plan.ensures c.law_of_dataflow.ensures) same (subst B c.graph-plan.ensures c.law_of_ports.ensures)
          (λ q. c.reserve.ensures.content q ∙ c.requires.first q ∙ ap (λ (x : GraphValue). active_at_first (shown_graph x) q) (sym is.graph)
          ∙ sym (c.law_active.ensures.opening (shown_graph s.graph) (length s.sides) q));
      viewers_are = many;
      closes = (let r = c.in_ok-reserve.ensures.room in let o = few_open s.inputs in let k = is.inputs ∙ ap (λ (x : GraphValue). input_count (shown_graph x)) (sym is.graph) in omega (arith, r, o, k, count));
      prompt = λ late w k l m. c.reserve.ensures.waiting w k ∙ c.requires.none w k (let e = c.reserve.ensures.workers in let v = c.requires.viewers in omega (arith, l, e, v));
      passed_are = have_new s;
      passed_seen = λ e l. absurd (omega (arith, l));
    }

pub returns-clause-shows : goal.returns-clause-shows
returns-clause-shows g c = shows_new c.args.graph.value c.args.workers c.in_ok-state.state c.in_ok-state.ensures

pub returns-clause-prompt : goal.returns-clause-prompt
returns-clause-prompt g c w =
    up_to_date c.in_ok-state.state (g.V.Views.workers c.reserve.new.self) (g.V.Views.waiting c.reserve.new.self) 0 w (λ k l m. c.reserve.ensures.waiting w k ∙ c.requires.none w k (let e = c.reserve.ensures.workers in let v = c.requires.viewers in omega (arith, l, e, v)))
