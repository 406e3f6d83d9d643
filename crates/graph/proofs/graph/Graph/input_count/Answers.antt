use Rattle.std.proofs.Common.{inl, inr, sym, ◌∙◌, arith}
use Rattle.graph.specs.Shown.{shown_graph}
use Rattle.graph.proofs.Inputs.{inputs_before}
use Rattle.graph.proofs.graph.Graph.input_count.Goals as goal

pub returns-then-not-is_input-clause-value : goal.returns-then-not-is_input-clause-value
returns-then-not-is_input-clause-value c =
    inputs_before (shown_graph c.args.self.now) c.loop-number.number (omega (arith, c.loop-number-test.true, c.vertex_count-number-end.ensures.value)) c.loop-number.invariant (inr (sym c.is_input.ensures ∙ c.if-not-is_input.true))

pub returns-clause-value : goal.returns-clause-value
returns-clause-value c =
    inputs_before (shown_graph c.args.self.now) c.vertex_count.result (omega (arith, c.vertex_count.ensures.value))
    (λ j l. c.loop-number.invariant j (omega (arith, l, c.vertex_count.ensures.value, c.vertex_count-number-end.ensures.value, c.loop-number-test.false))) (inl c.vertex_count.ensures.value)
