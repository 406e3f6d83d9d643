use Rattle.std.proofs.Common.{◌∙◌, ap, length, rules, sym}
use Rattle.std.proofs.lemmas.List.{length-map}
use Rattle.graph.specs.Shown.{shown_inputs}
use Rattle.record_core.specs.Inputs.{input_of}
use Rattle.commands.proofs.in_memory.InMemoryAnswering.begin.Goals as goal

pub returns : goal.returns
returns g c = (
  search rules,
  c.in-Ok.ensures (shown_inputs c.in_ok-graph.graph) (sym (ap length c.inputs.ensures) ∙ length-map c.inputs.result.now input_of),
)
