use Rattle.std.proofs.Common.{map}
use Rattle.expr_tree.specs.Views.{program_tree}
use Rattle.query_kinds.proofs.listing.kinds_text.Goals as goal

pub returns-clause-text : goal.returns-clause-text
returns-clause-text g c = record {
  tree = program_tree c.program-program.result.now;
  arities = c.output_arities.result.now;
  kinds = (map (λ w. w.items) c.in_ok-_kinds._kinds.inputs.items, map (λ w. w.items) c.in_ok-_kinds._kinds.outputs.items);
  read = rw c.program-program.ensures.value (c.in_ok-typed.ensures.typed);
  typed = rw c.output_arities.ensures c.program-program.ensures.typed;
  goes = c.in_ok-_kinds.ensures;
  is_text = c.in_ok-text.ensures;
}
