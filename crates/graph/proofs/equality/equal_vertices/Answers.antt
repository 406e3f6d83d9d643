use Rattle.std.proofs.Common.{sym, ◌∙◌}
use Rattle.std.specs.Cmp.Derive.Mapped.{pointwise-map}
use Rattle.graph.specs.Equality.{vertex_eq}
use Rattle.graph.specs.Views.{vertex_of}
use Rattle.graph.proofs.equality.equal_vertices.Goals as goal

pub returns : goal.returns
returns c = c.eq.ensures ∙ sym (pointwise-map vertex_of vertex_eq c.args.left.now c.args.right.now)
