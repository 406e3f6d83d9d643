use Rattle.std.proofs.Math.Logic.{∥∥₁_map}
use Rattle.graph.proofs.graph.Graph.new.Goals as goal

pub invariant_of-result : goal.invariant_of-result
invariant_of-result c =
    let e = rw c.deref.ensures.value at (c.in_ok-edges.ensures) in
    (∥∥₁_map c.requires.program (λ h. (h.0, h.1, h.2, h.3, h.4)), e, c.requires.few, c.requires.program, c.requires.dataflow, c.requires.outputs)
