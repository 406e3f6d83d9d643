use Rattle.std.proofs.Common.{◌≡◌, ◌-◌, ◌+◌, [], ◌∷◌, suc, arith, ap}
use Rattle.semantics.specs.Kinds as semantics
use Rattle.semantics.specs.Lower.{new_vertex, port}
use Rattle.lowering.proofs.MoreVertices.{closed_made}
use Rattle.lowering.proofs.loops.close_loop.Goals as goal

pub returns-clause-made : goal.returns-clause-made
returns-clause-made c =
    let h = c.requires.made in
    let e : c.args.depth + 1 ≡ suc c.args.depth = omega arith in
    closed_made c.args.made.now.items c.add_vertex.new.made.items c.set_concat.new.made.items c.add_vertex-2.new.made.items (c.args.gate.vertex.0 - 1) _ _ _ _ (omega arith) (rw e at (c.in_ok-feedback.ensures.made)) (rw e at (c.set_concat.ensures)) (rw e at (c.in_ok-egress.ensures.made)) (ap (λ q. new_vertex semantics.Kind.concat (suc c.args.depth) (port (c.args.gate.vertex.0 - 2) 0 ∷ q ∷ [])) c.in_ok-feedback.ensures.gives)
