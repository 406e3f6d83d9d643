use Rattle.std.proofs.Common.{arith}
use Rattle.lowering.proofs.Scopes.{split_first}
use Rattle.lowering.proofs.WholePrograms.{input_bound}
use Rattle.lowering.proofs.MoreVertices.{number_of}
use Rattle.lowering.proofs.program.+lower_inputs.Goals as goal

pub returns-in_ok-bind-in-len1-up-clause-names : goal.returns-in_ok-bind-in-len1-up-clause-names
returns-in_ok-bind-in-len1-up-clause-names t c =
    let k = number_of c.args.made.now.items c.add_vertex.new.made.items _ c.in_ok-port-in-len1-up.ensures.made in
    input_bound _ _ _ _ _ _ _ _ (split_first c.args.inputs.now c.input-item.result c.in-len1-up.len_at_least c.input-item.is) (omega (arith, k)) c.in_ok-lower_inputs-in-len1-up.ensures.names c.in_ok-port-in-len1-up.ensures.gives c.in_ok-bind-in-len1-up.ensures.ok
