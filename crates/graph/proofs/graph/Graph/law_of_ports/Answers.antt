use Rattle.graph.specs.Shown.{shown_arities, shown_graph, shown_inputs}
use Rattle.graph.proofs.FittingPorts.{typed_ports}
use Rattle.graph.proofs.graph.Graph.law_of_ports.Goals as goal

pub returns : goal.returns
returns c = typed_ports (shown_graph c.args.self.now) (shown_inputs c.args.self.now) (shown_arities c.args.self.now) c.law_of_arities.ensures c.law_arities.ensures.ports c.law_program.ensures.dataflow
