use Rattle.std.proofs.Common.{arith}
use Rattle.std.proofs.Math.Logic.{∥∥₁_map}
use Rattle.path_summary.specs.Linking.{Draws}
use Rattle.graph.specs.Shown.{shown_graph, shown_inputs}
use Rattle.graph.proofs.EdgeTables.{few_edges}
use Rattle.graph.proofs.Numbers.{length_graph_of}
use Rattle.path_summary.proofs.WholeTables.{source_known, dataflow_known, links_nested}
use Rattle.path_summary.proofs.links.Links.of.Goals as goal

pub edges_of-requires-clause-few : goal.edges_of-requires-clause-few
edges_of-requires-clause-few c =
    let vs = c.args.graph.now.vertices in
    omega (arith, few_edges vs, length_graph_of vs, c.in_ok-depths.ensures.long, c.in_ok-depths.ensures.few)

pub edges_of-requires-clause-fed : goal.edges_of-requires-clause-fed
edges_of-requires-clause-fed c = source_known (shown_graph c.args.graph.now) (shown_inputs c.args.graph.now) c.law_of_program.ensures c.law_program.ensures.dataflow

pub returns-clause-edges : goal.returns-clause-edges
returns-clause-edges c =
    let vs = c.args.graph.now.vertices in
    omega (arith, few_edges vs, length_graph_of vs, c.in_ok-depths.ensures.long, c.in_ok-depths.ensures.few, c.in_ok-edges.ensures.long)

pub returns-clause-loops : goal.returns-clause-loops
returns-clause-loops c =
    let g = shown_graph c.args.graph.now in
    let draws : Draws (record { depths = c.in_ok-depths.depths.items; edges = c.in_ok-edges.edges.items }) g = record {
      vertices = c.in_ok-depths.ensures.long;
      depth = c.in_ok-depths.ensures.each;
      edges = c.in_ok-edges.ensures.long;
      edge = λ e k h n. c.in_ok-edges.ensures.each e k h;
    } in
    ∥∥₁_map (dataflow_known g (shown_inputs c.args.graph.now) c.law_of_program.ensures c.law_program.ensures.dataflow) (λ d. links_nested g _ draws d)
