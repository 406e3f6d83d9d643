use Rattle.graph.specs.Shown.{shown_graph, shown_inputs}
use Rattle.path_summary.proofs.WholeTables.{dataflow_known}
use Rattle.path_summary.proofs.paths.Paths.of.Goals as goal

pub rows_of-requires : goal.rows_of-requires
rows_of-requires c = record { few = c.in_ok-links.ensures.few; edges = c.in_ok-links.ensures.edges; loops = c.in_ok-links.ensures.loops }

pub invariant_of-result : goal.invariant_of-result
invariant_of-result c =
    record {
      draws = rw c.deref-2.ensures at c.in_ok-links.ensures.draws;
      dataflow = dataflow_known (shown_graph c.in_ok-graph.graph.value) (shown_inputs c.in_ok-graph.graph.value) (rw c.deref.ensures at c.law_of_program.ensures) c.law_program.ensures.dataflow;
      long = c.in_ok-rows.ensures.long;
      packed = c.in_ok-rows.ensures.packed;
    }
