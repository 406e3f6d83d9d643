use Rattle.std.proofs.Common.{◌<◌, slice_index_or, ap, sym, subst}
use Rattle.std.proofs.lemmas.List.{get_or_default}
use Rattle.graph.specs.declared.edges.Edge.{Edge}
use Rattle.graph.specs.Edges.{Ends}
use Rattle.graph.specs.Shown.{shown_graph}
use Rattle.graph.proofs.EdgeTables.{edge_shown}
use Rattle.graph.proofs.graph.Graph.edge.Goals as goal

pub returns-clause-source : goal.returns-clause-source
returns-clause-source c =
    let d : Edge = record { source = record { vertex = record { 0 = 0 }; out = 0 }; target = record { 0 = 0 }; in_port = 0 } in
    let es = c.edges-edges.result.now in
    let e = slice_index_or es c.args.id.0 d in
    let l = subst (λ n. c.args.id.0 < n) (sym c.edges-edges.ensures.count) c.requires in
    ap (λ (x : Ends). x.source) (edge_shown es (shown_graph c.args.self.now) c.args.id.0 e c.edges-edges.ensures.value c.requires (get_or_default es c.args.id.0 d e l))

pub returns-clause-target : goal.returns-clause-target
returns-clause-target c =
    let d : Edge = record { source = record { vertex = record { 0 = 0 }; out = 0 }; target = record { 0 = 0 }; in_port = 0 } in
    let es = c.edges-edges.result.now in
    let e = slice_index_or es c.args.id.0 d in
    let l = subst (λ n. c.args.id.0 < n) (sym c.edges-edges.ensures.count) c.requires in
    ap (λ (x : Ends). x.target) (edge_shown es (shown_graph c.args.self.now) c.args.id.0 e c.edges-edges.ensures.value c.requires (get_or_default es c.args.id.0 d e l))

pub returns-clause-in_port : goal.returns-clause-in_port
returns-clause-in_port c =
    let d : Edge = record { source = record { vertex = record { 0 = 0 }; out = 0 }; target = record { 0 = 0 }; in_port = 0 } in
    let es = c.edges-edges.result.now in
    let e = slice_index_or es c.args.id.0 d in
    let l = subst (λ n. c.args.id.0 < n) (sym c.edges-edges.ensures.count) c.requires in
    ap (λ (x : Ends). x.in_port) (edge_shown es (shown_graph c.args.self.now) c.args.id.0 e c.edges-edges.ensures.value c.requires (get_or_default es c.args.id.0 d e l))
