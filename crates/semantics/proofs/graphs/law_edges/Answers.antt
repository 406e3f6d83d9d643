use Rattle.semantics.proofs.EdgeNumbers.{entered, into}
use Rattle.semantics.proofs.graphs.law_edges.Goals as goal

pub returns-clause-entered : goal.returns-clause-entered
returns-clause-entered c = λ g edge l. let e = entered g edge l in (e.known, e.port, e.back)

pub returns-clause-into : goal.returns-clause-into
returns-clause-into c = λ g v port l. let e = into g v port l in (e.known, e.edge, e.vertex, e.port)
