use Rattle.semantics.proofs.VertexLaws.{op_nothing, op_parts}
use Rattle.semantics.proofs.OneFlow.{op_same}
use Rattle.semantics.proofs.MonotoneVertices.{op_more}
use Rattle.semantics.proofs.FieldsKept.{op_fields}
use Rattle.semantics.proofs.vertices.law_vertex.Goals as goal

pub returns-clause-nothing : goal.returns-clause-nothing
returns-clause-nothing c = op_nothing

pub returns-clause-parts : goal.returns-clause-parts
returns-clause-parts c = op_parts

pub returns-clause-equal : goal.returns-clause-equal
returns-clause-equal c = op_same

pub returns-clause-more : goal.returns-clause-more
returns-clause-more c = op_more

pub returns-clause-fields : goal.returns-clause-fields
returns-clause-fields c = op_fields
