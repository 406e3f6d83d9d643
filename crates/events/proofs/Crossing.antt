-- An event may go to another thread, with what it is computed by: each layer, from the inside out.
use denote.Param.Send.{IsSend, IsSync, sendable}
use Rattle.std.proofs.Crossing.{crosses}
use Rattle.std.specs.contracts.alloc.Global as heap
use Rattle.std.specs.contracts.impls.GlobalAllocator.TheImpl as allocates
use Rattle.expr_tree.specs.contracts.scalar.Scalar as scalar
use Rattle.expr_tree.specs.contracts.condition.Cond as condition
use Rattle.graph.specs.contracts.graph.Graph as graph
use Rattle.graph.specs.contracts.vertex.Kind as kind
use Rattle.graph.specs.contracts.vertex.Vertex as vertex
use Rattle.events.specs.contracts.wiring.Wiring as wiring
use Rattle.operators.specs.contracts.filter.Where as filter
use Rattle.operators.specs.contracts.select.Select as select
use Rattle.vertices.specs.contracts.shard.Shard as shard
use Rattle.vertices.specs.contracts.stateless.Stateless as stateless
use Rattle.vertices.proofs.stateful.Stateful.TheSendSync as statefuls
use Rattle.vertices.proofs.notified.Notified.TheSendSync as notifieds
use Rattle.events.specs.contracts.event.Event as event
use Rattle.events.specs.contracts.work.Work as work
use Rattle.events.specs.contracts.work.Done as done
use Rattle.events.specs.contracts.work.Output as output
use Rattle.expr_tree.proofs.scalar.Scalar.TheLaws.TheKnot as scalars
use Rattle.expr_tree.proofs.condition.Cond.TheLaws.TheKnot as conditions
use Rattle.expr_tree.proofs.relation.Pair.TheSendSync as pairs
use Rattle.expr_tree.proofs.relation.Column.TheSendSync as columns
use Rattle.expr_tree.proofs.relation.Agg.TheSendSync as aggregates
use Rattle.graph.proofs.vertex.Sources.TheSendSync as sources
use Rattle.record_core.proofs.input.DeclaredInput.TheSendSync as declared
use Rattle.graph.proofs.graph.GraphOutput.TheSendSync as graph_outputs
use Rattle.graph.proofs.edges.Edge.TheSendSync as edges
use Rattle.events.proofs.wiring.Fanout.TheSendSync as fanouts
use Rattle.events.proofs.happening.Happening.TheSendSync as happenings
use Rattle.events.proofs.happening.Request.TheSendSync as requests
use Rattle.events.proofs.letter.Letter.TheSendSync as letters
use Rattle.path_summary.proofs.pointstamp.Pointstamp.TheSendSync as pointstamps
use Rattle.rows.proofs.batch.Batch.TheSendSync as batches
use Rattle.tokens.proofs.tie.Stub.TheSendSync as stubs
use Rattle.exchange.proofs.cuts.Cuts.TheSendSync as cuts

scalar_sync : IsSync (scalar.the_row heap.the_row allocates.ghosts)
scalar_sync = search (sendable, crosses, scalars.sync-Scalar) depth 20

scalar_send : IsSend (scalar.the_row heap.the_row allocates.ghosts)
scalar_send = search (sendable, crosses, scalars.send-Scalar) depth 20

scalar_field_sync : IsSync (scalar.the_field heap.the_row allocates.ghosts).row
scalar_field_sync = search (sendable, crosses, scalars.sync-Scalar) depth 20

scalar_field_send : IsSend (scalar.the_field heap.the_row allocates.ghosts).row
scalar_field_send = search (sendable, crosses, scalars.send-Scalar) depth 20

condition_sync : IsSync (condition.the_row heap.the_row allocates.ghosts)
condition_sync = search (sendable, crosses, conditions.sync-Cond, scalar_field_sync) depth 20

condition_send : IsSend (condition.the_row heap.the_row allocates.ghosts)
condition_send = search (sendable, crosses, conditions.send-Cond, scalar_field_send) depth 20

condition_field_send : IsSend (condition.the_field heap.the_row allocates.ghosts).row
condition_field_send = search (sendable, crosses, conditions.send-Cond, scalar_field_send) depth 20

kind_field_sync : IsSync kind.the_field.row
kind_field_sync = search (sendable, crosses, scalar_sync, condition_sync, pairs.the_sync, columns.the_sync, aggregates.the_sync) depth 20

kind_field_send : IsSend kind.the_field.row
kind_field_send = search (sendable, crosses, scalar_send, condition_send, pairs.the_send, columns.the_send, aggregates.the_send) depth 20

vertex_sync : IsSync vertex.the_row
vertex_sync = search (sendable, crosses, kind_field_sync, sources.the_field_sync) depth 20

vertex_send : IsSend vertex.the_row
vertex_send = search (sendable, crosses, kind_field_send, sources.the_field_send) depth 20

pub graph_sync : IsSync graph.the_row
graph_sync = search (sendable, crosses, vertex_sync, declared.the_sync, graph_outputs.the_sync, edges.the_sync) depth 20

pub graph_send : IsSend graph.the_row
graph_send = search (sendable, crosses, vertex_send, declared.the_send, graph_outputs.the_send, edges.the_send) depth 20

pub wiring_sync : IsSync wiring.the_row
wiring_sync = search (sendable, crosses, graph_sync, graph_send, fanouts.the_sync) depth 20

pub wiring_send : IsSend wiring.the_row
wiring_send = search (sendable, crosses, graph_sync, graph_send, fanouts.the_send) depth 20

filter_send : IsSend filter.the_field.row
filter_send = search (sendable, crosses, condition_field_send) depth 20

select_send : IsSend select.the_field.row
select_send = search (sendable, crosses, scalar_send) depth 20

stateless_send : IsSend stateless.the_field.row
stateless_send = search (sendable, crosses, filter_send, select_send) depth 20

pub shard_send : IsSend shard.the_row
shard_send = search (sendable, crosses, stateless_send, statefuls.the_field_send, notifieds.the_field_send) depth 40

pub event_send : IsSend event.the_row
event_send = search (sendable, crosses, shard_send, wiring_send, wiring_sync, cuts.the_field_send, happenings.the_field_send) depth 20

output_field_send : IsSend output.the_field.row
output_field_send = search (sendable, crosses, wiring_send, wiring_sync, cuts.the_field_send, shard_send, letters.the_send, requests.the_send, pointstamps.the_send, batches.the_send) depth 40

pub work_send : IsSend work.the_row
work_send = search (sendable, crosses, event_send, stubs.the_send) depth 20

pub done_send : IsSend done.the_row
done_send = search (sendable, crosses, output_field_send, event_send, stubs.the_send) depth 40
