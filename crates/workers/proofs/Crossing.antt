-- Threads may share an engine: each layer, from the inside out.
use denote.RattleType.{RattleType}
use denote.Param.Send.{IsSend, IsSync, sendable}
use Rattle.std.proofs.Crossing.{crosses}
use Rattle.path_summary.specs.contracts.paths.Paths as paths
use Rattle.board.specs.contracts.worker.Worker as worker
use Rattle.board.specs.contracts.state.State as state
use Rattle.workers.specs.contracts.engine.Engine as engine
use Rattle.workers.specs.declared.held.Naming as naming
use Rattle.views.specs.declared.views.Views as viewing
use Rattle.views.specs.contracts.direct.Direct as direct
use Rattle.views.specs.contracts.local_views.LocalViews as local_views
use Rattle.views.proofs.queue.Queue.TheSendSync as queues
use Rattle.workers.proofs.mark.Publisher.TheSendSync as publishers
use Rattle.driver.proofs.tally.Tally.TheSendSync as tallies
use Rattle.board.specs.contracts.slot.Slot as slot
use Rattle.progress.specs.contracts.tree.Tree as tree
use Rattle.progress.specs.contracts.tree.Room as room
use Rattle.progress.specs.contracts.located.LocationTracker as tracker
use Rattle.progress.proofs.tree.Tree.TheLaws.TheKnot as trees
use Rattle.graph.proofs.location.Location.TheSendSync as locations
use Rattle.events.proofs.message.Message.TheSendSync as messages
use Rattle.events.proofs.happening.Request.TheSendSync as requests
use Rattle.exchange.proofs.mailbox.Mailbox.TheSendSync as mailboxes
use Rattle.tokens.proofs.tie.Tie.TheSendSync as ties
use Rattle.path_summary.proofs.pointstamp.Pointstamp.TheSendSync as pointstamps
use Rattle.board.proofs.inputs.Input.TheSendSync as inputs
use Rattle.board.proofs.lag.Lag.TheSendSync as lags
use Rattle.board.proofs.emitted.Emitted.TheSendSync as emitted
use Rattle.path_summary.proofs.links.Links.TheSendSync as links
use Rattle.path_summary.proofs.kept.Kept.TheSendSync as kept
use Rattle.path_summary.proofs.summaries.Summaries.TheSendSync as summaries
use Rattle.exchange.proofs.cuts.Cuts.TheSendSync as cuts
use Rattle.events.proofs.Crossing.{event_send, graph_send, graph_sync, shard_send, wiring_send, wiring_sync}

paths_sync : IsSync paths.the_row
paths_sync = search (sendable, crosses, graph_sync, graph_send, links.the_sync, kept.the_sync, summaries.the_sync) depth 20

paths_send : IsSend paths.the_row
paths_send = search (sendable, crosses, graph_sync, graph_send, links.the_send, kept.the_send, summaries.the_send) depth 20

tree_send : IsSend tree.the_row
tree_send = search (sendable, crosses, trees.send-Tree) depth 20

room_send : IsSend room.the_row
room_send = search (sendable, crosses, tree_send) depth 20

tracker_send : IsSend tracker.the_row
tracker_send = search (sendable, crosses, paths_sync, paths_send, tree_send, room_send, locations.the_send) depth 20

pub direct_send : IsSend (direct.the_row tracker.the_row)
direct_send = search (sendable, crosses, tracker_send) depth 20

pub local_views_send : IsSend local_views.the_row
local_views_send = search (sendable, crosses, paths_sync, paths_send, tracker_send, queues.the_send) depth 20

slot_send : IsSend slot.the_row
slot_send = search (sendable, crosses, shard_send) depth 20

worker_send : IsSend worker.the_row
worker_send =
    let sent = slot_send in
    search (sendable, crosses, event_send, wiring_send, wiring_sync, cuts.the_field_send, mailboxes.the_send, messages.the_send, requests.the_send, ties.the_send) depth 20

state_field_send : IsSend state.the_field.row
state_field_send = search (sendable, crosses, worker_send, wiring_send, wiring_sync, inputs.the_send, emitted.the_send) depth 20

-- a `&` of an engine may go to any thread if the views may, whatever type names its board
pub engine_sync : (J V : RattleType) (n : naming.Ghosts J.Denot) (v : viewing.Ghosts V.Denot)
    → IsSend J → IsSync J → IsSend V → IsSync (engine.the_row J V n v)
engine_sync J V n v s y w = search (sendable, crosses, state_field_send, lags.the_send, pointstamps.the_send, publishers.the_send, tallies.the_send, wiring_sync, wiring_send) depth 40
