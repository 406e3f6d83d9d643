use Rattle.std.proofs.Common.{◌≡◌, [], subst, slice_index_or}
use Rattle.semantics.specs.Graph.{output_number}
use Rattle.graph.specs.Shown.{shown_graph}
use Rattle.board.specs.Shown.{emitted_by}
use Rattle.board.proofs.Looked.{looks_more}
use Rattle.board.specs.Lateness.{BoardShown}
use Rattle.board.proofs.board.Board.look_at_outputs.Goals as goal

pub loop-output-preserved : goal.loop-output-preserved
loop-output-preserved g c =
    let P : BoardShown → Type 0 = λ z. c.in_ok-share_emitted.field-0 ≡ slice_index_or (emitted_by z.shown.emitted (output_number (shown_graph z.shown.graph) c.loop-output.output)) c.args.epoch [] in
    looks_more c.args.self.now c.args.epoch c.loop-output.output c.loop-output.outputs.items c.push.new.self.items _ c.in_ok-push.ensures.items
    (record { emitted = subst P c.self.view_is c.in_ok-share_emitted.ensures; called = c.passed.ensures.called; passed = c.passed.ensures.passed; seen = c.passed.ensures.seen; known = c.passed.ensures.known }) c.loop-output.invariant
