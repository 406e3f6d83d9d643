use Rattle.std.proofs.Common.{◌≡◌, ◌∙◌, List, Option, ℕ, ap, subst, sym}
use Rattle.graph.specs.Shown.{GraphValue}
use Rattle.board.specs.Lateness.{BoardShown}
use Rattle.collector.specs.Watching.{inner_of}
use Rattle.commands.specs.Answers.{RespondsBy}
use Rattle.commands.proofs.graph_answer.respond_on.Goals as goal
use Rattle.commands.proofs.graph_answer.respond_on.Goals.{then-is_ok, else-is_ok}

pub returns-in-Ok-execute-clause-text : goal.returns-in-Ok-execute-clause-text
returns-in-Ok-execute-clause-text g c =
    let old = g.W.Write.contents (inner_of c.args.streams.now.out) in
    let same : g.W.Write.contents (inner_of c.if-is_ok.streams.out) ≡ g.W.Write.contents (inner_of c.write_emitted-done.new.writer) =
    elim c.if-is_ok.branch [
      | then-is_ok w ↦ ap (λ s. g.W.Write.contents (inner_of s.out)) w.streams-is
      | else-is_ok w ↦ ap (λ s. g.W.Write.contents (inner_of s.out)) w.streams-is
    ] in
    let graph = c.in-Ok-execute.ensures.worked.same ∙ ap (λ (b : BoardShown). b.shown.graph) c.in-Ok.ensures.board in
    let text : RespondsBy c.args.board.shown.graph c.args.task.epochs.now old (g.W.Write.contents (inner_of c.write_emitted-done.new.writer)) c.write_emitted-done.result =
    subst (λ (x : GraphValue). RespondsBy x c.args.task.epochs.now old (g.W.Write.contents (inner_of c.write_emitted-done.new.writer)) c.write_emitted-done.result) graph c.write_emitted-done.ensures.text in
    subst (λ (x : Option (List ℕ)). RespondsBy c.args.board.shown.graph c.args.task.epochs.now old x c.write_emitted-done.result) (sym same) text
