use Rattle.std.proofs.Common.{subst, sym}
use Rattle.console.specs.Transcribed.{IsClosed}
use Rattle.console.proofs.OpenedTexts.{followed_closed}
use Rattle.console.proofs.named_texts.follow_named.Goals as goal

pub returns-clause-read : goal.returns-clause-read
returns-clause-read g c =
    let query = c.open_named-query in
    let input = c.open_marked-input in
    let done = c.follow_query-done in
    followed_closed (g.Q.Sources.content c.args.task.query.queries.now) c.keep_input.new.self.transcripts c.args.task.query.name.now _ query.result done.new.query query.ensures.name query.ensures.plain query.ensures.content query.ensures.none
    (subst (λ k. IsClosed k (record query.result { text = done.new.query })) (sym c.keep_input.ensures.other) c.keep_query.ensures.closed)
    c.args.task.input.now input.result done.new.input input.ensures.name c.args.task.end_mark input.ensures.marked input.ensures.none c.keep_input.ensures.closed
    _ _ _ _ done.result done.ensures.handed
