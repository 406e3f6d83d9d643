use Rattle.std.proofs.Common.{◌≡◌, ap, ◌∙◌, arith}
use Rattle.semantics.specs.Could.{on_edge}
use Rattle.semantics.specs.Time.{Time}
use Rattle.machine.specs.Active.{message_pointstamp}
use Rattle.board.proofs.MergedMail.{are_back, are_merged, left_at, may_merge, still_there, there}
use Rattle.board.proofs.merging.merge.Goals as goal

pub overflow_add-place : goal.overflow_add-place
overflow_add-place c = omega (arith, c.if-not-are_alike.ensures.fits)

pub take-second-requires : goal.take-second-requires
take-second-requires c = there c.args.mailbox.now.messages c.args.place c.if-not-are_alike.ensures.alike

pub merge-merged-requires : goal.merge-merged-requires
merge-merged-requires c =
    may_merge c.args.mailbox.now.messages c.args.place c.if-not-are_alike.ensures.alike c.take-second.result c.take-first.result c.take-second.new.self.messages c.take-first.new.self.messages c.take-second.ensures.value
    c.take-second.ensures.messages c.take-first.ensures.value c.take-first.ensures.messages

pub overflow_add-place-in-Err : goal.overflow_add-place-in-Err
overflow_add-place-in-Err c = omega (arith, c.if-not-are_alike.ensures.fits)

pub put_at-requires-clause-place : goal.put_at-requires-clause-place
put_at-requires-clause-place c =
    still_there c.args.mailbox.now.messages c.args.place c.if-not-are_alike.ensures.alike c.take-first.new.self.messages c.put_first.new.self.messages c.merge-merged.new.self
    (left_at c.args.mailbox.now.messages c.args.place c.if-not-are_alike.ensures.alike c.take-second.result c.take-first.result c.take-second.new.self.messages c.take-first.new.self.messages c.take-second.ensures.value
    c.take-second.ensures.messages c.take-first.ensures.value c.take-first.ensures.messages) c.put_first.ensures.messages

pub returns-in-Ok-clause-merged : goal.returns-in-Ok-clause-merged
returns-in-Ok-clause-merged c =
    let ends : c.new-ends.result ≡ message_pointstamp c.take-second.result =
    c.new-ends.ensures ∙ ap (λ (t : Time). on_edge c.edge.result.0 t) (c.copied.ensures ∙ c.time.ensures) ∙ ap (λ e. on_edge e c.take-second.result.time) c.edge.ensures in
    are_merged c.args.mailbox.now.messages c.args.place c.if-not-are_alike.ensures.alike c.take-second.result c.take-first.result c.take-second.new.self.messages c.take-first.new.self.messages c.take-second.ensures.value
    c.take-second.ensures.messages c.take-first.ensures.value c.take-first.ensures.messages c.merge-merged.new.self c.put_first.new.self.messages c.new-ends.result c.in-Ok.ensures.merged c.put_first.ensures.messages ends

pub returns-in-Err-clause-same : goal.returns-in-Err-clause-same
returns-in-Err-clause-same c =
    are_back c.args.mailbox.now.messages c.args.place c.if-not-are_alike.ensures.alike c.take-second.result c.take-first.result c.take-second.new.self.messages c.take-first.new.self.messages c.take-second.ensures.value
    c.take-second.ensures.messages c.take-first.ensures.value c.take-first.ensures.messages c.merge-merged.new.self c.put_first.new.self.messages c.in-Err.second c.put_at.new.self.messages c.in-Err.ensures.same c.put_first.ensures.messages
    c.in-Err.ensures.back c.put_at.ensures.messages
