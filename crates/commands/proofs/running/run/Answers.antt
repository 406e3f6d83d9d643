use Rattle.std.proofs.Common.{List, ℕ, IfOk, subst}
use Rattle.collector.specs.Watching.{inner_of}
use Rattle.compile.specs.Early.{NotesEarly}
use Rattle.commands.specs.Reported.{ReportsOver}
use Rattle.commands.proofs.HandedOver.{run_unread}
use Rattle.commands.proofs.running.run.Goals as goal

pub returns-in-Err-clause-handed : goal.returns-in-Err-clause-handed
returns-in-Err-clause-handed g c = run_unread g.Q.Read.remaining c.args.query.now c.read_texts.new.query c.args.input.now c.read_texts.new.input (g.W.Write.contents (inner_of c.args.streams.now.out)) c.in-Err.fault c.in-Err.ensures.part c.in-Err.ensures.unread

pub returns-clause-counts : goal.returns-clause-counts
returns-clause-counts g c =
    let old = g.E.Write.contents c.args.streams.now.err in
    let new = g.E.Write.contents c.answer-done.new.streams.err in
    subst (λ (q : List ℕ). ReportsOver c.args.options.stats q c.read_texts.new.texts.input.items old new) c.deref.ensures.value
    (subst (λ (i : List ℕ). ReportsOver c.args.options.stats c.deref.result.now i old new) c.deref-2.ensures.value c.answer-done.ensures.counts)

pub returns-clause-early : goal.returns-clause-early
returns-clause-early g c =
    let early = c.answer-done.new.early.items in
    subst (λ (q : List ℕ). IfOk c.answer-done.result (λ u. NotesEarly q c.read_texts.new.texts.input.items early)) c.deref.ensures.value
    (subst (λ (i : List ℕ). IfOk c.answer-done.result (λ u. NotesEarly c.deref.result.now i early)) c.deref-2.ensures.value c.answer-done.ensures.early)
