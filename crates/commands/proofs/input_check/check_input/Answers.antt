use Rattle.std.proofs.Common.{List, ℕ, IfOk, subst}
use Rattle.compile.specs.Early.{NotesEarly}
use Rattle.commands.proofs.input_check.check_input.Goals as goal

pub returns-clause-early : goal.returns-clause-early
returns-clause-early g c =
    let done = c.write_checked-done in
    let early = done.new.early.items in
    subst (λ (q : List ℕ). IfOk done.result (λ u. NotesEarly q c.read_texts.new.texts.input.items early)) c.deref.ensures.value
    (subst (λ (i : List ℕ). IfOk done.result (λ u. NotesEarly c.deref.result.now i early)) c.deref-2.ensures.value done.ensures.early)
