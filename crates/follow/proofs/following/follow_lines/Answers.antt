use Rattle.std.proofs.Common.{List, ℕ, map, subst, sym}
use Rattle.record_core.specs.Inputs.{input_of}
use Rattle.std.specs.Prelude.{Err}
use Rattle.std.specs.Io.KnownBytes.{Appends}
use Rattle.collector.specs.Watching.{inner_of}
use Rattle.collector.specs.WrittenBytes.{AppendsFront}
use Rattle.follow.specs.Follows.{Follows}
use Rattle.follow.specs.Steps.{TakesLines}
use Rattle.follow.proofs.Positions.{answer_written, answered, halted, lets_answer, text_taken, unwritten}
use Rattle.follow.proofs.following.follow_lines.Goals as goal

pub take_text-requires-clause-same : goal.take_text-requires-clause-same
take_text-requires-clause-same g c = let (h, same, w) = c.requires.known in (text_taken c.args.first.number (map input_of c.args.inputs.now) h c.args.board.now.shown c.args.position.now _ same w).1

pub take_text-requires-clause-taken : goal.take_text-requires-clause-taken
take_text-requires-clause-taken g c = let (h, same, w) = c.requires.known in (text_taken c.args.first.number (map input_of c.args.inputs.now) h c.args.board.now.shown c.args.position.now _ same w).0

pub answer_open-requires-clause-may : goal.answer_open-requires-clause-may
answer_open-requires-clause-may g c κs within = let (h, same, w) = c.requires.known in (lets_answer c.args.first.number (map input_of c.args.inputs.now) h c.args.board.now.shown c.take_text.new.board.shown c.args.position.now c.take_text.new.intake c.take_text.new.pending.items c.in-Ok.taken _ same w c.in-Ok.ensures.lines).0

pub answer_open-requires-clause-few : goal.answer_open-requires-clause-few
answer_open-requires-clause-few g c κs within = let (h, same, w) = c.requires.known in (lets_answer c.args.first.number (map input_of c.args.inputs.now) h c.args.board.now.shown c.take_text.new.board.shown c.args.position.now c.take_text.new.intake c.take_text.new.pending.items c.in-Ok.taken _ same w c.in-Ok.ensures.lines).1

pub returns-in-Err-clause-follows : goal.returns-in-Err-clause-follows
returns-in-Err-clause-follows g c = λ g' bytes ended start same w.
    let p = c.args.position.now in
    let now = g.W.Write.contents (inner_of c.args.writer.now) in
    subst (λ e. Follows c.args.first.number g' bytes ended start now (Err e)) (sym c.ending.ensures) (halted c.args.first.number g' c.args.board.now.shown p.base p.intake p.reporting bytes p.pending.items ended start now c.in-Err.halt w)

pub returns-in-Err-answer_open-clause-follows : goal.returns-in-Err-answer_open-clause-follows
returns-in-Err-answer_open-clause-follows g c = λ g' bytes ended start same w.
    let p = c.args.position.now in
    let now = g.W.Write.contents (inner_of c.args.writer.now) in
    subst (λ e. Follows c.args.first.number g' bytes ended start now (Err e)) (sym c.ending-in-Err-answer_open.ensures) (halted c.args.first.number g' c.args.board.now.shown p.base p.intake p.reporting bytes p.pending.items ended start now c.in-Err-answer_open.halt w)

pub returns-in-Ok-put-clause-follows : goal.returns-in-Ok-put-clause-follows
returns-in-Ok-put-clause-follows g c = λ g' bytes ended start same w.
    let p = c.args.position.now in
    let now = g.W.Write.contents (inner_of c.args.writer.now) in
    let new = g.W.Write.contents (inner_of c.put.new.writer) in
    let takes = subst (λ is. TakesLines p.base c.args.board.now.shown c.take_text.new.board.shown p.intake c.take_text.new.intake is p.pending.items c.take_text.new.pending.items c.in-Ok.taken) same c.in-Ok.ensures.lines in
    let a = answered c.args.first.number g' c.args.board.now.shown c.take_text.new.board.shown c.answer_open.new.board.shown p.base p.intake c.take_text.new.intake c.answer_open.new.intake p.reporting c.answer_open.new.reporting bytes p.pending.items c.take_text.new.pending.items c.in-Ok-answer_open.out.items c.in-Ok.taken start now w takes c.in-Ok-answer_open.ensures.answers in
    let written : Appends now new c.in-Ok-answer_open.out.items = subst (λ (xs : List ℕ). Appends now new xs) c.as_slice.ensures.value c.in-Ok-put.ensures.ok in
    answer_written c.args.first.number g' c.answer_open.new.board.shown p.base c.answer_open.new.intake c.answer_open.new.reporting bytes c.take_text.new.pending.items w.known.text c.in-Ok-answer_open.out.items c.in-Ok.taken start now new a w.written written

pub returns-clause-follows : goal.returns-clause-follows
returns-clause-follows g c = λ g' bytes ended start same w.
    let p = c.args.position.now in
    let now = g.W.Write.contents (inner_of c.args.writer.now) in
    let new = g.W.Write.contents (inner_of c.put.new.writer) in
    let takes = subst (λ is. TakesLines p.base c.args.board.now.shown c.take_text.new.board.shown p.intake c.take_text.new.intake is p.pending.items c.take_text.new.pending.items c.in-Ok.taken) same c.in-Ok.ensures.lines in
    let a = answered c.args.first.number g' c.args.board.now.shown c.take_text.new.board.shown c.answer_open.new.board.shown p.base p.intake c.take_text.new.intake c.answer_open.new.intake p.reporting c.answer_open.new.reporting bytes p.pending.items c.take_text.new.pending.items c.in-Ok-answer_open.out.items c.in-Ok.taken start now w takes c.in-Ok-answer_open.ensures.answers in
    let written : AppendsFront now new c.in-Ok-answer_open.out.items = subst (λ (xs : List ℕ). AppendsFront now new xs) c.as_slice.ensures.value c.in-Err-put.ensures.err in
    unwritten c.args.first.number g' c.answer_open.new.board.shown p.base c.answer_open.new.intake c.answer_open.new.reporting bytes c.take_text.new.pending.items w.known.text c.in-Ok-answer_open.out.items c.in-Ok.taken ended start now new a w.written written
