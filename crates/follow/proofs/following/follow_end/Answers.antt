use Rattle.std.proofs.Common.{◌≡◌, ◌∙◌, List, ℕ, ap, arith, length, subst, sym}
use Rattle.std.specs.Prelude.{◌==◌, Err}
use Rattle.std.specs.Io.KnownBytes.{Appends}
use Rattle.collector.specs.Watching.{inner_of}
use Rattle.collector.specs.WrittenBytes.{AppendsFront}
use Rattle.follow.specs.Follows.{Follows}
use Rattle.collector.proofs.LinesRead.{no_rest}
use Rattle.follow.proofs.Lines.{filled_rest}
use Rattle.follow.proofs.Positions.{all_reported, halted, last_unwritten, lets_answer_last, unended_last}
use Rattle.follow.proofs.following.follow_end.Goals as goal

pub answer_last-requires-clause-may : goal.answer_last-requires-clause-may
answer_last-requires-clause-may g c κs within = (lets_answer_last c.args.first.number c.requires.known.0 c.args.board.now.shown c.args.position.now _ c.requires.known.1).0

pub answer_last-requires-clause-few : goal.answer_last-requires-clause-few
answer_last-requires-clause-few g c κs within = (lets_answer_last c.args.first.number c.requires.known.0 c.args.board.now.shown c.args.position.now _ c.requires.known.1).1

pub returns-then-not-is_empty-clause-follows : goal.returns-then-not-is_empty-clause-follows
returns-then-not-is_empty-clause-follows g c = λ g' bytes ended start end st.
    let p = c.args.position.now in
    let size : p.pending.len ≡ length p.pending.items = omega (arith, p.pending.ok.0) in
    let now = g.W.Write.contents (inner_of c.args.writer.now) in
    unended_last c.args.first.number g' c.args.board.now.shown p.base p.intake p.reporting bytes p.pending.items ended start now c.ending_at_fault.result st.written st.unended end (filled_rest p.pending.items c.is_empty.result (c.is_empty.ensures ∙ ap (λ (n : ℕ). n == 0) size) c.if-not-is_empty.true) c.ending_at_fault.ensures

pub returns-in-Err-clause-follows : goal.returns-in-Err-clause-follows
returns-in-Err-clause-follows g c = λ g' bytes ended start end st.
    let p = c.args.position.now in
    let now = g.W.Write.contents (inner_of c.args.writer.now) in
    subst (λ e. Follows c.args.first.number g' bytes ended start now (Err e)) (sym c.ending.ensures) (halted c.args.first.number g' c.args.board.now.shown p.base p.intake p.reporting bytes p.pending.items ended start now c.in-Err.halt st.written)

pub returns-in-Ok-put-clause-follows : goal.returns-in-Ok-put-clause-follows
returns-in-Ok-put-clause-follows g c = λ g' bytes ended start end st.
    let p = c.args.position.now in
    let size : p.pending.len ≡ length p.pending.items = omega (arith, p.pending.ok.0) in
    let now = g.W.Write.contents (inner_of c.args.writer.now) in
    let new = g.W.Write.contents (inner_of c.put.new.writer) in
    let written : Appends now new c.in-Ok.out.items = subst (λ (xs : List ℕ). Appends now new xs) c.as_slice.ensures.value c.in-Ok-put.ensures.ok in
    all_reported c.args.first.number g' c.args.board.now.shown c.answer_last.new.board.shown p.base p.intake p.reporting c.answer_last.new.reporting bytes p.pending.items c.in-Ok.out.items ended start now new st.written st.unended c.in-Ok.ensures end
    (no_rest p.pending.items c.is_empty.result (c.is_empty.ensures ∙ ap (λ (n : ℕ). n == 0) size) c.if-not-is_empty.false) written

pub returns-clause-follows : goal.returns-clause-follows
returns-clause-follows g c = λ g' bytes ended start end st.
    let p = c.args.position.now in
    let size : p.pending.len ≡ length p.pending.items = omega (arith, p.pending.ok.0) in
    let now = g.W.Write.contents (inner_of c.args.writer.now) in
    let new = g.W.Write.contents (inner_of c.put.new.writer) in
    let written : AppendsFront now new c.in-Ok.out.items = subst (λ (xs : List ℕ). AppendsFront now new xs) c.as_slice.ensures.value c.in-Err-put.ensures.err in
    last_unwritten c.args.first.number g' c.args.board.now.shown c.answer_last.new.board.shown p.base p.intake p.reporting c.answer_last.new.reporting bytes p.pending.items c.in-Ok.out.items ended start now new st.written st.unended c.in-Ok.ensures end
    (no_rest p.pending.items c.is_empty.result (c.is_empty.ensures ∙ ap (λ (n : ℕ). n == 0) size) c.if-not-is_empty.false) written
