use Rattle.std.proofs.Common.{◌≡◌, ◌↔◌, ◌∙◌, ◌∷◌, ◌++◌, [], List, ℕ, ap, arith, length, subst, sym}
use Rattle.std.proofs.lemmas.List.{length-append}
use Rattle.std.specs.Prelude.{Err, IsTrue, Option, false}
use Rattle.graph.specs.Shown.{shown_inputs}
use Rattle.collector.specs.Pieces.{split_on}
use Rattle.collector.specs.Watching.{inner_of}
use Rattle.collector.proofs.Splits.{split_none}
use Rattle.follow.specs.Follows.{Follows, IsTooLong}
use Rattle.follow.specs.Scenes.{IsWritten}
use Rattle.follow.specs.Steps.{Stops}
use Rattle.follow.specs.declared.outcome.Halt.TheVariants as halt
use Rattle.follow.proofs.Calls.{none_of, ok_items}
use Rattle.follow.proofs.Cuts.{unended_both}
use Rattle.follow.proofs.Positions.{faults, few_written, halted, more_pending}
use Rattle.follow.proofs.TooLong.{short_rest}
use Rattle.follow.proofs.following.follow_piece.Goals as goal

pub returns-then-is_err-clause-follows : goal.returns-then-is_err-clause-follows
returns-then-is_err-clause-follows g c = λ bytes ended start st.
    let p = c.args.position.now in
    let now = g.W.Write.contents (inner_of c.args.writer.now) in
    let w = more_pending c.args.plan.now.first.number c.args.plan.now.graph.value c.args.board.now.shown p.base p.intake p.reporting bytes p.pending.items c.args.piece.now start now st.written in
    halted c.args.plan.now.first.number c.args.plan.now.graph.value c.args.board.now.shown p.base p.intake p.reporting (bytes ++ c.args.piece.now) (p.pending.items ++ c.args.piece.now) ended start now halt.NoMemory w

pub returns-then-not-is_too_long-clause-follows : goal.returns-then-not-is_too_long-clause-follows
returns-then-not-is_too_long-clause-follows g c = λ bytes ended start st.
    let p = c.args.position.now in
    let now = g.W.Write.contents (inner_of c.args.writer.now) in
    let all = c.extend_from_slice.new.self.items in
    let text : all ≡ p.pending.items ++ c.args.piece.now = ok_items c.extend_from_slice.result c.is_err.result all (p.pending.items ++ c.args.piece.now) p.pending.items c.is_err.ensures.value c.if-is_err.false c.extend_from_slice.ensures.items in
    let none = split_none 10 c.args.piece.now (none_of c.find.result c.is_none.result c.is_none.ensures c.if-is_none.true c.find.ensures.none) in
    let w = more_pending c.args.plan.now.first.number c.args.plan.now.graph.value c.args.board.now.shown p.base p.intake p.reporting bytes p.pending.items c.args.piece.now start now st.written in
    let unended = subst (λ (xs : List ℕ). split_on 10 xs ≡ xs ∷ []) (sym text) (unended_both p.pending.items c.args.piece.now st.unended none) in
    let long = subst (λ (xs : List ℕ). IsTrue c.is_too_long.result ↔ IsTooLong (split_on 10 xs)) c.as_slice.ensures.value c.is_too_long.ensures in
    record {
      written = subst (λ (xs : List ℕ). IsWritten c.args.plan.now.first.number c.args.plan.now.graph.value c.args.board.now.shown p.base p.intake p.reporting (bytes ++ c.args.piece.now) xs start now) (sym text) w;
      unended = unended;
      short = short_rest all c.is_too_long.result unended long c.if-not-is_too_long.true;
    }

pub boards-init : goal.boards-init
boards-init g c =
    let p = c.args.position.now in
    let h = c.args.plan.now.graph.value in
    let s = c.args.board.now.shown in
    let piece = c.args.piece.now in
    let now = g.W.Write.contents (inner_of c.args.writer.now) in
    let text : c.extend_from_slice.new.self.items ≡ p.pending.items ++ piece = ok_items c.extend_from_slice.result c.is_err.result c.extend_from_slice.new.self.items (p.pending.items ++ piece) p.pending.items c.is_err.ensures.value c.if-is_err.false c.extend_from_slice.ensures.items in
    let more : (bytes : List ℕ) (start : Option (List ℕ)) → IsWritten c.args.plan.now.first.number h s p.base p.intake p.reporting bytes p.pending.items start now → IsWritten c.args.plan.now.first.number h s p.base p.intake p.reporting (bytes ++ piece) c.extend_from_slice.new.self.items start now =
    λ bytes start w. subst (λ (xs : List ℕ). IsWritten c.args.plan.now.first.number h s p.base p.intake p.reporting (bytes ++ piece) xs start now) (sym text) (more_pending c.args.plan.now.first.number h s p.base p.intake p.reporting bytes p.pending.items piece start now w) in
    record {
      known = (c.requires.known.0 ++ piece, c.requires.known.1, more c.requires.known.0 c.requires.known.1 c.requires.known.2);
      counted = let l = length-append p.pending.items piece in let e = ap length text in omega (arith, l, e);
      written = λ bytes start st. more bytes start st.written;
    }

pub follow_lines-requires-clause-known : goal.follow_lines-requires-clause-known
follow_lines-requires-clause-known g c κs within = (c.args.plan.now.graph.value, c.inputs-inputs.ensures ∙ ap shown_inputs c.deref.ensures, c.boards.invariant.known)

pub follow_lines-requires-clause-few : goal.follow_lines-requires-clause-few
follow_lines-requires-clause-few g c κs within = omega (arith, c.boards.invariant.counted, c.requires.few)

pub ending_at_fault-requires : goal.ending_at_fault-requires
ending_at_fault-requires g c = omega (arith, c.boards.invariant.counted, c.requires.few, c.in-Ok-Fault.ensures.counted)

pub renew-requires : goal.renew-requires
renew-requires g c =
    let (bytes, start, w) = c.boards.invariant.known in
    let r = c.in-Ok-Epoch.ensures.follows c.args.plan.now.graph.value bytes false start (c.inputs-inputs.ensures ∙ ap shown_inputs c.deref.ensures) w in
    record { few = few_written c.args.plan.now.first.number c.args.plan.now.graph.value c.follow_lines.new.board.shown c.follow_lines.new.position bytes start _ r.0 }

pub returns-in-Ok-Whole-clause-follows : goal.returns-in-Ok-Whole-clause-follows
returns-in-Ok-Whole-clause-follows g c = λ bytes ended start st.
    let inputs = c.inputs-inputs.ensures ∙ ap shown_inputs c.deref.ensures in
    let q = c.follow_lines.new.position in
    let all = bytes ++ c.args.piece.now in
    let r = c.in-Ok-Whole.ensures.follows c.args.plan.now.graph.value all ended start inputs (c.boards.invariant.written bytes start st) in
    let stops = subst (λ k. Stops (shown_inputs c.args.plan.now.graph.value) all q.pending.items (length r.0.known.lines) r.0.known.items k) c.in-Ok-Whole.field-0-is r.1 in
    record { written = r.0; unended = stops.0; short = stops.1 }

pub returns-in-Ok-Fault-clause-follows : goal.returns-in-Ok-Fault-clause-follows
returns-in-Ok-Fault-clause-follows g c = λ bytes ended start st.
    let inputs = c.inputs-inputs.ensures ∙ ap shown_inputs c.deref.ensures in
    let q = c.follow_lines.new.position in
    let new = g.W.Write.contents (inner_of c.follow_lines.new.writer) in
    let all = bytes ++ c.args.piece.now in
    let r = c.in-Ok-Fault.ensures.follows c.args.plan.now.graph.value all ended start inputs (c.boards.invariant.written bytes start st) in
    let stops = subst (λ k. Stops (shown_inputs c.args.plan.now.graph.value) all q.pending.items (length r.0.known.lines) r.0.known.items k) c.in-Ok-Fault.field-0-is r.1 in
    faults c.args.plan.now.first.number c.args.plan.now.graph.value c.follow_lines.new.board.shown q.base q.intake q.reporting all q.pending.items c.in-Ok-Fault.code ended start new c.ending_at_fault.result r.0 stops c.ending_at_fault.ensures

pub returns-in-Err-renew-clause-follows : goal.returns-in-Err-renew-clause-follows
returns-in-Err-renew-clause-follows g c = λ bytes ended start st.
    let inputs = c.inputs-inputs.ensures ∙ ap shown_inputs c.deref.ensures in
    let q = c.follow_lines.new.position in
    let new = g.W.Write.contents (inner_of c.follow_lines.new.writer) in
    let all = bytes ++ c.args.piece.now in
    let r = c.in-Ok-Epoch.ensures.follows c.args.plan.now.graph.value all ended start inputs (c.boards.invariant.written bytes start st) in
    subst (λ e. Follows c.args.plan.now.first.number c.args.plan.now.graph.value all ended start new (Err e)) (sym c.ending.ensures) (halted c.args.plan.now.first.number c.args.plan.now.graph.value c.follow_lines.new.board.shown q.base q.intake q.reporting all q.pending.items ended start new c.in-Err-renew.halt r.0)

pub returns-in-Err-clause-follows : goal.returns-in-Err-clause-follows
returns-in-Err-clause-follows g c = λ bytes ended start st.
    let inputs = c.inputs-inputs.ensures ∙ ap shown_inputs c.deref.ensures in
    c.in-Err.ensures.follows c.args.plan.now.graph.value (bytes ++ c.args.piece.now) ended start inputs (c.boards.invariant.written bytes start st)

pub boards-preserved : goal.boards-preserved
boards-preserved g c =
    let q = c.follow_lines.new.position in
    let h = c.args.plan.now.graph.value in
    let new = g.W.Write.contents (inner_of c.follow_lines.new.writer) in
    let now = g.W.Write.contents (inner_of c.boards.writer) in
    let p = c.boards.position in
    let inputs = c.inputs-inputs.ensures ∙ ap shown_inputs c.deref.ensures in
    let on : (bytes : List ℕ) (start : Option (List ℕ)) → IsWritten c.args.plan.now.first.number h c.boards.board.shown p.base p.intake p.reporting bytes p.pending.items start now → IsWritten c.args.plan.now.first.number h c.renew.new.board.shown c.renew.new.position.base c.renew.new.position.intake c.renew.new.position.reporting bytes c.renew.new.position.pending.items start new = λ bytes start w.
    let r = c.in-Ok-Epoch.ensures.follows h bytes false start inputs w in
    let begins = subst (λ k. Stops (shown_inputs h) bytes q.pending.items (length r.0.known.lines) r.0.known.items k) c.in-Ok-Epoch.field-0-is r.1 in
    c.in-Ok.ensures.renews bytes start new r.0 begins in
    record {
      known = (c.boards.invariant.known.0, c.boards.invariant.known.1, on c.boards.invariant.known.0 c.boards.invariant.known.1 c.boards.invariant.known.2);
      counted = let l = c.in-Ok-Epoch.ensures.counted in let same = ap (λ v. length v.items) c.renew.ensures.pending in let line = c.renew.ensures.line in omega (arith, l, same, line, c.boards.invariant.counted);
      written = λ bytes start st. on (bytes ++ c.args.piece.now) start (c.boards.invariant.written bytes start st);
    }

pub boards-smaller : goal.boards-smaller
boards-smaller g c =
    let l = c.in-Ok-Epoch.ensures.shorter c.in-Ok-Epoch.field-0-is in
    let same = ap (λ v. length v.items) c.renew.ensures.pending in
    omega (arith, l, same)
