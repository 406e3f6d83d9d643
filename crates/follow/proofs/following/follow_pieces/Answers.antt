use Rattle.std.proofs.Common.{◌≡◌, ◌<◌, ◌≤◌, ◌++◌, [], ℕ, arith, length, refl, rules, subst, take}
use Rattle.std.proofs.lemmas.List.{length-append}
use Rattle.std.specs.Prelude.{false, true}
use Rattle.std.specs.Io.KnownBytes.{Consumes}
use Rattle.collector.specs.Watching.{Hands, inner_of}
use Rattle.follow.proofs.Positions.{read_all, read_failed, read_more, read_none, too_long, unread}
use Rattle.follow.proofs.following.follow_pieces.Goals as goal

pub pieces-init : goal.pieces-init
pieces-init g c = record { rests = c.requires.rests; counted = omega (arith, c.requires.none); follows = ([], read_none g.R.Read.remaining c.args.reader.now, c.requires.first, refl) }

pub follow_piece-requires-clause-rests : goal.follow_piece-requires-clause-rests
follow_piece-requires-clause-rests g c κs within = c.pieces.invariant.rests

pub follow_piece-requires-clause-known : goal.follow_piece-requires-clause-known
follow_piece-requires-clause-known g c κs within = (c.pieces.invariant.follows.0, g.W.Write.contents (inner_of c.args.writer.now), c.pieces.invariant.follows.2.written)

pub follow_piece-requires-clause-few : goal.follow_piece-requires-clause-few
follow_piece-requires-clause-few g c κs within =
    let size : length (take c.in-Ok.count c.pull.new.piece) ≡ c.in-Ok.count = search rules in
    omega (arith, size, c.pieces.invariant.counted, c.in-Some.ensures)

pub follow_end-requires-clause-known : goal.follow_end-requires-clause-known
follow_end-requires-clause-known g c κs within = (c.args.plan.now.graph.value, (c.pieces.invariant.follows.0, g.W.Write.contents (inner_of c.args.writer.now), c.pieces.invariant.follows.2.written))

pub follow_end-requires-clause-few : goal.follow_end-requires-clause-few
follow_end-requires-clause-few g c κs within = omega (arith, c.pieces.invariant.counted)

pub pieces-preserved : goal.pieces-preserved
pieces-preserved g c =
    let b = c.pieces.invariant.follows in
    let piece = take c.in-Ok.count c.pull.new.piece in
    let start = g.W.Write.contents (inner_of c.args.writer.now) in
    let size : length piece ≡ c.in-Ok.count = search rules in
    record {
      rests = c.in-Ok-follow_piece.ensures.rests;
      counted = omega (arith, c.in-Ok-follow_piece.ensures.counted, size, c.pieces.invariant.counted, c.in-Some.ensures);
      follows = (
        b.0 ++ piece,
        read_more g.R.Read.remaining c.args.reader.now c.pieces.reader c.pull.new.self b.0 piece b.1 c.in-Ok.ensures.handed c.in-Ok.ensures.bytes.0,
        c.in-Ok-follow_piece.ensures.follows b.0 false start b.2,
        (let n = length-append b.0 piece in let m = b.3 in omega (arith, n, m, size, c.in-Some.ensures)),
      );
    }

pub returns-in_default-checked_sub-clause-follows : goal.returns-in_default-checked_sub-clause-follows
returns-in_default-checked_sub-clause-follows g c =
    let b = c.pieces.invariant.follows in
    let p = c.pieces.position in
    let piece = take c.in-Ok.count c.pull.new.piece in
    let start = g.W.Write.contents (inner_of c.args.writer.now) in
    let size : length piece ≡ c.in-Ok.count = search rules in
    let long : 18446744073709551615 ≤ length (b.0 ++ piece) = let n = length-append b.0 piece in let m = b.3 in omega (arith, n, m, size, c.in_default-checked_sub.ensures) in (
      b.0 ++ piece,
      false,
      read_more g.R.Read.remaining c.args.reader.now c.pieces.reader c.pull.new.self b.0 piece b.1 c.in-Ok.ensures.handed c.in-Ok.ensures.bytes.0,
      too_long c.args.plan.now.first.number c.args.plan.now.graph.value c.pieces.board.shown p.base p.intake p.reporting b.0 p.pending.items piece false start (g.W.Write.contents (inner_of c.pieces.writer)) b.2.written long,
    )

pub returns-in_default-clause-follows : goal.returns-in_default-clause-follows
returns-in_default-clause-follows g c =
    let b = c.pieces.invariant.follows in
    let p = c.pieces.position in
    let start = g.W.Write.contents (inner_of c.args.writer.now) in (
      b.0,
      false,
      read_failed g.R.Read.remaining c.args.reader.now c.pieces.reader c.pull.new.self b.0 b.1 c.in_default.ensures.none c.in_default.ensures.bytes,
      unread c.args.plan.now.first.number c.args.plan.now.graph.value c.pieces.board.shown p.base p.intake p.reporting b.0 p.pending.items false start (g.W.Write.contents (inner_of c.pieces.writer)) b.2.written b.2.unended b.2.short,
    )

pub returns-then-count-eq0-clause-follows : goal.returns-then-count-eq0-clause-follows
returns-then-count-eq0-clause-follows g c =
    let b = c.pieces.invariant.follows in
    let start = g.W.Write.contents (inner_of c.args.writer.now) in
    let before = g.R.Read.remaining (inner_of c.pieces.reader) in
    let left = g.R.Read.remaining (inner_of c.pull.new.self) in
    let none : Consumes before left [] = subst (λ (n : ℕ). Consumes before left (take n c.pull.new.piece)) c.if-count-eq0.true c.in-Ok.ensures.bytes.0 in
    let hands : Hands c.pieces.reader c.pull.new.self [] = subst (λ (n : ℕ). Hands c.pieces.reader c.pull.new.self (take n c.pull.new.piece)) c.if-count-eq0.true c.in-Ok.ensures.handed in
    let some : 0 < length c.pull.new.piece = search rules in
    let said = c.in-Ok.ensures.ended c.if-count-eq0.true (search rules) in
    let end = c.in-Ok.ensures.bytes.1 c.if-count-eq0.true some in
    (b.0, true, read_all g.R.Read.remaining c.args.reader.now c.pieces.reader c.pull.new.self b.0 b.1 hands none said end, c.follow_end.ensures.follows c.args.plan.now.graph.value b.0 true start refl b.2)

pub returns-in-Err-clause-follows : goal.returns-in-Err-clause-follows
returns-in-Err-clause-follows g c =
    let b = c.pieces.invariant.follows in
    let piece = take c.in-Ok.count c.pull.new.piece in
    let start = g.W.Write.contents (inner_of c.args.writer.now) in
    (b.0 ++ piece, false, read_more g.R.Read.remaining c.args.reader.now c.pieces.reader c.pull.new.self b.0 piece b.1 c.in-Ok.ensures.handed c.in-Ok.ensures.bytes.0, c.in-Err.ensures.follows b.0 false start b.2)
