use Rattle.std.proofs.Common.{◌≡◌, ◌++◌, ◌∙◌, ◌<◌, [], ℕ, List, ap, length, rules, subst, sym, take}
use Rattle.std.proofs.lemmas.List.{append-nil}
use Rattle.collector.specs.Watching.{inner_of}
use Rattle.csv_epochs.specs.Epochs.{Held}
use Rattle.csv_epochs.specs.declared.epoch.Epoch as epoch
use Rattle.csv_epochs.proofs.TakenOn.{taken-none}
use Rattle.table_commands.specs.Read.{IsKnownAs}
use Rattle.table_epochs.specs.Followed.{FailsText, Followed, FollowsPart, Reached}
use Rattle.table_epochs.specs.Going.{BreaksIn, HasTaken, HasWritten, IsGoing, followed_by, reached_by}
use Rattle.table_epochs.proofs.Going.{Consumes-none, Consumes-then, consumed-all, consumed-begins, going-all, going-last, going-more, going-none, going-part}
use Rattle.table_epochs.proofs.Kept.{header-kept, keeps-none, keeps-then}
use Rattle.table_epochs.proofs.Results.{from-err}
use Rattle.table_epochs.proofs.following.follow_text.Goals as goal

pub pieces-init : goal.pieces-init
pieces-init g c =
    let new : c.new-splitter.result ≡ _ = c.new-splitter.ensures in
    record {
      keeps = keeps-none c.args.following.now;
      going = λ header start. (
        [],
        Consumes-none (g.T.Read.remaining (inner_of c.args.text.now)),
        going-none (followed_by c.args.following.now) (reached_by c.args.following.now) c.new-splitter.result
            (g.W.Write.contents (inner_of c.args.out.now))
            (ap (λ (h : Held). h.column) new)
            (taken-none c.new-splitter.result (ap (λ (h : Held). h.has_header) new) (ap (λ (h : Held). h.header) new)
            (ap (λ (h : Held). h.bytes) new) (ap (λ (h : Held). h.before) new)),
      );
    }

pub returns-in_default-clause-fault : goal.returns-in_default-clause-fault
returns-in_default-clause-fault g c = λ header start.
    let (bytes, read, going) = c.pieces.invariant.going header start in (
      bytes,
      consumed-begins (g.T.Read.remaining (inner_of c.args.text.now)) (g.T.Read.remaining (inner_of c.pieces.text)) bytes read,
      going-part (followed_by c.args.following.now) (reached_by c.args.following.now) (reached_by c.pieces.following) c.pieces.splitter bytes []
          (g.W.Write.contents (inner_of c.args.out.now)) (g.W.Write.contents (inner_of c.pieces.out)) _ start going,
    )

pub returns-in_default-checked_sub-clause-fault : goal.returns-in_default-checked_sub-clause-fault
returns-in_default-checked_sub-clause-fault g c = λ header start.
    let (bytes, read, going) = c.pieces.invariant.going header start in (
      bytes,
      consumed-begins (g.T.Read.remaining (inner_of c.args.text.now)) (g.T.Read.remaining (inner_of c.pieces.text)) bytes read,
      going-part (followed_by c.args.following.now) (reached_by c.args.following.now) (reached_by c.pieces.following) c.pieces.splitter bytes []
          (g.W.Write.contents (inner_of c.args.out.now)) (g.W.Write.contents (inner_of c.pieces.out)) _ start going,
    )

pub pieces-preserved : goal.pieces-preserved
pieces-preserved g c =
    let f : Followed = followed_by c.args.following.now in
    let first : Reached = reached_by c.args.following.now in
    let before = g.W.Write.contents (inner_of c.args.out.now) in
    let out = g.W.Write.contents (inner_of c.pieces.out) in
    let next = g.W.Write.contents (inner_of c.follow_piece.new.out) in
    let piece : List ℕ = take c.in-Ok.count c.pull.new.piece in
    let keeps = c.pieces.invariant.keeps in
    record {
      keeps = keeps-then c.args.following.now c.pieces.following c.follow_piece.new.following keeps c.in_ok-follow_piece.ensures.keeps;
      going = λ header start.
          let (bytes, read, going) = c.pieces.invariant.going header start in
          let more = going-more f first (reached_by c.pieces.following) c.pieces.splitter bytes piece before out going in
          let then = c.in_ok-follow_piece.ensures.going first (bytes ++ piece) before
          (header-kept c.args.following.now c.pieces.following keeps header) start
          (subst (λ (k : Followed). IsGoing k first (reached_by c.pieces.following) c.pieces.splitter (bytes ++ piece) piece before out)
          (sym keeps.followed) more) in (
            bytes ++ piece,
            Consumes-then (g.T.Read.remaining (inner_of c.args.text.now)) (g.T.Read.remaining (inner_of c.pieces.text))
                (g.T.Read.remaining (inner_of c.pull.new.self)) bytes piece read c.in-Ok.ensures.bytes.0,
            subst (λ (k : Followed). IsGoing k first (reached_by c.follow_piece.new.following) c.follow_piece.new.splitter
                (bytes ++ piece) [] before next) keeps.followed then,
          );
    }

pub returns-in_err-follow_piece-clause-fault : goal.returns-in_err-follow_piece-clause-fault
returns-in_err-follow_piece-clause-fault g c = λ header start.
    let f : Followed = followed_by c.args.following.now in
    let first : Reached = reached_by c.args.following.now in
    let all = g.T.Read.remaining (inner_of c.args.text.now) in
    let left = g.T.Read.remaining (inner_of c.pull.new.self) in
    let before = g.W.Write.contents (inner_of c.args.out.now) in
    let out = g.W.Write.contents (inner_of c.pieces.out) in
    let next = g.W.Write.contents (inner_of c.follow_piece.new.out) in
    let piece : List ℕ = take c.in-Ok.count c.pull.new.piece in
    let keeps = c.pieces.invariant.keeps in
    let fault = c.in_err-follow_piece.field-0.0 in
    let (bytes, read, going) = c.pieces.invariant.going header start in
    let more = going-more f first (reached_by c.pieces.following) c.pieces.splitter bytes piece before out going in
    let part = c.in_err-follow_piece.ensures.fault first (bytes ++ piece) before
    (header-kept c.args.following.now c.pieces.following keeps header) start
    (subst (λ (k : Followed). IsGoing k first (reached_by c.pieces.following) c.pieces.splitter (bytes ++ piece) piece before out)
    (sym keeps.followed) more) in
    from-err (FailsText all f before next) c.from_residual.result fault c.from_residual.ensures.1 (
      bytes ++ piece,
      consumed-begins all left (bytes ++ piece) (Consumes-then all
          (g.T.Read.remaining (inner_of c.pieces.text)) left bytes piece read c.in-Ok.ensures.bytes.0),
      subst (λ (k : Followed). FollowsPart k (bytes ++ piece) fault before next) keeps.followed part,
    )

pub returns-in_err-follow_last-in-Ok-finish-clause-fault : goal.returns-in_err-follow_last-in-Ok-finish-clause-fault
returns-in_err-follow_last-in-Ok-finish-clause-fault g c = λ header start.
    let f : Followed = followed_by c.args.following.now in
    let first : Reached = reached_by c.args.following.now in
    let now : Reached = reached_by c.pieces.following in
    let all = g.T.Read.remaining (inner_of c.args.text.now) in
    let before = g.W.Write.contents (inner_of c.args.out.now) in
    let out = g.W.Write.contents (inner_of c.pieces.out) in
    let next = g.W.Write.contents (inner_of c.follow_last.new.out) in
    let last : List epoch.Epoch = c.in-Ok-finish.field-0.epochs.items in
    let keeps = c.pieces.invariant.keeps in
    let fault = c.in_err-follow_last-in-Ok-finish.field-0.0 in
    let (bytes, read, going) = c.pieces.invariant.going header start in
    let breaks = c.in_err-follow_last-in-Ok-finish.ensures.fault first going.epochs before
    (header-kept c.args.following.now c.pieces.following keeps header) start
    (subst (λ (k : Followed). HasWritten k first now going.epochs before out) (sym keeps.followed) going.written) in
    from-err (FailsText all f before next) c.from_residual-in_err-follow_last-in-Ok-finish.result fault
    c.from_residual-in_err-follow_last-in-Ok-finish.ensures.1 (
      bytes,
      consumed-begins all (g.T.Read.remaining (inner_of c.pieces.text)) bytes read,
      going-last f first now c.pieces.splitter bytes last before out next fault start going c.in-Ok-finish.ensures.whole c.in-Ok-finish.ensures.epochs
          (subst (λ (k : Followed). BreaksIn k first going.epochs last before next fault) keeps.followed breaks),
    )

pub returns-in_ok-follow_last-in-Ok-finish-clause-taken : goal.returns-in_ok-follow_last-in-Ok-finish-clause-taken
returns-in_ok-follow_last-in-Ok-finish-clause-taken g c = λ header start.
    let f : Followed = followed_by c.args.following.now in
    let first : Reached = reached_by c.args.following.now in
    let now : Reached = reached_by c.pieces.following in
    let then : Reached = reached_by c.follow_last.new.following in
    let all = g.T.Read.remaining (inner_of c.args.text.now) in
    let left = g.T.Read.remaining (inner_of c.pull.new.self) in
    let before = g.W.Write.contents (inner_of c.args.out.now) in
    let out = g.W.Write.contents (inner_of c.pieces.out) in
    let next = g.W.Write.contents (inner_of c.follow_last.new.out) in
    let last : List epoch.Epoch = c.in-Ok-finish.field-0.epochs.items in
    let piece : List ℕ = take c.in-Ok.count c.pull.new.piece in
    let keeps = c.pieces.invariant.keeps in
    let (bytes, read, going) = c.pieces.invariant.going header start in
    let none : bytes ++ piece ≡ bytes = ap (λ (n : ℕ). bytes ++ take n c.pull.new.piece) c.if-count-eq0.true ∙ append-nil bytes in
    let room : 0 < length c.pull.new.piece = search rules in
    let known : IsKnownAs all (bytes ++ piece) =
    consumed-all all left (bytes ++ piece) (Consumes-then all
    (g.T.Read.remaining (inner_of c.pieces.text)) left bytes piece read c.in-Ok.ensures.bytes.0)
    (c.in-Ok.ensures.bytes.1 c.if-count-eq0.true room) in
    let written = c.in_ok-follow_last-in-Ok-finish.ensures.written first going.epochs before
    (header-kept c.args.following.now c.pieces.following keeps header) start
    (subst (λ (k : Followed). HasWritten k first now going.epochs before out) (sym keeps.followed) going.written) in (
      bytes,
      subst (IsKnownAs all) none known,
      subst (λ (h : List ℕ). HasTaken f first then bytes h before next) (sym c.in-Ok-finish.ensures.header)
          (going-all f first now then c.pieces.splitter bytes last before out next going c.in-Ok-finish.ensures.whole c.in-Ok-finish.ensures.epochs
          (subst (λ (k : Followed). HasWritten k first then (going.epochs ++ last) before next) keeps.followed written)),
    )

pub returns-in-Err-clause-fault : goal.returns-in-Err-clause-fault
returns-in-Err-clause-fault g c = λ header start.
    let (bytes, read, going) = c.pieces.invariant.going header start in (
      bytes,
      consumed-begins (g.T.Read.remaining (inner_of c.args.text.now)) (g.T.Read.remaining (inner_of c.pieces.text)) bytes read,
      going-part (followed_by c.args.following.now) (reached_by c.args.following.now) (reached_by c.pieces.following) c.pieces.splitter bytes []
          (g.W.Write.contents (inner_of c.args.out.now)) (g.W.Write.contents (inner_of c.pieces.out)) c.split_fault.result start going,
    )
