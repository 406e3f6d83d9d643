use Rattle.std.proofs.Common.{◌≡◌, ◌⊎◌, Option, subst}
use Rattle.collector.specs.Watching.{inner_of}
use Rattle.csv_epochs.specs.Epochs.{TakesOf}
use Rattle.csv_epochs.specs.declared.epoch.Epoch as epoch
use Rattle.table_epochs.specs.Followed.{Followed, FollowsPart}
use Rattle.table_epochs.specs.Going.{BreaksOff, WritesEpoch, followed_by, reached_by}
use Rattle.table_epochs.proofs.Going.{going-fault, going-on, going-out, going-part}
use Rattle.table_epochs.proofs.Kept.{header-kept, keeps-then}
use Rattle.table_epochs.proofs.Results.{from-err}
use Rattle.table_epochs.proofs.following.follow_piece.Goals as goal

pub returns-in-Err-clause-fault : goal.returns-in-Err-clause-fault
returns-in-Err-clause-fault g c = λ start text before header s going.
    going-part (followed_by c.args.following.now) start (reached_by c.epochs.following) c.epochs.splitter text c.epochs.rest.now before
    (g.W.Write.contents (inner_of c.epochs.out)) c.split_fault.result s (c.epochs.invariant.going start text before header s going)

pub returns-in_default-clause-going : goal.returns-in_default-clause-going
returns-in_default-clause-going g c = λ start text before header s going.
    let takes = subst (λ (o : Option epoch.Epoch). TakesOf c.epochs.splitter c.take.new.self c.epochs.rest.now o c.in-Ok.taken.1.now) c.in_default.is
    c.in-Ok.ensures.taken in
    going-on (followed_by c.args.following.now) start (reached_by c.epochs.following) c.epochs.splitter c.take.new.self text c.epochs.rest.now before
    (g.W.Write.contents (inner_of c.epochs.out)) (c.epochs.invariant.going start text before header s going) takes.0

pub returns-in_err-write_epoch-clause-fault : goal.returns-in_err-write_epoch-clause-fault
returns-in_err-write_epoch-clause-fault g c = λ start text before header s going.
    let out = g.W.Write.contents (inner_of c.epochs.out) in
    let next = g.W.Write.contents (inner_of c.write_epoch.new.out) in
    let keeps = c.epochs.invariant.keeps in
    let hands = subst (λ (o : Option epoch.Epoch). TakesOf c.epochs.splitter c.take.new.self c.epochs.rest.now o c.in-Ok.taken.1.now) c.in-Some.is
    c.in-Ok.ensures.taken in
    from-err (λ fault. FollowsPart
    (followed_by c.args.following.now) text fault before next) c.from_residual.result c.in_err-write_epoch.field-0.0 c.from_residual.ensures.1
    (going-fault (followed_by c.args.following.now) start
    (reached_by c.epochs.following) c.epochs.splitter c.take.new.self text c.epochs.rest.now c.in-Ok.taken.1.now
    c.in-Some.epoch before out next c.in_err-write_epoch.field-0.0 s (c.epochs.invariant.going start text before header s going) hands
    (subst (λ (f : Followed). (next ≡ out) ⊎ BreaksOff f
    (reached_by c.epochs.following) c.in-Some.epoch out next c.in_err-write_epoch.field-0.0) keeps.followed
    (c.in_err-write_epoch.ensures.fault (header-kept c.args.following.now c.epochs.following keeps header))))

pub epochs-preserved : goal.epochs-preserved
epochs-preserved g c =
    let out = g.W.Write.contents (inner_of c.epochs.out) in
    let next = g.W.Write.contents (inner_of c.write_epoch.new.out) in
    let keeps = c.epochs.invariant.keeps in
    let hands = subst (λ (o : Option epoch.Epoch). TakesOf c.epochs.splitter c.take.new.self c.epochs.rest.now o c.in-Ok.taken.1.now) c.in-Some.is
    c.in-Ok.ensures.taken in
    record {
      keeps = keeps-then c.args.following.now c.epochs.following c.write_epoch.new.following keeps c.in_ok-write_epoch.ensures.keeps;
      going = λ start text before header s going.
          going-out (followed_by c.args.following.now) start (reached_by c.epochs.following)
          (reached_by c.write_epoch.new.following) c.epochs.splitter c.take.new.self
          text c.epochs.rest.now c.in-Ok.taken.1.now c.in-Some.epoch before out next s
          (c.epochs.invariant.going start text before header s going) hands
          (subst (λ (f : Followed). WritesEpoch f (reached_by c.epochs.following)
          (reached_by c.write_epoch.new.following) c.in-Some.epoch out next) keeps.followed
          (c.in_ok-write_epoch.ensures.written (header-kept c.args.following.now c.epochs.following keeps header)));
    }
