use Rattle.std.proofs.Common.{◌≡◌, ◌⊎◌, ◌++◌, ◌∷◌, ◌∙◌, [], suc, List, append_assoc, drop, length, take, sym, subst, rules}
use Rattle.std.proofs.lemmas.Iterator.Adapters.{YieldsList-from_vec}
use Rattle.std.proofs.lemmas.Iterator.Consumers.{YieldsList-so_far, YieldsList-turn}
use Rattle.std.proofs.lemmas.List.{map-id}
use Rattle.collector.specs.Watching.{inner_of}
use Rattle.csv_epochs.specs.declared.epoch.Epoch as epoch
use Rattle.table_epochs.specs.Followed.{Followed}
use Rattle.table_epochs.specs.Going.{BreaksIn, BreaksOff, HasWritten, WritesEpoch, followed_by, reached_by}
use Rattle.table_epochs.proofs.Answered.{written-push}
use Rattle.table_epochs.proofs.Going.{last-fault, up-to}
use Rattle.table_epochs.proofs.Kept.{header-kept, keeps-then}
use Rattle.table_epochs.proofs.Results.{from-err}
use Rattle.table_epochs.proofs.following.follow_last.Goals as goal

pub loop-epoch-preserved : goal.loop-epoch-preserved
loop-epoch-preserved g c =
    let f : Followed = followed_by c.args.following.now in
    let out = g.W.Write.contents (inner_of c.loop-epoch.out) in
    let next = g.W.Write.contents (inner_of c.write_epoch.new.out) in
    let keeps = c.loop-epoch.invariant.keeps in
    record {
      keeps = keeps-then c.args.following.now c.loop-epoch.following c.write_epoch.new.following keeps c.in_ok-write_epoch.ensures.keeps;
      written = λ start done before header s h.
          subst (λ (es : List epoch.Epoch). HasWritten f start (reached_by c.write_epoch.new.following) es before next)
          (append_assoc done c.loop-epoch.yielded (c.in-Some.epoch ∷ []))
          (written-push f start (reached_by c.loop-epoch.following) (reached_by c.write_epoch.new.following)
          (done ++ c.loop-epoch.yielded) c.in-Some.epoch before out next s
          (c.loop-epoch.invariant.written start done before header s h)
          (subst (λ (k : Followed). WritesEpoch k (reached_by c.loop-epoch.following)
          (reached_by c.write_epoch.new.following) c.in-Some.epoch out next) keeps.followed
          (c.in_ok-write_epoch.ensures.written (header-kept c.args.following.now c.loop-epoch.following keeps header))));
    }

pub returns-in_err-write_epoch-clause-fault : goal.returns-in_err-write_epoch-clause-fault
returns-in_err-write_epoch-clause-fault g c = λ start done before header s h.
    let f : Followed = followed_by c.args.following.now in
    let out = g.W.Write.contents (inner_of c.loop-epoch.out) in
    let next = g.W.Write.contents (inner_of c.write_epoch.new.out) in
    let keeps = c.loop-epoch.invariant.keeps in
    let all : List epoch.Epoch = c.args.epochs.items in
    let some : List epoch.Epoch = c.loop-epoch.yielded in
    let list = YieldsList-from_vec {s = c.into_iter-epoch-iterator.result} all (search rules) (search rules) in
    let so : some ≡ take (length some) all = sym (map-id some) ∙ YieldsList-so_far list some c.loop-epoch.epoch-iterator c.loop-epoch.yielded_by in
    let turn = YieldsList-turn list some c.loop-epoch.epoch-iterator c.loop-epoch.yielded_by c.next.result c.next.new.self c.in-Some.epoch
    c.in-Some.is c.next.ensures.steps in
    from-err (BreaksIn f start done all before next) c.from_residual.result c.in_err-write_epoch.field-0.0 c.from_residual.ensures.1
    (last-fault f start (reached_by c.loop-epoch.following) done some c.in-Some.epoch
    (drop (suc (length some)) all) all before out next c.in_err-write_epoch.field-0.0 s
    (up-to all some c.in-Some.epoch so turn.0 turn.1) (c.loop-epoch.invariant.written start done before header s h)
    (subst (λ (k : Followed). (next ≡ out) ⊎ BreaksOff k
    (reached_by c.loop-epoch.following) c.in-Some.epoch out next c.in_err-write_epoch.field-0.0) keeps.followed
    (c.in_err-write_epoch.ensures.fault (header-kept c.args.following.now c.loop-epoch.following keeps header))))
