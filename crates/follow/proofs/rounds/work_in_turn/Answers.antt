use Rattle.std.proofs.Common.{◌≡◌, ◌+◌, ◌∙◌, [], ap, arith, length, refl, subst, sym}
use Rattle.board.specs.Lateness.{BoardShown}
use Rattle.board.specs.Shown.{Shown, tables}
use Rattle.alone.specs.Scenes.{AreFree}
use Rattle.alone.specs.Moves.{Advances}
use Rattle.follow.specs.Working.{EndsAlone, HasNoEvent, HasWorked, TakesAlone}
use Rattle.follow.specs.declared.rounds.Round.{Round}
use Rattle.follow.proofs.Working.{as_many, none_of, round_all, some_of, turn_nothing, turn_some}
use Rattle.follow.proofs.rounds.work_in_turn.Goals as goal
use Rattle.follow.proofs.rounds.work_in_turn.Goals.{in-Some+in_ok-process_one-in-Some, in-None}

pub loop-worker-init : goal.loop-worker-init
loop-worker-init g c = record { end_is = c.workers-worker-end.ensures; same = refl; free = c.requires; worked = (refl, λ k l. absurd (omega (arith, l))) }

pub claim_one-requires-clause-there : goal.claim_one-requires-clause-there
claim_one-requires-clause-there g c = omega (arith, c.loop-worker-test.true, c.loop-worker.invariant.end_is, as_many c.loop-worker.board.shown c.args.board.now.shown c.loop-worker.invariant.same)

pub claim_one-requires-clause-free : goal.claim_one-requires-clause-free
claim_one-requires-clause-free g c = ([], tt, c.loop-worker.invariant.free)

pub loop-worker-preserved : goal.loop-worker-preserved
loop-worker-preserved g c =
    let s = c.args.board.now.shown in
    let t = c.loop-worker.board.shown in
    let u = c.claim_one.new.board.shown in
    let n = c.loop-worker.worker in
    let before = c.loop-worker.invariant in
    let same : tables u ≡ tables s = c.claim_one.ensures.tables ∙ before.same in
    elim c.match-claim_one.branch [
      | in-Some+in_ok-process_one-in-Some w ↦
          let v = w.process_one.new.board.shown in
          let still : c.match-claim_one.board.shown ≡ v = ap (λ (b : BoardShown). b.shown) w.board-is in
          let alone = some_of (λ x. (x.0.worker ≡ n) × TakesAlone t u n) _ _ w.in-Some.is c.claim_one.ensures.alone in
          let ends : EndsAlone u v n = subst (EndsAlone u v) alone.0 w.in_ok-process_one-in-Some.ensures.alone in
          record {
            end_is = before.end_is;
            same = ap tables still ∙ w.in_ok-process_one-in-Some.ensures.tables ∙ same;
            free = subst AreFree (sym still) (ends [] (alone.1 [] before.free));
            worked =
                subst (λ (x : Shown). HasWorked c.match-claim_one.round (n + 1) s x) (sym still)
                (subst (λ (r : Round). HasWorked r (n + 1) s v) (sym w.round-is)
                (turn_some c.loop-worker.round w.with-round.result n (n + 1) s t u v before.worked (some_of (λ x. Advances t u) _ _ w.in-Some.is c.claim_one.ensures.some) w.in_ok-process_one-in-Some.ensures.steps w.with-round.ensures));
          }
      | in-None w ↦
          let nothing = none_of ((u ≡ t) × HasNoEvent t n) _ w.in-None.is c.claim_one.ensures.none in
          let still : c.match-claim_one.board.shown ≡ u = ap (λ (b : BoardShown). b.shown) w.board-is in
          record {
            end_is = before.end_is;
            same = ap tables still ∙ same;
            free = subst AreFree (sym (still ∙ nothing.0)) before.free;
            worked =
                subst (λ (x : Shown). HasWorked c.match-claim_one.round (n + 1) s x) (sym still)
                (subst (λ (r : Round). HasWorked r (n + 1) s u) (sym w.round-is) (turn_nothing c.loop-worker.round n s t u before.worked nothing));
          }
    ]

pub returns-clause-worked : goal.returns-clause-worked
returns-clause-worked g c =
    let last = c.loop-worker.invariant in
    round_all c.loop-worker.round c.loop-worker.worker (length c.args.board.now.shown.sides) c.args.board.now.shown c.loop-worker.board.shown (omega (arith, last.end_is, c.loop-worker-test.false)) last.worked
