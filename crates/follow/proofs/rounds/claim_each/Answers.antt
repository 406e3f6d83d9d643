use Rattle.std.proofs.Common.{◌≡◌, ◌<◌, ◌+◌, ◌∙◌, ◌∷◌, ◌++◌, [], All, ℕ, List, ap, refl, subst, sym, arith}
use Rattle.std.specs.List.{AllByRecursion}
use Rattle.board.specs.Lateness.{BoardShown}
use Rattle.board.specs.Shown.{Shown, tables}
use Rattle.alone.specs.Scenes.{AreFreeBut}
use Rattle.alone.specs.Moves.{Advances, Moves}
use Rattle.follow.specs.Working.{HasNoEvent, TakesAlone}
use Rattle.follow.specs.Slots.{IsSlotOf, workers_of}
use Rattle.follow.specs.declared.slot.Slot.{Slot}
use Rattle.follow.specs.declared.slot.Slot.TheVariants as slot
use Rattle.alone.proofs.Stepping.{advances_move, moves_on, stays}
use Rattle.follow.proofs.Working.{all_below, all_push, all_wider, as_many, none_of, nothing_more, nothing_pushed, some_of, workers_push}
use Rattle.follow.proofs.rounds.claim_each.Goals as goal
use Rattle.follow.proofs.rounds.claim_each.Goals.{in-Some+in_ok-keep-in-Some, in-None}

pub loop-worker-init : goal.loop-worker-init
loop-worker-init g c = record {
  end_is = c.workers-worker-end.ensures;
  same = refl;
  own = subst (All (IsSlotOf (tables c.args.board.now.shown))) (sym c.requires.none) (λ k d l. absurd (omega (arith, l)));
  moves = stays c.args.board.now.shown c.args.board.now.shown refl;
  free = subst (λ (xs : List Slot). AreFreeBut c.args.board.now.shown (workers_of xs)) (sym c.requires.none) c.requires.free;
  below = subst (λ (xs : List Slot). AllByRecursion (λ (k : ℕ). k < 0) (workers_of xs)) (sym c.requires.none) tt;
  none = λ e. (refl, λ k l. absurd (omega (arith, l)));
}

pub claim_one-requires-clause-there : goal.claim_one-requires-clause-there
claim_one-requires-clause-there g c = omega (arith, c.loop-worker-test.true, c.loop-worker.invariant.end_is, as_many c.loop-worker.board.shown c.args.board.now.shown c.loop-worker.invariant.same)

pub claim_one-requires-clause-free : goal.claim_one-requires-clause-free
claim_one-requires-clause-free g c = (workers_of c.loop-worker.slots.items, all_below c.loop-worker.worker (workers_of c.loop-worker.slots.items) c.loop-worker.invariant.below, c.loop-worker.invariant.free)

pub loop-worker-preserved : goal.loop-worker-preserved
loop-worker-preserved g c =
    let before = c.loop-worker.invariant in
    let s = c.args.board.now.shown in
    let t = c.loop-worker.board.shown in
    let u = c.claim_one.new.board.shown in
    let n = c.loop-worker.worker in
    let earlier = workers_of c.loop-worker.slots.items in
    let same : tables u ≡ tables s = c.claim_one.ensures.tables ∙ before.same in
    elim c.match-claim_one.branch [
      | in-Some+in_ok-keep-in-Some w ↦
          let kept : c.match-claim_one.slots.items ≡ c.loop-worker.slots.items ++ slot.Claimed w.in-Some.work ∷ [] = ap (λ v. v.items) w.slots-is ∙ w.in_ok-keep-in-Some.ensures.kept in
          let still : c.match-claim_one.board.shown ≡ u = ap (λ (b : BoardShown). b.shown) (w.board-is ∙ w.in_ok-keep-in-Some.ensures.board) in
          let alone = some_of (λ x. (x.0.worker ≡ n) × TakesAlone t u n) _ _ w.in-Some.is c.claim_one.ensures.alone in
          let workers : workers_of c.match-claim_one.slots.items ≡ earlier ++ n ∷ [] = ap workers_of kept ∙ workers_push c.loop-worker.slots.items (slot.Claimed w.in-Some.work) ∙ ap (λ (k : ℕ). earlier ++ k ∷ []) alone.0 in
          record {
            end_is = before.end_is;
            same = ap tables still ∙ same;
            own = subst (λ ts. All (IsSlotOf ts) c.match-claim_one.slots.items) same (subst (λ v. All (IsSlotOf (tables u)) v.items) (sym w.slots-is) w.in_ok-keep-in-Some.ensures.own);
            moves = subst (Moves s) (sym still) (moves_on s t u before.moves (advances_move t u (some_of (λ x. Advances t u) _ _ w.in-Some.is c.claim_one.ensures.some)));
            free = subst (λ (x : Shown). AreFreeBut x (workers_of c.match-claim_one.slots.items)) (sym still) (subst (AreFreeBut u) (sym workers) (alone.1 earlier before.free));
            below = subst (AllByRecursion (λ (k : ℕ). k < n + 1)) (sym workers) (all_push (λ (k : ℕ). k < n + 1) earlier n (all_wider n earlier before.below) (omega arith));
            none = λ e. absurd (nothing_pushed c.loop-worker.slots.items (slot.Claimed w.in-Some.work) (sym kept ∙ e));
          }
      | in-None w ↦
          let nothing = none_of ((u ≡ t) × HasNoEvent t n) _ w.in-None.is c.claim_one.ensures.none in
          let still : c.match-claim_one.board.shown ≡ t = ap (λ (b : BoardShown). b.shown) w.board-is ∙ nothing.0 in
          let kept : c.match-claim_one.slots.items ≡ c.loop-worker.slots.items = ap (λ v. v.items) w.slots-is in
          record {
            end_is = before.end_is;
            same = ap tables still ∙ before.same;
            own = subst (All (IsSlotOf (tables s))) (sym kept) before.own;
            moves = subst (Moves s) (sym still) before.moves;
            free = subst (λ (x : Shown). AreFreeBut x (workers_of c.match-claim_one.slots.items)) (sym still) (subst (λ (xs : List Slot). AreFreeBut t (workers_of xs)) (sym kept) before.free);
            below = subst (λ (xs : List Slot). AllByRecursion (λ (k : ℕ). k < n + 1) (workers_of xs)) (sym kept) (all_wider n earlier before.below);
            none = λ e.
                let none_before = before.none (sym kept ∙ e) in
                nothing_more s t c.match-claim_one.board.shown n none_before.0 none_before.1 still nothing.1;
          }
    ]

pub returns-clause-none : goal.returns-clause-none
returns-clause-none g c = λ e.
    let last = c.loop-worker.invariant in
    let all = last.none e in
    (all.0, λ k l. all.1 k (omega (arith, l, last.end_is, c.loop-worker-test.false)))
