use Rattle.std.proofs.Common.{◌≡◌, ◌∙◌, [], Some, rules, cond, subst, sym}
use Rattle.indexmap.specs.IndexMap.{get}
use Rattle.semantics.specs.Shard.{with_records}
use Rattle.semantics.specs.Time.{Time, same_time}
use Rattle.vertices.specs.ByTime.{AreStatesOf}
use Rattle.vertices.specs.LoopRows.{IsLoopOf, by_turn}
use Rattle.vertices.proofs.Loops.{turn_more}
use Rattle.vertices.proofs.Times.{state_there, so_of_none, states_more}
use Rattle.vertices.proofs.unseen.UnseenShard.note.Goals as goal

pub absorb-requires : goal.absorb-requires
absorb-requires c =
    let w = c.requires.whole in (
      (λ k. by_turn w.0 k c.leave-outside.result),
      subst (λ n. IsLoopOf n c.in-Some.kept.now (λ k. by_turn w.0 k c.leave-outside.result)) (sym c.requires.arity)
          (state_there c.args.self.now.loops c.leave-outside.result (IsLoopOf c.args.self.now.came.arity) (by_turn w.0) c.in-Some.kept.now (search rules) w.1),
    )

pub returns-in-Some-clause-loops : goal.returns-in-Some-clause-loops
returns-in-Some-clause-loops c =
    let n = c.args.self.now.came.arity in
    let u = c.leave-outside.result in
    λ a h.
    subst (AreStatesOf (IsLoopOf n) (c.get_mut.follows.lender c.absorb.new.self))
    (sym (turn_more a c.args.time.now c.args.batch.now c.requires.depth ∙ (λ j. with_records (by_turn a) (sym c.last_counter-turn.ensures j) (sym c.leave-outside.ensures j) c.args.batch.now)))
    (states_more c.args.self.now.loops (c.get_mut.follows.lender c.absorb.new.self) u c.absorb.new.self (λ t. search rules) (IsLoopOf n) (by_turn a) c.last_counter-turn.result c.args.batch.now h
    (c.in_ok-absorb.ensures n (λ k. by_turn a k u) (state_there c.args.self.now.loops u (IsLoopOf n) (by_turn a) c.in-Some.kept.now (search rules) h)))

pub absorb-requires-2 : goal.absorb-requires-2
absorb-requires-2 c = ((λ k. []), subst (λ n. IsLoopOf n c.in_ok-kept.kept (λ k. [])) (sym c.requires.arity) c.in_ok-kept.ensures)

pub returns-clause-loops : goal.returns-clause-loops
returns-clause-loops c =
    let n = c.args.self.now.came.arity in
    let u = c.leave-outside.result in
    let kept : (t : Time) → get same_time c.get_mut.follows.lender-at-none t ≡ get same_time c.args.self.now.loops t = λ t. search rules in
    λ a h.
    subst (AreStatesOf (IsLoopOf n) c.put.new.times)
    (sym (turn_more a c.args.time.now c.args.batch.now c.requires.depth ∙ (λ j. with_records (by_turn a) (sym c.last_counter-turn.ensures j) (sym c.leave-outside.ensures j) c.args.batch.now)))
    (states_more c.args.self.now.loops c.put.new.times u c.absorb-2.new.self
    (λ t. c.in_ok-put.ensures t ∙ (λ j. cond (same_time u t) (Some c.absorb-2.new.self) (kept t j)))
    (IsLoopOf n) (by_turn a) c.last_counter-turn.result c.args.batch.now h
    (c.in_ok-absorb-2.ensures n (λ k. by_turn a k u) (so_of_none c.args.self.now.loops u (IsLoopOf n) (by_turn a) (IsLoopOf n c.in_ok-kept.kept) (search rules) h c.in_ok-kept.ensures)))
