use Rattle.std.proofs.Common.{◌≡◌, ◌∙◌, ◌+◌, ◌≤◌, ◌<◌, ℕ, [], sym, ap, subst, arith, length, length-append}
use Rattle.semantics.specs.Time.{Time}
use Rattle.progress.specs.Times.{key_of}
use Rattle.progress.specs.TimeCounts.{TimeCounts, count, if_same, with_times, IsFork, IsNone}
use Rattle.progress.specs.NodeCounts.{node_counts, IsNode}
use Rattle.progress.proofs.Forks.{on_left, on_right, less_left, less_right, eq_differs, eq_same, taken_last}
use Rattle.progress.proofs.tree.Tree.+remove.Goals as goal

pub remove-requires : goal.remove-requires
remove-requires t c =
    let here = c.in-Fork.here in
    let L = c.in-Fork.left.value in
    let R = c.in-Fork.right.value in
    let s = c.in-Fork.split in
    let e : with_times L here.time here.count R ≡ c.args.self.now = sym (ap node_counts c.in-Fork.is) ∙ c.self.view_is in
    let f : IsFork L here.time here.count s R = subst IsNode c.in-Fork.is c.self.invariant in
    let time = c.args.time.now in
    let k : key_of time < s = omega arith in
    let there : 0 < count (with_times L here.time here.count R) time = subst (λ (b : TimeCounts). 0 < count b time) (sym e) c.requires in
    let goes : 0 < count L time = on_left L R here.time time here.count s f there (eq_differs here.time time c.eq.result c.eq.ensures c.if-eq.false) k in
    (grind (arith, length-append L R, ap length e, ap length c.deref_mut.ensures.value), rw c.deref_mut.ensures.value goes)

pub remove-requires-else-key-split : goal.remove-requires-else-key-split
remove-requires-else-key-split t c =
    let here = c.in-Fork.here in
    let L = c.in-Fork.left.value in
    let R = c.in-Fork.right.value in
    let s = c.in-Fork.split in
    let e : with_times L here.time here.count R ≡ c.args.self.now = sym (ap node_counts c.in-Fork.is) ∙ c.self.view_is in
    let f : IsFork L here.time here.count s R = subst IsNode c.in-Fork.is c.self.invariant in
    let time = c.args.time.now in
    let k : s ≤ key_of time = omega arith in
    let there : 0 < count (with_times L here.time here.count R) time = subst (λ (b : TimeCounts). 0 < count b time) (sym e) c.requires in
    let goes : 0 < count R time = on_right L R here.time time here.count s f there (eq_differs here.time time c.eq.result c.eq.ensures c.if-eq.false) k in
    (grind (arith, length-append L R, ap length e, ap length c.deref_mut-else-key-split.ensures.value), rw c.deref_mut-else-key-split.ensures.value goes)

pub returns-then-key-split-clause-removed : goal.returns-then-key-split-clause-removed
returns-then-key-split-clause-removed t c = λ u.
    let here = c.in-Fork.here in
    let L = c.in-Fork.left.value in
    let R = c.in-Fork.right.value in
    let s = c.in-Fork.split in
    let e : with_times L here.time here.count R ≡ c.args.self.now = sym (ap node_counts c.in-Fork.is) ∙ c.self.view_is in
    let f : IsFork L here.time here.count s R = subst IsNode c.in-Fork.is c.self.invariant in
    subst (λ (b : TimeCounts). count b u ≡ if_same u c.args.time.now 1 + count (with_times c.remove.new.self here.time here.count R) u) e
    (less_left L c.remove.new.self R here.time c.args.time.now here.count (rw c.deref_mut.ensures.value at c.remove.ensures.removed) u)

pub returns-else-key-split-clause-removed : goal.returns-else-key-split-clause-removed
returns-else-key-split-clause-removed t c = λ u.
    let here = c.in-Fork.here in
    let L = c.in-Fork.left.value in
    let R = c.in-Fork.right.value in
    let s = c.in-Fork.split in
    let e : with_times L here.time here.count R ≡ c.args.self.now = sym (ap node_counts c.in-Fork.is) ∙ c.self.view_is in
    let f : IsFork L here.time here.count s R = subst IsNode c.in-Fork.is c.self.invariant in
    subst (λ (b : TimeCounts). count b u ≡ if_same u c.args.time.now 1 + count (with_times L here.time here.count c.remove-else-key-split.new.self) u) e
    (less_right L R c.remove-else-key-split.new.self here.time c.args.time.now here.count (rw c.deref_mut-else-key-split.ensures.value at c.remove-else-key-split.ensures.removed) u)

pub returns-then-are_empty-clause-removed : goal.returns-then-are_empty-clause-removed
returns-then-are_empty-clause-removed t c = λ u.
    let here = c.in-Fork.here in
    let L = c.in-Fork.left.value in
    let R = c.in-Fork.right.value in
    let s = c.in-Fork.split in
    let time = c.args.time.now in
    let e : with_times L here.time here.count R ≡ c.args.self.now = sym (ap node_counts c.in-Fork.is) ∙ c.self.view_is in
    let f : IsFork L here.time here.count s R = subst IsNode c.in-Fork.is c.self.invariant in
    let same : here.time ≡ time = eq_same here.time time c.eq.result c.eq.ensures c.if-eq.true in
    let one : here.count ≡ 1 = let k = f.some in let h = c.if-here-gt1.false in omega arith in
    let none = c.are_empty.ensures c.if-are_empty.true in
    let left : IsNone L = subst IsNone c.deref.ensures none.0 in
    let right : IsNone R = subst IsNone c.deref-else-here-gt1.ensures none.1 in
    let last : count (with_times L here.time here.count R) u ≡ if_same u here.time here.count + count [] u = taken_last L R here left right u in
    let of_time : count (with_times L here.time here.count R) u ≡ if_same u time here.count + count [] u =
    subst (λ (x : Time). count (with_times L here.time here.count R) u ≡ if_same u x here.count + count [] u) same last in
    let once : count (with_times L here.time here.count R) u ≡ if_same u time 1 + count [] u =
    subst (λ (n : ℕ). count (with_times L here.time here.count R) u ≡ if_same u time n + count [] u) one of_time in
    subst (λ (b : TimeCounts). count c.args.self.now u ≡ if_same u time 1 + count b u) (sym c.clear.ensures.none)
    (subst (λ (b : TimeCounts). count b u ≡ if_same u time 1 + count [] u) e once)
