use Rattle.std.proofs.Common.{◌≡◌, ◌∙◌, ◌+◌, ◌≤◌, ◌<◌, sym, ap, subst, arith}
use Rattle.progress.specs.Times.{key_of}
use Rattle.progress.specs.TimeCounts.{TimeCounts, count, if_same, with_times, IsFork}
use Rattle.progress.specs.NodeCounts.{node_counts, IsNode}
use Rattle.progress.proofs.Forks.{added_left, added_right, adds_left, adds_right}
use Rattle.progress.proofs.tree.Tree.+add.Goals as goal

pub invariant_of-self-then-key-split : goal.invariant_of-self-then-key-split
invariant_of-self-then-key-split t c =
    let here = c.in-Fork.here in
    let L = c.in-Fork.left.value in
    let R = c.in-Fork.right.value in
    let s = c.in-Fork.split in
    let e : with_times L here.time here.count R ≡ c.args.self.now = sym (ap node_counts c.in-Fork.is) ∙ c.self.view_is in
    let f : IsFork L here.time here.count s R = subst IsNode c.in-Fork.is c.self.invariant in
    let rest = c.sift-lower.result in
    let k : key_of rest.time < s = omega arith in
    added_left L c.add.new.self R s here c.args.entry c.sift-lower.new.here rest f c.requires.some c.sift-lower.ensures (rw c.deref_mut.ensures.value at c.add.ensures.adds) k

pub invariant_of-self-else-key-split : goal.invariant_of-self-else-key-split
invariant_of-self-else-key-split t c =
    let here = c.in-Fork.here in
    let L = c.in-Fork.left.value in
    let R = c.in-Fork.right.value in
    let s = c.in-Fork.split in
    let e : with_times L here.time here.count R ≡ c.args.self.now = sym (ap node_counts c.in-Fork.is) ∙ c.self.view_is in
    let f : IsFork L here.time here.count s R = subst IsNode c.in-Fork.is c.self.invariant in
    let rest = c.sift-lower.result in
    let k : s ≤ key_of rest.time = omega arith in
    added_right L R c.add-else-key-split.new.self s here c.args.entry c.sift-lower.new.here rest f c.requires.some c.sift-lower.ensures (rw c.deref_mut-else-key-split.ensures.value at c.add-else-key-split.ensures.adds) k

pub returns-then-key-split-clause-adds : goal.returns-then-key-split-clause-adds
returns-then-key-split-clause-adds t c = λ u.
    let here = c.in-Fork.here in
    let L = c.in-Fork.left.value in
    let R = c.in-Fork.right.value in
    let s = c.in-Fork.split in
    let e : with_times L here.time here.count R ≡ c.args.self.now = sym (ap node_counts c.in-Fork.is) ∙ c.self.view_is in
    let f : IsFork L here.time here.count s R = subst IsNode c.in-Fork.is c.self.invariant in
    subst (λ (b : TimeCounts). count (with_times c.add.new.self c.sift-lower.new.here.time c.sift-lower.new.here.count R) u ≡ if_same u c.args.entry.time c.args.entry.count + count b u) e
    (adds_left L c.add.new.self R here c.args.entry c.sift-lower.new.here c.sift-lower.result c.sift-lower.ensures (rw c.deref_mut.ensures.value at c.add.ensures.adds) u)

pub returns-else-key-split-clause-adds : goal.returns-else-key-split-clause-adds
returns-else-key-split-clause-adds t c = λ u.
    let here = c.in-Fork.here in
    let L = c.in-Fork.left.value in
    let R = c.in-Fork.right.value in
    let s = c.in-Fork.split in
    let e : with_times L here.time here.count R ≡ c.args.self.now = sym (ap node_counts c.in-Fork.is) ∙ c.self.view_is in
    let f : IsFork L here.time here.count s R = subst IsNode c.in-Fork.is c.self.invariant in
    subst (λ (b : TimeCounts). count (with_times L c.sift-lower.new.here.time c.sift-lower.new.here.count c.add-else-key-split.new.self) u ≡ if_same u c.args.entry.time c.args.entry.count + count b u) e
    (adds_right L R c.add-else-key-split.new.self here c.args.entry c.sift-lower.new.here c.sift-lower.result c.sift-lower.ensures (rw c.deref_mut-else-key-split.ensures.value at c.add-else-key-split.ensures.adds) u)
