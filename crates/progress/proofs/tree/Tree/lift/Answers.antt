use Rattle.std.proofs.Common.{◌≡◌, ◌∙◌, ◌+◌, sym, ap, subst}
use Rattle.progress.specs.TimeCounts.{TimeCounts, count, if_same, with_times, IsFork, IsFirst, IsNone}
use Rattle.progress.specs.NodeCounts.{node_counts, IsNode}
use Rattle.progress.proofs.Forks.{fork_first, lifted_left, lifted_right}
use Rattle.progress.proofs.tree.Tree.lift.Goals as goal

pub returns-then-is_empty-clause-taken : goal.returns-then-is_empty-clause-taken
returns-then-is_empty-clause-taken c = λ u.
    let here = c.in-Fork.here in
    let L = c.in-Fork.left.value in
    let R = c.in-Fork.right.value in
    let e : with_times L here.time here.count R ≡ c.args.self.now = ap node_counts c.in-Fork.ensures.value ∙ c.self.view_is in
    let none : IsNone L = subst IsNone c.deref.ensures (c.is_empty.ensures.empty c.if-is_empty.true) in
    let r : node_counts c.replace-then-is_empty.result ≡ R = ap node_counts c.replace-then-is_empty.ensures.value ∙ c.behind-right.view_is ∙ c.deref_mut.ensures.value in
    subst (λ (b : TimeCounts). count b u ≡ if_same u here.time here.count + count (node_counts c.replace-then-is_empty.result) u) e
    (subst (λ (b : TimeCounts). count (with_times L here.time here.count R) u ≡ if_same u here.time here.count + count b u) (sym r) (lifted_right L here.time here.count R none u))

pub returns-then-is_empty-clause-first : goal.returns-then-is_empty-clause-first
returns-then-is_empty-clause-first c =
    let here = c.in-Fork.here in
    let L = c.in-Fork.left.value in
    let R = c.in-Fork.right.value in
    let s = c.in-Fork.split in
    let e : with_times L here.time here.count R ≡ c.args.self.now = ap node_counts c.in-Fork.ensures.value ∙ c.self.view_is in
    let f : IsFork L here.time here.count s R = subst IsNode (sym c.in-Fork.ensures.value) c.self.invariant in
    subst (λ (b : TimeCounts). IsFirst here.time b) e (fork_first L here.time here.count s R f)

pub returns-then-is_empty-2-clause-taken : goal.returns-then-is_empty-2-clause-taken
returns-then-is_empty-2-clause-taken c = λ u.
    let here = c.in-Fork.here in
    let L = c.in-Fork.left.value in
    let R = c.in-Fork.right.value in
    let e : with_times L here.time here.count R ≡ c.args.self.now = ap node_counts c.in-Fork.ensures.value ∙ c.self.view_is in
    let none : IsNone R = subst IsNone c.deref-else-is_empty.ensures (c.is_empty-else-is_empty.ensures.empty c.if-is_empty-2.true) in
    let l : node_counts c.replace-then-is_empty-2.result ≡ L = ap node_counts c.replace-then-is_empty-2.ensures.value ∙ c.behind-left.view_is ∙ c.deref_mut-then-is_empty-2.ensures.value in
    subst (λ (b : TimeCounts). count b u ≡ if_same u here.time here.count + count (node_counts c.replace-then-is_empty-2.result) u) e
    (subst (λ (b : TimeCounts). count (with_times L here.time here.count R) u ≡ if_same u here.time here.count + count b u) (sym l) (lifted_left L here.time here.count R none u))

pub returns-then-is_empty-2-clause-first : goal.returns-then-is_empty-2-clause-first
returns-then-is_empty-2-clause-first c =
    let here = c.in-Fork.here in
    let L = c.in-Fork.left.value in
    let R = c.in-Fork.right.value in
    let s = c.in-Fork.split in
    let e : with_times L here.time here.count R ≡ c.args.self.now = ap node_counts c.in-Fork.ensures.value ∙ c.self.view_is in
    let f : IsFork L here.time here.count s R = subst IsNode (sym c.in-Fork.ensures.value) c.self.invariant in
    subst (λ (b : TimeCounts). IsFirst here.time b) e (fork_first L here.time here.count s R f)
