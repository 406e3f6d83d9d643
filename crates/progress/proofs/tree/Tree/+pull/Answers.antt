use Rattle.std.proofs.Common.{rules, ◌≡◌, ◌∙◌, ◌+◌, sym, ap, subst}
use Rattle.progress.specs.TimeCounts.{TimeCounts, count, if_same, with_times, IsFork, IsFirst}
use Rattle.progress.specs.NodeCounts.{node_counts, IsNode}
use Rattle.progress.proofs.Forks.{fork_first, taken_left, taken_right}
use Rattle.progress.proofs.tree.Tree.+pull.Goals as goal

pub returns-in-Some-pull-clause-taken : goal.returns-in-Some-pull-clause-taken
returns-in-Some-pull-clause-taken t c = λ u.
    let here = c.in-Fork.here in
    let L = c.in-Fork.left.value in
    let R = c.in-Fork.right.value in
    let same : c.lift.new.self ≡ c.args.self.now = search rules in
    let e : with_times L here.time here.count R ≡ c.args.self.now = sym (ap node_counts c.in-Fork.is) ∙ c.self.view_is ∙ same in
    let next = c.in-Some-pull.next in
    rw (c.replace.ensures.value, c.replace.ensures.after)
    (subst (λ (b : TimeCounts). count b u ≡ if_same u here.time here.count + count (with_times c.pull.new.self next.time next.count R) u) e
    (taken_left L c.pull.new.self R here next (rw c.deref_mut.ensures.value at c.in-Some-pull.ensures.taken) u))

pub returns-in-Some-pull-clause-first : goal.returns-in-Some-pull-clause-first
returns-in-Some-pull-clause-first t c =
    let here = c.in-Fork.here in
    let L = c.in-Fork.left.value in
    let R = c.in-Fork.right.value in
    let same : c.lift.new.self ≡ c.args.self.now = search rules in
    let e : with_times L here.time here.count R ≡ c.args.self.now = sym (ap node_counts c.in-Fork.is) ∙ c.self.view_is ∙ same in
    let f : IsFork L here.time here.count c.in-Fork.field-2 R = subst IsNode c.in-Fork.is c.self.invariant in
    rw c.replace.ensures.value (subst (λ (b : TimeCounts). IsFirst here.time b) e (fork_first L here.time here.count c.in-Fork.field-2 R f))

pub returns-in-Some-pull-2-clause-taken : goal.returns-in-Some-pull-2-clause-taken
returns-in-Some-pull-2-clause-taken t c = λ u.
    let here = c.in-Fork.here in
    let L = c.in-Fork.left.value in
    let R = c.in-Fork.right.value in
    let same : c.lift.new.self ≡ c.args.self.now = search rules in
    let e : with_times L here.time here.count R ≡ c.args.self.now = sym (ap node_counts c.in-Fork.is) ∙ c.self.view_is ∙ same in
    let next = c.in-Some-pull-2.next in
    rw (c.replace-in-Some-pull-2.ensures.value, c.replace-in-Some-pull-2.ensures.after)
    (subst (λ (b : TimeCounts). count b u ≡ if_same u here.time here.count + count (with_times L next.time next.count c.pull-else-leads.new.self) u) e
    (taken_right L R c.pull-else-leads.new.self here next (rw c.deref_mut-else-leads.ensures.value at c.in-Some-pull-2.ensures.taken) u))

pub returns-in-Some-pull-2-clause-first : goal.returns-in-Some-pull-2-clause-first
returns-in-Some-pull-2-clause-first t c =
    let here = c.in-Fork.here in
    let L = c.in-Fork.left.value in
    let R = c.in-Fork.right.value in
    let same : c.lift.new.self ≡ c.args.self.now = search rules in
    let e : with_times L here.time here.count R ≡ c.args.self.now = sym (ap node_counts c.in-Fork.is) ∙ c.self.view_is ∙ same in
    let f : IsFork L here.time here.count c.in-Fork.field-2 R = subst IsNode c.in-Fork.is c.self.invariant in
    rw c.replace-in-Some-pull-2.ensures.value (subst (λ (b : TimeCounts). IsFirst here.time b) e (fork_first L here.time here.count c.in-Fork.field-2 R f))
