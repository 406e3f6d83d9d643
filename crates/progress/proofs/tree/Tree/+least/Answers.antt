use Rattle.std.proofs.Common.{◌≡◌, ◌∙◌, sym, ap, subst, arith}
use Rattle.semantics.proofs.Cases.{is_true}
use Rattle.progress.specs.TimeCounts.{TimeCounts, with_times, IsFork, IsAsked, IsLeast, IsNoneAsked}
use Rattle.progress.specs.NodeCounts.{node_counts, IsNode}
use Rattle.progress.proofs.Options.{none_map, some_map, not_true}
use Rattle.progress.proofs.Orders.{other_way}
use Rattle.progress.proofs.Forks.{least_here, least_left, least_right, least_both_left, least_both_right, none_asked, right_late}
use Rattle.progress.proofs.tree.Tree.+least.Goals as goal

pub returns-then-is_asked-clause-some : goal.returns-then-is_asked-clause-some
returns-then-is_asked-clause-some t c =
    let here = c.in-Fork.here in
    let L = c.in-Fork.left.value in
    let R = c.in-Fork.right.value in
    let s = c.in-Fork.split in
    let until = c.args.until.now in
    let other = c.args.other in
    let e : with_times L here.time here.count R ≡ c.args.self.now = sym (ap node_counts c.in-Fork.is) ∙ c.self.view_is in
    let f : IsFork L here.time here.count s R = subst IsNode c.in-Fork.is c.self.invariant in
    subst (λ (b : TimeCounts). IsLeast b until other here.time) e (least_here L R here.time here.count s until other f (c.is_asked.ensures.0 (is_true c.is_asked.result c.if-is_asked.true)))

pub returns-then-split-epoch-clause-none : goal.returns-then-split-epoch-clause-none
returns-then-split-epoch-clause-none t c =
    let here = c.in-Fork.here in
    let L = c.in-Fork.left.value in
    let R = c.in-Fork.right.value in
    let s = c.in-Fork.split in
    let until = c.args.until.now in
    let other = c.args.other in
    let e : with_times L here.time here.count R ≡ c.args.self.now = sym (ap node_counts c.in-Fork.is) ∙ c.self.view_is in
    let f : IsFork L here.time here.count s R = subst IsNode c.in-Fork.is c.self.invariant in
    let d : IsAsked until other here.time → ⊥ = λ k. not_true c.is_asked.result c.if-is_asked.false (c.is_asked.ensures.1 k) in
    let late : IsNoneAsked R until other = right_late L R here.time here.count s until other f (let h = c.if-split-epoch.true in omega (arith, c.epoch.ensures)) in
    none_map c.least-near.result (IsNoneAsked L until other) (IsNoneAsked c.args.self.now until other)
    (λ n. subst (λ (b : TimeCounts). IsNoneAsked b until other) e (none_asked L R here.time here.count s until other f d n late))
    (rw c.deref.ensures at c.least-near.ensures.none)

pub returns-then-split-epoch-clause-some : goal.returns-then-split-epoch-clause-some
returns-then-split-epoch-clause-some t c =
    let here = c.in-Fork.here in
    let L = c.in-Fork.left.value in
    let R = c.in-Fork.right.value in
    let s = c.in-Fork.split in
    let until = c.args.until.now in
    let other = c.args.other in
    let e : with_times L here.time here.count R ≡ c.args.self.now = sym (ap node_counts c.in-Fork.is) ∙ c.self.view_is in
    let f : IsFork L here.time here.count s R = subst IsNode c.in-Fork.is c.self.invariant in
    let d : IsAsked until other here.time → ⊥ = λ k. not_true c.is_asked.result c.if-is_asked.false (c.is_asked.ensures.1 k) in
    let late : IsNoneAsked R until other = right_late L R here.time here.count s until other f (let h = c.if-split-epoch.true in omega (arith, c.epoch.ensures)) in
    some_map c.least-near.result (λ v. IsLeast L until other v.now) (λ v. IsLeast c.args.self.now until other v.now)
    (λ v n. subst (λ (b : TimeCounts). IsLeast b until other v.now) e (least_left L R here.time v.now here.count s until other f d late n))
    (rw c.deref.ensures at c.least-near.ensures.some)

pub returns-in-None-clause-none : goal.returns-in-None-clause-none
returns-in-None-clause-none t c =
    let here = c.in-Fork.here in
    let L = c.in-Fork.left.value in
    let R = c.in-Fork.right.value in
    let s = c.in-Fork.split in
    let until = c.args.until.now in
    let other = c.args.other in
    let e : with_times L here.time here.count R ≡ c.args.self.now = sym (ap node_counts c.in-Fork.is) ∙ c.self.view_is in
    let f : IsFork L here.time here.count s R = subst IsNode c.in-Fork.is c.self.invariant in
    let d : IsAsked until other here.time → ⊥ = λ k. not_true c.is_asked.result c.if-is_asked.false (c.is_asked.ensures.1 k) in
    none_map c.least-far.result (IsNoneAsked R until other) (IsNoneAsked c.args.self.now until other)
    (λ n. subst (λ (b : TimeCounts). IsNoneAsked b until other) e (none_asked L R here.time here.count s until other f d (rw c.deref.ensures at c.in-None.ensures.none) n))
    (rw c.deref-in-Fork.ensures at c.least-far.ensures.none)

pub returns-in-None-clause-some : goal.returns-in-None-clause-some
returns-in-None-clause-some t c =
    let here = c.in-Fork.here in
    let L = c.in-Fork.left.value in
    let R = c.in-Fork.right.value in
    let s = c.in-Fork.split in
    let until = c.args.until.now in
    let other = c.args.other in
    let e : with_times L here.time here.count R ≡ c.args.self.now = sym (ap node_counts c.in-Fork.is) ∙ c.self.view_is in
    let f : IsFork L here.time here.count s R = subst IsNode c.in-Fork.is c.self.invariant in
    let d : IsAsked until other here.time → ⊥ = λ k. not_true c.is_asked.result c.if-is_asked.false (c.is_asked.ensures.1 k) in
    some_map c.least-far.result (λ v. IsLeast R until other v.now) (λ v. IsLeast c.args.self.now until other v.now)
    (λ v n. subst (λ (b : TimeCounts). IsLeast b until other v.now) e (least_right L R here.time v.now here.count s until other f d (rw c.deref.ensures at c.in-None.ensures.none) n))
    (rw c.deref-in-Fork.ensures at c.least-far.ensures.some)

pub returns-in-None-far-clause-some : goal.returns-in-None-far-clause-some
returns-in-None-far-clause-some t c =
    let here = c.in-Fork.here in
    let L = c.in-Fork.left.value in
    let R = c.in-Fork.right.value in
    let s = c.in-Fork.split in
    let until = c.args.until.now in
    let other = c.args.other in
    let e : with_times L here.time here.count R ≡ c.args.self.now = sym (ap node_counts c.in-Fork.is) ∙ c.self.view_is in
    let f : IsFork L here.time here.count s R = subst IsNode c.in-Fork.is c.self.invariant in
    let d : IsAsked until other here.time → ⊥ = λ k. not_true c.is_asked.result c.if-is_asked.false (c.is_asked.ensures.1 k) in
    subst (λ (b : TimeCounts). IsLeast b until other c.in-Some.on_left.now) e
    (least_left L R here.time c.in-Some.on_left.now here.count s until other f d (rw c.deref-in-Fork.ensures at c.in-None-far.ensures.none) (rw c.deref.ensures at c.in-Some.ensures.some))

pub returns-then-counters_leq-clause-some : goal.returns-then-counters_leq-clause-some
returns-then-counters_leq-clause-some t c =
    let here = c.in-Fork.here in
    let L = c.in-Fork.left.value in
    let R = c.in-Fork.right.value in
    let s = c.in-Fork.split in
    let until = c.args.until.now in
    let other = c.args.other in
    let e : with_times L here.time here.count R ≡ c.args.self.now = sym (ap node_counts c.in-Fork.is) ∙ c.self.view_is in
    let f : IsFork L here.time here.count s R = subst IsNode c.in-Fork.is c.self.invariant in
    let d : IsAsked until other here.time → ⊥ = λ k. not_true c.is_asked.result c.if-is_asked.false (c.is_asked.ensures.1 k) in
    subst (λ (b : TimeCounts). IsLeast b until other c.in-Some.on_left.now) e
    (least_both_left L R here.time c.in-Some.on_left.now c.in-Some-far.on_right.now here.count s until other f d (rw c.deref.ensures at c.in-Some.ensures.some) (rw c.deref-in-Fork.ensures at c.in-Some-far.ensures.some)
    (c.counters_leq.ensures.0 (is_true c.counters_leq.result c.if-counters_leq.true)))

pub returns-else-counters_leq-clause-some : goal.returns-else-counters_leq-clause-some
returns-else-counters_leq-clause-some t c =
    let here = c.in-Fork.here in
    let L = c.in-Fork.left.value in
    let R = c.in-Fork.right.value in
    let s = c.in-Fork.split in
    let until = c.args.until.now in
    let other = c.args.other in
    let e : with_times L here.time here.count R ≡ c.args.self.now = sym (ap node_counts c.in-Fork.is) ∙ c.self.view_is in
    let f : IsFork L here.time here.count s R = subst IsNode c.in-Fork.is c.self.invariant in
    let d : IsAsked until other here.time → ⊥ = λ k. not_true c.is_asked.result c.if-is_asked.false (c.is_asked.ensures.1 k) in
    subst (λ (b : TimeCounts). IsLeast b until other c.in-Some-far.on_right.now) e
    (least_both_right L R here.time c.in-Some.on_left.now c.in-Some-far.on_right.now here.count s until other f d (rw c.deref.ensures at c.in-Some.ensures.some) (rw c.deref-in-Fork.ensures at c.in-Some-far.ensures.some)
    (other_way c.in-Some.on_left.now c.in-Some-far.on_right.now (λ h. not_true c.counters_leq.result c.if-counters_leq.false (c.counters_leq.ensures.1 h))))
