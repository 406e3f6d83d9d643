use Rattle.std.proofs.Common.{◌≡◌, ◌∙◌, ◌≤◌, ◌<◌, List, ap, subst, sym, arith, Some, slice_get, slice_set}
use Rattle.semantics.specs.Dataflow.{IsDataflow}
use Rattle.semantics.specs.Could.{CouldResultIn, NoneOf}
use Rattle.semantics.specs.Graph.{Graph}
use Rattle.graph.specs.Shown.{shown_graph}
use Rattle.progress.proofs.Contents.{got_at}
use Rattle.views.specs.Waiting.{IsApplied, IsSeenBy}
use Rattle.views.specs.Queued.{Queued}
use Rattle.views.specs.QueuedLists.{lists_of}
use Rattle.views.specs.WorkerViews.{WorkerViews, AreViews, content_of, untaken_at, waiting_of}
use Rattle.views.proofs.AppliedBatches.{outcome}
use Rattle.views.proofs.PostedBatches.{set_same}
use Rattle.views.proofs.local_views.LocalViewsViews.apply.Goals as goal

pub take-requires : goal.take-requires
take-requires c =
    let i = c.self.inside in
    let g = shown_graph i.paths.value in
    let n = i.workers in
    let qs = i.queues.items in
    let s = c.args.sender in
    let w = c.args.worker in
    let q = c.index_mut-queue.result.now in
    let h : AreViews g (content_of i.tracker) n qs i.spare = c.self.invariant.2 in
    let sender : s ≤ n = subst (λ (t : WorkerViews). s ≤ t.workers) (sym c.self.view_is) c.requires.sender in
    let worker : w < n = subst (λ (t : WorkerViews). w < t.workers) (sym c.self.view_is) c.requires.worker in
    let got : slice_get qs s ≡ Some q = got_at qs s q (let a = h.senders in omega arith) c.index_mut-queue.ensures.value in
    (let k = (h.sender s q got).taken in omega arith)

pub invariant_of-self : goal.invariant_of-self
invariant_of-self c =
    let i = c.self.inside in
    let g = shown_graph i.paths.value in
    let n = i.workers in
    let qs = i.queues.items in
    let s = c.args.sender in
    let w = c.args.worker in
    let q = c.index_mut-queue.result.now in
    let h : AreViews g (content_of i.tracker) n qs i.spare = c.self.invariant.2 in
    let sender : s ≤ n = subst (λ (t : WorkerViews). s ≤ t.workers) (sym c.self.view_is) c.requires.sender in
    let worker : w < n = subst (λ (t : WorkerViews). w < t.workers) (sym c.self.view_is) c.requires.worker in
    let got : slice_get qs s ≡ Some q = got_at qs s q (let a = h.senders in omega arith) c.index_mut-queue.ensures.value in
    let q' = c.take.new.self in
    let b = c.take.result in
    let flow : ∥ IsDataflow g ∥₁ = rw c.deref.ensures at c.law_of_dataflow.ensures in
    let e = c.take.ensures in
    let o = outcome g (content_of i.tracker) n qs i.spare s w q q' b h got worker flow e.took e.none e.others e.changes e.taken e.free in
    (c.self.invariant.0, c.self.invariant.1, o.late)

pub returns-clause-applied : goal.returns-clause-applied
returns-clause-applied c =
    let i = c.self.inside in
    let g = shown_graph i.paths.value in
    let n = i.workers in
    let qs = i.queues.items in
    let s = c.args.sender in
    let w = c.args.worker in
    let q = c.index_mut-queue.result.now in
    let h : AreViews g (content_of i.tracker) n qs i.spare = c.self.invariant.2 in
    let sender : s ≤ n = subst (λ (t : WorkerViews). s ≤ t.workers) (sym c.self.view_is) c.requires.sender in
    let worker : w < n = subst (λ (t : WorkerViews). w < t.workers) (sym c.self.view_is) c.requires.worker in
    let got : slice_get qs s ≡ Some q = got_at qs s q (let a = h.senders in omega arith) c.index_mut-queue.ensures.value in
    let q' = c.take.new.self in
    let b = c.take.result in
    let flow : ∥ IsDataflow g ∥₁ = rw c.deref.ensures at c.law_of_dataflow.ensures in
    let e = c.take.ensures in
    let o = outcome g (content_of i.tracker) n qs i.spare s w q q' b h got worker flow e.took e.none e.others e.changes e.taken e.free in
    subst (λ (t : WorkerViews). IsApplied w s (waiting_of t.queues) (waiting_of (slice_set qs s q')) b) c.self.view_is o.applied

pub returns-clause-others : goal.returns-clause-others
returns-clause-others c = λ u t d.
    let i = c.self.inside in
    let g = shown_graph i.paths.value in
    let n = i.workers in
    let qs = i.queues.items in
    let s = c.args.sender in
    let w = c.args.worker in
    let q = c.index_mut-queue.result.now in
    let h : AreViews g (content_of i.tracker) n qs i.spare = c.self.invariant.2 in
    let sender : s ≤ n = subst (λ (t : WorkerViews). s ≤ t.workers) (sym c.self.view_is) c.requires.sender in
    let worker : w < n = subst (λ (t : WorkerViews). w < t.workers) (sym c.self.view_is) c.requires.worker in
    let got : slice_get qs s ≡ Some q = got_at qs s q (let a = h.senders in omega arith) c.index_mut-queue.ensures.value in
    let q' = c.take.new.self in
    let b = c.take.result in
    let flow : ∥ IsDataflow g ∥₁ = rw c.deref.ensures at c.law_of_dataflow.ensures in
    let e = c.take.ensures in
    let o = outcome g (content_of i.tracker) n qs i.spare s w q q' b h got worker flow e.took e.none e.others e.changes e.taken e.free in
    subst (λ (x : WorkerViews). waiting_of (slice_set qs s q') u t ≡ waiting_of x.queues u t) c.self.view_is (o.others u t d)

pub returns-clause-stays : goal.returns-clause-stays
returns-clause-stays c = λ p none.
    let i = c.self.inside in
    let g = shown_graph i.paths.value in
    let n = i.workers in
    let qs = i.queues.items in
    let s = c.args.sender in
    let w = c.args.worker in
    let q = c.index_mut-queue.result.now in
    let h : AreViews g (content_of i.tracker) n qs i.spare = c.self.invariant.2 in
    let sender : s ≤ n = subst (λ (t : WorkerViews). s ≤ t.workers) (sym c.self.view_is) c.requires.sender in
    let worker : w < n = subst (λ (t : WorkerViews). w < t.workers) (sym c.self.view_is) c.requires.worker in
    let got : slice_get qs s ≡ Some q = got_at qs s q (let a = h.senders in omega arith) c.index_mut-queue.ensures.value in
    let q' = c.take.new.self in
    let b = c.take.result in
    let flow : ∥ IsDataflow g ∥₁ = rw c.deref.ensures at c.law_of_dataflow.ensures in
    let e = c.take.ensures in
    let o = outcome g (content_of i.tracker) n qs i.spare s w q q' b h got worker flow e.took e.none e.others e.changes e.taken e.free in
    let stays : NoneOf (CouldResultIn (shown_graph i.tracker.graph)) (IsSeenBy (content_of i.tracker) (waiting_of qs) n w) p → NoneOf (CouldResultIn (shown_graph i.tracker.graph)) (IsSeenBy (content_of i.tracker) (waiting_of (slice_set qs s q')) n w) p = subst (λ (x : Graph). NoneOf (CouldResultIn x) (IsSeenBy (content_of i.tracker) (waiting_of qs) n w) p → NoneOf (CouldResultIn x) (IsSeenBy (content_of i.tracker) (waiting_of (slice_set qs s q')) n w) p) (sym c.self.invariant.0) (o.stays p) in
    subst (λ (t : WorkerViews). NoneOf (CouldResultIn (shown_graph t.tracker.graph)) (IsSeenBy (content_of t.tracker) (waiting_of t.queues) t.workers w) p
    → NoneOf (CouldResultIn (shown_graph t.tracker.graph)) (IsSeenBy (content_of i.tracker) (waiting_of (slice_set qs s q')) t.workers w) p) c.self.view_is stays none

pub returns-clause-nothing : goal.returns-clause-nothing
returns-clause-nothing c = λ e0 u t.
    let i = c.self.inside in
    let g = shown_graph i.paths.value in
    let n = i.workers in
    let qs = i.queues.items in
    let s = c.args.sender in
    let w = c.args.worker in
    let q = c.index_mut-queue.result.now in
    let h : AreViews g (content_of i.tracker) n qs i.spare = c.self.invariant.2 in
    let sender : s ≤ n = subst (λ (t : WorkerViews). s ≤ t.workers) (sym c.self.view_is) c.requires.sender in
    let worker : w < n = subst (λ (t : WorkerViews). w < t.workers) (sym c.self.view_is) c.requires.worker in
    let got : slice_get qs s ≡ Some q = got_at qs s q (let a = h.senders in omega arith) c.index_mut-queue.ensures.value in
    let q' = c.take.new.self in
    let b = c.take.result in
    let flow : ∥ IsDataflow g ∥₁ = rw c.deref.ensures at c.law_of_dataflow.ensures in
    let e = c.take.ensures in
    let eq : slice_set qs s q' ≡ qs = ap (slice_set qs s) (e.none e0).1 ∙ set_same qs s q got in
    subst (λ (x : WorkerViews). lists_of (untaken_at (slice_set qs s q') t u) ≡ lists_of (untaken_at x.queues t u)) c.self.view_is (ap (λ (l : List Queued). lists_of (untaken_at l t u)) eq)
