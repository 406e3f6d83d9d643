use Rattle.std.proofs.Common.{◌<◌, ◌≤◌, Bool, false, length, subst, sym, arith}
use Rattle.std.specs.Prelude.{IsTrue, MatchBool, not, ◌↔◌}
use Rattle.semantics.specs.Graph.{Graph}
use Rattle.semantics.specs.Could.{CouldResultIn, IsTimeAt, NoneOf}
use Rattle.semantics.specs.Dataflow.{IsDataflow}
use Rattle.semantics.proofs.Cases.{is_true}
use Rattle.graph.specs.Shown.{shown_graph}
use Rattle.progress.specs.Content.{IsBlocked, IsClear}
use Rattle.views.specs.Waiting.{IsSeenBy}
use Rattle.views.specs.WorkerViews.{HasPlaces, WorkerViews, AreViews, content_of, waiting_of}
use Rattle.views.specs.Stale.{AreKnown, stale_count}
use Rattle.views.proofs.StaleCounts.{seen_none, none_refused}
use Rattle.views.proofs.local_views.LocalViewsViews.none_before.Goals as goal

pub is_blocked-requires : goal.is_blocked-requires
is_blocked-requires c =
    let i = c.self.inside in
    let g = shown_graph i.paths.value in
    let n = i.workers in
    let qs = i.queues.items in
    let w = c.args.worker in
    let p = c.args.p.now in
    let h : AreViews g (content_of i.tracker) n qs i.spare = c.self.invariant.2 in
    let l : w < n = subst (λ (t : WorkerViews). w < t.workers) (sym c.self.view_is) c.requires.worker in
    let known : IsTimeAt g p.location p.time = subst (λ (x : Graph). IsTimeAt x p.location p.time) c.self.invariant.0 (subst (λ (t : WorkerViews). IsTimeAt (shown_graph t.tracker.graph) p.location p.time) (sym c.self.view_is) c.requires.known) in
    let few : length qs ≤ 65 = (let a = h.senders in let b = h.few in omega arith) in
    let placed : HasPlaces qs w = λ s q got. (let k = (h.sender s q got).taken in omega arith) in
    let are_known : AreKnown g qs = λ s q got. (h.sender s q got).known in
    rw (c.deref-2.ensures, c.deref-3.ensures.value) (record { few = few; placed = placed; known = are_known; to = known })

pub returns-then-not-none_before-clause-seen : goal.returns-then-not-none_before-clause-seen
returns-then-not-none_before-clause-seen c =
    let i = c.self.inside in
    let g = shown_graph i.paths.value in
    let n = i.workers in
    let qs = i.queues.items in
    let w = c.args.worker in
    let p = c.args.p.now in
    let h : AreViews g (content_of i.tracker) n qs i.spare = c.self.invariant.2 in
    let l : w < n = subst (λ (t : WorkerViews). w < t.workers) (sym c.self.view_is) c.requires.worker in
    let flow : ∥ IsDataflow g ∥₁ = rw c.deref.ensures at c.law_of_dataflow.ensures in
    let b = c.none_before.result in
    let exact : IsTrue b ↔ NoneOf (CouldResultIn g) (λ q. 0 < content_of i.tracker q) p = subst (λ (x : Graph). IsTrue b ↔ NoneOf (CouldResultIn x) (λ q. 0 < content_of i.tracker q) p) c.self.invariant.0 c.none_before.ensures in
    let r : Bool = false in
    let G : Graph → Type 0 = λ x. IsTrue r ↔ NoneOf (CouldResultIn x) (IsSeenBy (content_of i.tracker) (waiting_of qs) n w) p in
    subst (λ (t : WorkerViews). IsTrue r ↔ NoneOf (CouldResultIn (shown_graph t.tracker.graph)) (IsSeenBy (content_of t.tracker) (waiting_of t.queues) t.workers w) p) c.self.view_is
    (subst G (sym c.self.invariant.0) (none_refused g n (content_of i.tracker) qs w h.senders h.some flow (h.history w l) p b c.if-not-none_before.true exact))

pub returns-clause-seen : goal.returns-clause-seen
returns-clause-seen c =
    let i = c.self.inside in
    let g = shown_graph i.paths.value in
    let n = i.workers in
    let qs = i.queues.items in
    let w = c.args.worker in
    let p = c.args.p.now in
    let h : AreViews g (content_of i.tracker) n qs i.spare = c.self.invariant.2 in
    let l : w < n = subst (λ (t : WorkerViews). w < t.workers) (sym c.self.view_is) c.requires.worker in
    let flow : ∥ IsDataflow g ∥₁ = rw c.deref.ensures at c.law_of_dataflow.ensures in
    let b = c.none_before.result in
    let exact : IsTrue b ↔ NoneOf (CouldResultIn g) (λ q. 0 < content_of i.tracker q) p = subst (λ (x : Graph). IsTrue b ↔ NoneOf (CouldResultIn x) (λ q. 0 < content_of i.tracker q) p) c.self.invariant.0 c.none_before.ensures in
    let k = c.is_blocked.result in
    let blocked : MatchBool k (IsBlocked g (stale_count qs w) p false) (IsClear g (stale_count qs w) p false) = rw (c.deref-2.ensures, c.deref-3.ensures.value) at c.is_blocked.ensures in
    let r : Bool = not k in
    let G : Graph → Type 0 = λ x. IsTrue r ↔ NoneOf (CouldResultIn x) (IsSeenBy (content_of i.tracker) (waiting_of qs) n w) p in
    subst (λ (t : WorkerViews). IsTrue r ↔ NoneOf (CouldResultIn (shown_graph t.tracker.graph)) (IsSeenBy (content_of t.tracker) (waiting_of t.queues) t.workers w) p) c.self.view_is
    (subst G (sym c.self.invariant.0) (seen_none g n (content_of i.tracker) qs w h.senders h.some flow (h.history w l) p b k c.if-not-none_before.false exact blocked))

pub returns-clause-there : goal.returns-clause-there
returns-clause-there c = λ _.
    subst (λ (t : WorkerViews). NoneOf (CouldResultIn (shown_graph t.tracker.graph)) (λ q. 0 < content_of t.tracker q) c.args.p.now) c.self.view_is
    (c.none_before.ensures.0 (is_true c.none_before.result c.if-not-none_before.false))
