use Rattle.std.proofs.Common.{◌≡◌, ◌≤◌, ◌∙◌, ℕ, ap, subst, sym, arith}
use Rattle.semantics.specs.Could.{Pointstamp}
use Rattle.graph.specs.Shown.{shown_graph}
use Rattle.views.specs.Waiting.{Waiting}
use Rattle.views.specs.QueuedLists.{lists_of}
use Rattle.views.specs.WorkerViews.{WorkerViews, AreViews, AreSameQueues, content_of, untaken_at, waiting_of}
use Rattle.views.proofs.ReservedRoom.{left_same, views_kept, waiting_same, kept_free}
use Rattle.views.proofs.local_views.LocalViewsViews.reserve.Goals as goal

pub invariant_of-self : goal.invariant_of-self
invariant_of-self c =
    let i = c.self.inside in
    let g = shown_graph i.paths.value in
    let n = i.workers in
    let qs = i.queues.items in
    let qs' = c.reserve_queues.new.queues.items in
    let h : AreViews g (content_of i.tracker) n qs i.spare = c.self.invariant.2 in
    let sq : AreSameQueues qs qs' = c.reserve_queues.ensures.same in
    (c.self.invariant.0, c.self.invariant.1, views_kept g (content_of i.tracker) n qs qs' i.spare i.spare h sq (kept_free g (content_of i.tracker) n qs qs' i.spare h sq))

pub returns-in_err-reserve_queues-clause-waiting : goal.returns-in_err-reserve_queues-clause-waiting
returns-in_err-reserve_queues-clause-waiting c = λ w s.
    let i = c.self.inside in
    let g = shown_graph i.paths.value in
    let n = i.workers in
    let qs = i.queues.items in
    let qs' = c.reserve_queues.new.queues.items in
    let h : AreViews g (content_of i.tracker) n qs i.spare = c.self.invariant.2 in
    let sq : AreSameQueues qs qs' = c.reserve_queues.ensures.same in
    subst (λ (t : WorkerViews). waiting_of qs' w s ≡ waiting_of t.queues w s) c.self.view_is (ap (λ (x : Waiting). x w s) (waiting_same qs qs' sq))

pub invariant_of-self-in_err-reserve : goal.invariant_of-self-in_err-reserve
invariant_of-self-in_err-reserve c =
    let i = c.self.inside in
    let g = shown_graph i.paths.value in
    let n = i.workers in
    let qs = i.queues.items in
    let qs' = c.reserve_queues.new.queues.items in
    let h : AreViews g (content_of i.tracker) n qs i.spare = c.self.invariant.2 in
    let sq : AreSameQueues qs qs' = c.reserve_queues.ensures.same in
    let t' = c.reserve.new.self in
    let same : content_of t' ≡ content_of i.tracker = c.reserve.ensures.content in
    let graph : shown_graph t'.graph ≡ g = c.reserve.ensures.graph ∙ c.self.invariant.0 in
    let kept = views_kept g (content_of i.tracker) n qs qs' i.spare i.spare h sq (kept_free g (content_of i.tracker) n qs qs' i.spare h sq) in
    let room : i.spare ≤ t'.spare = (let k = c.reserve.ensures.kept in let z = c.self.invariant.1 in omega arith) in
    (graph, room, subst (λ (f : Pointstamp → ℕ). AreViews g f n qs' i.spare) (sym same) kept)

pub returns-in_err-reserve-clause-content : goal.returns-in_err-reserve-clause-content
returns-in_err-reserve-clause-content c = λ p.
    let i = c.self.inside in
    let g = shown_graph i.paths.value in
    let n = i.workers in
    let qs = i.queues.items in
    let qs' = c.reserve_queues.new.queues.items in
    let h : AreViews g (content_of i.tracker) n qs i.spare = c.self.invariant.2 in
    let sq : AreSameQueues qs qs' = c.reserve_queues.ensures.same in
    let t' = c.reserve.new.self in
    let same : content_of t' ≡ content_of i.tracker = c.reserve.ensures.content in
    let graph : shown_graph t'.graph ≡ g = c.reserve.ensures.graph ∙ c.self.invariant.0 in
    subst (λ (t : WorkerViews). content_of t' p ≡ content_of t.tracker p) c.self.view_is (ap (λ (f : Pointstamp → ℕ). f p) same)

pub returns-in_err-reserve-clause-waiting : goal.returns-in_err-reserve-clause-waiting
returns-in_err-reserve-clause-waiting c = λ w s.
    let i = c.self.inside in
    let g = shown_graph i.paths.value in
    let n = i.workers in
    let qs = i.queues.items in
    let qs' = c.reserve_queues.new.queues.items in
    let h : AreViews g (content_of i.tracker) n qs i.spare = c.self.invariant.2 in
    let sq : AreSameQueues qs qs' = c.reserve_queues.ensures.same in
    subst (λ (t : WorkerViews). waiting_of qs' w s ≡ waiting_of t.queues w s) c.self.view_is (ap (λ (x : Waiting). x w s) (waiting_same qs qs' sq))

pub invariant_of-self-then-count-self : goal.invariant_of-self-then-count-self
invariant_of-self-then-count-self c =
    let i = c.self.inside in
    let g = shown_graph i.paths.value in
    let n = i.workers in
    let qs = i.queues.items in
    let qs' = c.reserve_queues.new.queues.items in
    let h : AreViews g (content_of i.tracker) n qs i.spare = c.self.invariant.2 in
    let sq : AreSameQueues qs qs' = c.reserve_queues.ensures.same in
    let t' = c.reserve.new.self in
    let same : content_of t' ≡ content_of i.tracker = c.reserve.ensures.content in
    let graph : shown_graph t'.graph ≡ g = c.reserve.ensures.graph ∙ c.self.invariant.0 in
    let m = c.max-count.result in
    let kept = views_kept g (content_of i.tracker) n qs qs' i.spare m h sq (λ s q got. (let a = c.in_ok-reserve_queues.ensures.free s q got in omega arith)) in
    (graph, c.in_ok-reserve.ensures.room, subst (λ (f : Pointstamp → ℕ). AreViews g f n qs' m) (sym same) kept)

pub returns-in_ok-reserve-clause-content : goal.returns-in_ok-reserve-clause-content
returns-in_ok-reserve-clause-content c = λ p.
    let i = c.self.inside in
    let g = shown_graph i.paths.value in
    let n = i.workers in
    let qs = i.queues.items in
    let qs' = c.reserve_queues.new.queues.items in
    let h : AreViews g (content_of i.tracker) n qs i.spare = c.self.invariant.2 in
    let sq : AreSameQueues qs qs' = c.reserve_queues.ensures.same in
    let t' = c.reserve.new.self in
    let same : content_of t' ≡ content_of i.tracker = c.reserve.ensures.content in
    let graph : shown_graph t'.graph ≡ g = c.reserve.ensures.graph ∙ c.self.invariant.0 in
    subst (λ (t : WorkerViews). content_of t' p ≡ content_of t.tracker p) c.self.view_is (ap (λ (f : Pointstamp → ℕ). f p) same)

pub returns-in_ok-reserve-clause-waiting : goal.returns-in_ok-reserve-clause-waiting
returns-in_ok-reserve-clause-waiting c = λ w s.
    let i = c.self.inside in
    let g = shown_graph i.paths.value in
    let n = i.workers in
    let qs = i.queues.items in
    let qs' = c.reserve_queues.new.queues.items in
    let h : AreViews g (content_of i.tracker) n qs i.spare = c.self.invariant.2 in
    let sq : AreSameQueues qs qs' = c.reserve_queues.ensures.same in
    subst (λ (t : WorkerViews). waiting_of qs' w s ≡ waiting_of t.queues w s) c.self.view_is (ap (λ (x : Waiting). x w s) (waiting_same qs qs' sq))

pub returns-in_err-reserve_queues-clause-behind : goal.returns-in_err-reserve_queues-clause-behind
returns-in_err-reserve_queues-clause-behind c = λ w s.
    let i = c.self.inside in
    let g = shown_graph i.paths.value in
    let n = i.workers in
    let qs = i.queues.items in
    let qs' = c.reserve_queues.new.queues.items in
    let h : AreViews g (content_of i.tracker) n qs i.spare = c.self.invariant.2 in
    let sq : AreSameQueues qs qs' = c.reserve_queues.ensures.same in
    subst (λ (t : WorkerViews). lists_of (untaken_at qs' s w) ≡ lists_of (untaken_at t.queues s w)) c.self.view_is (ap lists_of (left_same qs qs' sq s w))

pub returns-in_err-reserve-clause-behind : goal.returns-in_err-reserve-clause-behind
returns-in_err-reserve-clause-behind c = λ w s.
    let i = c.self.inside in
    let g = shown_graph i.paths.value in
    let n = i.workers in
    let qs = i.queues.items in
    let qs' = c.reserve_queues.new.queues.items in
    let h : AreViews g (content_of i.tracker) n qs i.spare = c.self.invariant.2 in
    let sq : AreSameQueues qs qs' = c.reserve_queues.ensures.same in
    subst (λ (t : WorkerViews). lists_of (untaken_at qs' s w) ≡ lists_of (untaken_at t.queues s w)) c.self.view_is (ap lists_of (left_same qs qs' sq s w))

pub returns-in_ok-reserve-clause-behind : goal.returns-in_ok-reserve-clause-behind
returns-in_ok-reserve-clause-behind c = λ w s.
    let i = c.self.inside in
    let g = shown_graph i.paths.value in
    let n = i.workers in
    let qs = i.queues.items in
    let qs' = c.reserve_queues.new.queues.items in
    let h : AreViews g (content_of i.tracker) n qs i.spare = c.self.invariant.2 in
    let sq : AreSameQueues qs qs' = c.reserve_queues.ensures.same in
    subst (λ (t : WorkerViews). lists_of (untaken_at qs' s w) ≡ lists_of (untaken_at t.queues s w)) c.self.view_is (ap lists_of (left_same qs qs' sq s w))
