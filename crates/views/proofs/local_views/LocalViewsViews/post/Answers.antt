use Rattle.std.proofs.Common.{◌≡◌, ◌≤◌, ℕ, true, ◌<◌, ◌+◌, ◌++◌, ◌∷◌, [], length, subst, sym, arith, Some, slice_get, slice_set, cond, ◌==◌, ◌∙◌}
use Rattle.semantics.specs.Graph.{Graph, input_count}
use Rattle.semantics.specs.Could.{Pointstamp, CouldResultIn, NoneOf}
use Rattle.semantics.specs.Dataflow.{IsDataflow}
use Rattle.machine.specs.Posting.{MayPost}
use Rattle.graph.specs.Shown.{shown_graph}
use Rattle.progress.specs.Content.{times_in}
use Rattle.progress.proofs.Contents.{got_at}
use Rattle.views.specs.Waiting.{IsSeenBy, batch}
use Rattle.views.specs.Queued.{AllKnown}
use Rattle.views.specs.WorkerViews.{WorkerViews, AreViews, content_of, waiting_of}
use Rattle.views.proofs.Histories.{none_there}
use Rattle.views.proofs.PostedViews.{posted_stays}
use Rattle.views.proofs.PostedBatches.{views_posted, waits_after, added_known, removed_known}
use Rattle.views.proofs.local_views.LocalViewsViews.post.Goals as goal

pub post-requires : goal.post-requires
post-requires c =
    let i = c.self.inside in
    let g = shown_graph i.paths.value in
    let n = i.workers in
    let qs = i.queues.items in
    let s = c.args.sender in
    let ps = c.args.added.now in
    let rs = c.args.removed.now in
    let q = c.index_mut-queue.result.now in
    let h : AreViews g (content_of i.tracker) n qs i.spare = c.self.invariant.2 in
    let sender : s ≤ n = subst (λ (t : WorkerViews). s ≤ t.workers) (sym c.self.view_is) c.requires.sender in
    let room : length ps + length rs ≤ i.spare = subst (λ (t : WorkerViews). length ps + length rs ≤ t.spare) (sym c.self.view_is) c.requires.room in
    let may : MayPost (CouldResultIn (shown_graph i.tracker.graph)) (input_count (shown_graph i.tracker.graph)) n (content_of i.tracker) (batch s ps rs) = subst (λ (t : WorkerViews). MayPost (CouldResultIn (shown_graph t.tracker.graph)) (input_count (shown_graph t.tracker.graph)) t.workers (content_of t.tracker) (batch s ps rs)) (sym c.self.view_is) c.requires.may in
    let may_g : MayPost (CouldResultIn g) (input_count g) n (content_of i.tracker) (batch s ps rs) = subst (λ (x : Graph). MayPost (CouldResultIn x) (input_count x) n (content_of i.tracker) (batch s ps rs)) c.self.invariant.0 may in
    let got : slice_get qs s ≡ Some q = got_at qs s q (let a = h.senders in omega arith) c.index_mut-queue.ensures.value in
    record { room = let f = (h.sender s q got).free in let o = c.requires.some in omega arith }

pub add_all-requires-clause-known : goal.add_all-requires-clause-known
add_all-requires-clause-known c =
    let i = c.self.inside in
    let g = shown_graph i.paths.value in
    let n = i.workers in
    let qs = i.queues.items in
    let s = c.args.sender in
    let ps = c.args.added.now in
    let rs = c.args.removed.now in
    let q = c.index_mut-queue.result.now in
    let h : AreViews g (content_of i.tracker) n qs i.spare = c.self.invariant.2 in
    let sender : s ≤ n = subst (λ (t : WorkerViews). s ≤ t.workers) (sym c.self.view_is) c.requires.sender in
    let room : length ps + length rs ≤ i.spare = subst (λ (t : WorkerViews). length ps + length rs ≤ t.spare) (sym c.self.view_is) c.requires.room in
    let may : MayPost (CouldResultIn (shown_graph i.tracker.graph)) (input_count (shown_graph i.tracker.graph)) n (content_of i.tracker) (batch s ps rs) = subst (λ (t : WorkerViews). MayPost (CouldResultIn (shown_graph t.tracker.graph)) (input_count (shown_graph t.tracker.graph)) t.workers (content_of t.tracker) (batch s ps rs)) (sym c.self.view_is) c.requires.may in
    let may_g : MayPost (CouldResultIn g) (input_count g) n (content_of i.tracker) (batch s ps rs) = subst (λ (x : Graph). MayPost (CouldResultIn x) (input_count x) n (content_of i.tracker) (batch s ps rs)) c.self.invariant.0 may in
    let got : slice_get qs s ≡ Some q = got_at qs s q (let a = h.senders in omega arith) c.index_mut-queue.ensures.value in
    added_known (shown_graph i.tracker.graph) (input_count (shown_graph i.tracker.graph)) n (content_of i.tracker) s ps rs may

pub add_all-requires-clause-room : goal.add_all-requires-clause-room
add_all-requires-clause-room c =
    let i = c.self.inside in
    let g = shown_graph i.paths.value in
    let n = i.workers in
    let qs = i.queues.items in
    let s = c.args.sender in
    let ps = c.args.added.now in
    let rs = c.args.removed.now in
    let q = c.index_mut-queue.result.now in
    let h : AreViews g (content_of i.tracker) n qs i.spare = c.self.invariant.2 in
    let sender : s ≤ n = subst (λ (t : WorkerViews). s ≤ t.workers) (sym c.self.view_is) c.requires.sender in
    let room : length ps + length rs ≤ i.spare = subst (λ (t : WorkerViews). length ps + length rs ≤ t.spare) (sym c.self.view_is) c.requires.room in
    let may : MayPost (CouldResultIn (shown_graph i.tracker.graph)) (input_count (shown_graph i.tracker.graph)) n (content_of i.tracker) (batch s ps rs) = subst (λ (t : WorkerViews). MayPost (CouldResultIn (shown_graph t.tracker.graph)) (input_count (shown_graph t.tracker.graph)) t.workers (content_of t.tracker) (batch s ps rs)) (sym c.self.view_is) c.requires.may in
    let may_g : MayPost (CouldResultIn g) (input_count g) n (content_of i.tracker) (batch s ps rs) = subst (λ (x : Graph). MayPost (CouldResultIn x) (input_count x) n (content_of i.tracker) (batch s ps rs)) c.self.invariant.0 may in
    let got : slice_get qs s ≡ Some q = got_at qs s q (let a = h.senders in omega arith) c.index_mut-queue.ensures.value in
    (let r = c.self.invariant.1 in omega arith)

pub remove_all-requires : goal.remove_all-requires
remove_all-requires c =
    let i = c.self.inside in
    let g = shown_graph i.paths.value in
    let n = i.workers in
    let qs = i.queues.items in
    let s = c.args.sender in
    let ps = c.args.added.now in
    let rs = c.args.removed.now in
    let q = c.index_mut-queue.result.now in
    let h : AreViews g (content_of i.tracker) n qs i.spare = c.self.invariant.2 in
    let sender : s ≤ n = subst (λ (t : WorkerViews). s ≤ t.workers) (sym c.self.view_is) c.requires.sender in
    let room : length ps + length rs ≤ i.spare = subst (λ (t : WorkerViews). length ps + length rs ≤ t.spare) (sym c.self.view_is) c.requires.room in
    let may : MayPost (CouldResultIn (shown_graph i.tracker.graph)) (input_count (shown_graph i.tracker.graph)) n (content_of i.tracker) (batch s ps rs) = subst (λ (t : WorkerViews). MayPost (CouldResultIn (shown_graph t.tracker.graph)) (input_count (shown_graph t.tracker.graph)) t.workers (content_of t.tracker) (batch s ps rs)) (sym c.self.view_is) c.requires.may in
    let may_g : MayPost (CouldResultIn g) (input_count g) n (content_of i.tracker) (batch s ps rs) = subst (λ (x : Graph). MayPost (CouldResultIn x) (input_count x) n (content_of i.tracker) (batch s ps rs)) c.self.invariant.0 may in
    let got : slice_get qs s ≡ Some q = got_at qs s q (let a = h.senders in omega arith) c.index_mut-queue.ensures.value in
    record { there = λ p. (let m = may.there p in let a = c.add_all.ensures.content p in omega arith) }

pub invariant_of-self : goal.invariant_of-self
invariant_of-self c =
    let i = c.self.inside in
    let g = shown_graph i.paths.value in
    let n = i.workers in
    let qs = i.queues.items in
    let s = c.args.sender in
    let ps = c.args.added.now in
    let rs = c.args.removed.now in
    let q = c.index_mut-queue.result.now in
    let h : AreViews g (content_of i.tracker) n qs i.spare = c.self.invariant.2 in
    let sender : s ≤ n = subst (λ (t : WorkerViews). s ≤ t.workers) (sym c.self.view_is) c.requires.sender in
    let room : length ps + length rs ≤ i.spare = subst (λ (t : WorkerViews). length ps + length rs ≤ t.spare) (sym c.self.view_is) c.requires.room in
    let may : MayPost (CouldResultIn (shown_graph i.tracker.graph)) (input_count (shown_graph i.tracker.graph)) n (content_of i.tracker) (batch s ps rs) = subst (λ (t : WorkerViews). MayPost (CouldResultIn (shown_graph t.tracker.graph)) (input_count (shown_graph t.tracker.graph)) t.workers (content_of t.tracker) (batch s ps rs)) (sym c.self.view_is) c.requires.may in
    let may_g : MayPost (CouldResultIn g) (input_count g) n (content_of i.tracker) (batch s ps rs) = subst (λ (x : Graph). MayPost (CouldResultIn x) (input_count x) n (content_of i.tracker) (batch s ps rs)) c.self.invariant.0 may in
    let got : slice_get qs s ≡ Some q = got_at qs s q (let a = h.senders in omega arith) c.index_mut-queue.ensures.value in
    let q' = c.post.new.self in
    let known : AllKnown g q'.changes = c.post.ensures.known g (h.sender s q got).known (added_known g (input_count g) n (content_of i.tracker) s ps rs may_g) (removed_known g (input_count g) n (content_of i.tracker) s ps rs may_g h.known) in
    let changed : (p : Pointstamp) → content_of c.remove_all.new.tracker p + times_in rs p ≡ content_of i.tracker p + times_in ps p = λ p. (let a = c.add_all.ensures.content p in let r = c.remove_all.ensures.content p in omega arith) in
    let graph : shown_graph c.remove_all.new.tracker.graph ≡ g = c.remove_all.ensures.graph ∙ c.add_all.ensures.graph ∙ c.self.invariant.0 in
    let spare : i.spare ≤ c.remove_all.new.tracker.spare + (length ps + length rs) = (let r = c.self.invariant.1 in let a = c.add_all.ensures.room in let b = c.remove_all.ensures.room in omega arith) in
    let views = views_posted g (content_of i.tracker) (content_of c.remove_all.new.tracker) n qs i.spare s q q' ps rs h got c.post.ensures.batch c.post.ensures.taken known c.post.ensures.free c.requires.some room changed may_g in
    (graph, omega arith, views)

pub returns-clause-content : goal.returns-clause-content
returns-clause-content c = λ p.
    let i = c.self.inside in
    let g = shown_graph i.paths.value in
    let n = i.workers in
    let qs = i.queues.items in
    let s = c.args.sender in
    let ps = c.args.added.now in
    let rs = c.args.removed.now in
    let q = c.index_mut-queue.result.now in
    let h : AreViews g (content_of i.tracker) n qs i.spare = c.self.invariant.2 in
    let sender : s ≤ n = subst (λ (t : WorkerViews). s ≤ t.workers) (sym c.self.view_is) c.requires.sender in
    let room : length ps + length rs ≤ i.spare = subst (λ (t : WorkerViews). length ps + length rs ≤ t.spare) (sym c.self.view_is) c.requires.room in
    let may : MayPost (CouldResultIn (shown_graph i.tracker.graph)) (input_count (shown_graph i.tracker.graph)) n (content_of i.tracker) (batch s ps rs) = subst (λ (t : WorkerViews). MayPost (CouldResultIn (shown_graph t.tracker.graph)) (input_count (shown_graph t.tracker.graph)) t.workers (content_of t.tracker) (batch s ps rs)) (sym c.self.view_is) c.requires.may in
    let may_g : MayPost (CouldResultIn g) (input_count g) n (content_of i.tracker) (batch s ps rs) = subst (λ (x : Graph). MayPost (CouldResultIn x) (input_count x) n (content_of i.tracker) (batch s ps rs)) c.self.invariant.0 may in
    let got : slice_get qs s ≡ Some q = got_at qs s q (let a = h.senders in omega arith) c.index_mut-queue.ensures.value in
    let changed : (p : Pointstamp) → content_of c.remove_all.new.tracker p + times_in rs p ≡ content_of i.tracker p + times_in ps p = λ p. (let a = c.add_all.ensures.content p in let r = c.remove_all.ensures.content p in omega arith) in
    subst (λ (t : WorkerViews). content_of c.remove_all.new.tracker p + times_in rs p ≡ content_of t.tracker p + times_in ps p) c.self.view_is (changed p)

pub returns-clause-waiting : goal.returns-clause-waiting
returns-clause-waiting c = λ w t l.
    let i = c.self.inside in
    let g = shown_graph i.paths.value in
    let n = i.workers in
    let qs = i.queues.items in
    let s = c.args.sender in
    let ps = c.args.added.now in
    let rs = c.args.removed.now in
    let q = c.index_mut-queue.result.now in
    let h : AreViews g (content_of i.tracker) n qs i.spare = c.self.invariant.2 in
    let sender : s ≤ n = subst (λ (t : WorkerViews). s ≤ t.workers) (sym c.self.view_is) c.requires.sender in
    let room : length ps + length rs ≤ i.spare = subst (λ (t : WorkerViews). length ps + length rs ≤ t.spare) (sym c.self.view_is) c.requires.room in
    let may : MayPost (CouldResultIn (shown_graph i.tracker.graph)) (input_count (shown_graph i.tracker.graph)) n (content_of i.tracker) (batch s ps rs) = subst (λ (t : WorkerViews). MayPost (CouldResultIn (shown_graph t.tracker.graph)) (input_count (shown_graph t.tracker.graph)) t.workers (content_of t.tracker) (batch s ps rs)) (sym c.self.view_is) c.requires.may in
    let may_g : MayPost (CouldResultIn g) (input_count g) n (content_of i.tracker) (batch s ps rs) = subst (λ (x : Graph). MayPost (CouldResultIn x) (input_count x) n (content_of i.tracker) (batch s ps rs)) c.self.invariant.0 may in
    let got : slice_get qs s ≡ Some q = got_at qs s q (let a = h.senders in omega arith) c.index_mut-queue.ensures.value in
    let q' = c.post.new.self in
    let known : AllKnown g q'.changes = c.post.ensures.known g (h.sender s q got).known (added_known g (input_count g) n (content_of i.tracker) s ps rs may_g) (removed_known g (input_count g) n (content_of i.tracker) s ps rs may_g h.known) in
    let changed : (p : Pointstamp) → content_of c.remove_all.new.tracker p + times_in rs p ≡ content_of i.tracker p + times_in ps p = λ p. (let a = c.add_all.ensures.content p in let r = c.remove_all.ensures.content p in omega arith) in
    subst (λ (x : WorkerViews). waiting_of (slice_set qs s q') w t ≡ cond (t == s) (waiting_of x.queues w t ++ (batch s ps rs ∷ [])) (waiting_of x.queues w t)) c.self.view_is
    (waits_after g (content_of i.tracker) (content_of c.remove_all.new.tracker) n qs i.spare s q q' ps rs h got c.post.ensures.batch c.post.ensures.taken known c.post.ensures.free c.requires.some room changed may_g w t (subst (λ (x : WorkerViews). w < x.workers) (sym c.self.view_is) l))

pub returns-clause-stays : goal.returns-clause-stays
returns-clause-stays c =
    let i = c.self.inside in
    let g = shown_graph i.paths.value in
    let n = i.workers in
    let qs = i.queues.items in
    let s = c.args.sender in
    let ps = c.args.added.now in
    let rs = c.args.removed.now in
    let q = c.index_mut-queue.result.now in
    let h : AreViews g (content_of i.tracker) n qs i.spare = c.self.invariant.2 in
    let sender : s ≤ n = subst (λ (t : WorkerViews). s ≤ t.workers) (sym c.self.view_is) c.requires.sender in
    let room : length ps + length rs ≤ i.spare = subst (λ (t : WorkerViews). length ps + length rs ≤ t.spare) (sym c.self.view_is) c.requires.room in
    let may : MayPost (CouldResultIn (shown_graph i.tracker.graph)) (input_count (shown_graph i.tracker.graph)) n (content_of i.tracker) (batch s ps rs) = subst (λ (t : WorkerViews). MayPost (CouldResultIn (shown_graph t.tracker.graph)) (input_count (shown_graph t.tracker.graph)) t.workers (content_of t.tracker) (batch s ps rs)) (sym c.self.view_is) c.requires.may in
    let may_g : MayPost (CouldResultIn g) (input_count g) n (content_of i.tracker) (batch s ps rs) = subst (λ (x : Graph). MayPost (CouldResultIn x) (input_count x) n (content_of i.tracker) (batch s ps rs)) c.self.invariant.0 may in
    let got : slice_get qs s ≡ Some q = got_at qs s q (let a = h.senders in omega arith) c.index_mut-queue.ensures.value in
    let q' = c.post.new.self in
    let known : AllKnown g q'.changes = c.post.ensures.known g (h.sender s q got).known (added_known g (input_count g) n (content_of i.tracker) s ps rs may_g) (removed_known g (input_count g) n (content_of i.tracker) s ps rs may_g h.known) in
    let changed : (p : Pointstamp) → content_of c.remove_all.new.tracker p + times_in rs p ≡ content_of i.tracker p + times_in ps p = λ p. (let a = c.add_all.ensures.content p in let r = c.remove_all.ensures.content p in omega arith) in
    let stays : IsDataflow g → (w : ℕ) → w < n → (p : Pointstamp) → NoneOf (CouldResultIn g) (IsSeenBy (content_of i.tracker) (waiting_of qs) n w) p → NoneOf (CouldResultIn g) (IsSeenBy (content_of c.remove_all.new.tracker) (waiting_of (slice_set qs s q')) n w) p =
    (λ flows w l p none. posted_stays g flows n w (content_of i.tracker) (content_of c.remove_all.new.tracker) (waiting_of qs) (waiting_of (slice_set qs s q')) (batch s ps rs) (omega (arith, sender)) may_g changed true
    (λ t. waits_after g (content_of i.tracker) (content_of c.remove_all.new.tracker) n qs i.spare s q q' ps rs h got c.post.ensures.batch c.post.ensures.taken known c.post.ensures.free c.requires.some room changed may_g w t l)
    p (none_there g n h.some ∣ flows ∣₁ (content_of i.tracker) (waiting_of qs) w (h.history w l) p none) none) in
    let A : Graph → Type 0 = λ x. IsDataflow x → (w : ℕ) → w < n → (p : Pointstamp) → NoneOf (CouldResultIn x) (IsSeenBy (content_of i.tracker) (waiting_of qs) n w) p → NoneOf (CouldResultIn x) (IsSeenBy (content_of c.remove_all.new.tracker) (waiting_of (slice_set qs s q')) n w) p in
    let B : WorkerViews → Type 0 = λ t. IsDataflow (shown_graph t.tracker.graph) → (w : ℕ) → w < t.workers → (p : Pointstamp) → NoneOf (CouldResultIn (shown_graph t.tracker.graph)) (IsSeenBy (content_of t.tracker) (waiting_of t.queues) t.workers w) p
    → NoneOf (CouldResultIn (shown_graph t.tracker.graph)) (IsSeenBy (content_of c.remove_all.new.tracker) (waiting_of (slice_set qs s q')) t.workers w) p in
    subst B c.self.view_is (subst A (sym c.self.invariant.0) stays)
