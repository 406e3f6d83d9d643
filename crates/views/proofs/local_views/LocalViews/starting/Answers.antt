use Rattle.std.proofs.Common.{◌≡◌, ◌<◌, ◌∙◌, ℕ, ap, arith}
use Rattle.semantics.specs.Could.{Pointstamp, IsTimeAt}
use Rattle.graph.specs.Shown.{shown_graph}
use Rattle.progress.specs.Content.{times_in}
use Rattle.views.specs.WorkerViews.{content_of}
use Rattle.views.proofs.FirstViews.{views_first, none_waits}
use Rattle.views.proofs.local_views.LocalViews.starting.Goals as goal

pub invariant_of-result : goal.invariant_of-result
invariant_of-result c =
    let g = shown_graph c.args.paths.value in
    let qs = c.in_ok-queues.queues.items in
    let first : (q : Pointstamp) → content_of c.add_all.new.tracker q ≡ times_in c.args.first.now q = λ q.
    (let a = c.add_all.ensures.content q in let b = c.in_ok-tracker.ensures.none q in let k = ap (λ (f : Pointstamp → ℕ). f q) c.reserve.ensures.content in omega arith) in
    let known : (q : Pointstamp) → 0 < content_of c.add_all.new.tracker q → IsTimeAt g q.location q.time = λ q l. c.requires.known q (let f = first q in omega arith) in
    let e : c.in_ok-tracker.tracker.graph ≡ c.args.paths.value = c.in_ok-tracker.ensures.graph ∙ c.in_ok-try_clone.ensures in
    (c.add_all.ensures.graph ∙ c.reserve.ensures.graph ∙ ap shown_graph e, omega arith, views_first g (content_of c.add_all.new.tracker) qs c.args.workers c.requires.some c.requires.few known c.in_ok-queues.ensures.long c.in_ok-queues.ensures.each)

pub returns-clause-content : goal.returns-clause-content
returns-clause-content c = λ q.
    let a = c.add_all.ensures.content q in let b = c.in_ok-tracker.ensures.none q in let k = ap (λ (f : Pointstamp → ℕ). f q) c.reserve.ensures.content in
    omega arith

pub returns-clause-waiting : goal.returns-clause-waiting
returns-clause-waiting c =
    let g = shown_graph c.args.paths.value in
    let qs = c.in_ok-queues.queues.items in
    none_waits g (times_in c.args.first.now) qs c.args.workers c.requires.some c.requires.few c.requires.known c.in_ok-queues.ensures.long c.in_ok-queues.ensures.each
