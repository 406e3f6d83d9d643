use Rattle.std.proofs.Common.{◌≡◌, ◌∙◌, ◌∷◌, ◌+◌, ◌<◌, List, Some, drop, subst, ap}
use Rattle.graph.specs.Shown.{shown_graph}
use Rattle.progress.proofs.Contents.{got_at, here_drop}
use Rattle.views.specs.declared.queue.Change.{Change}
use Rattle.views.specs.Queued.{removes_in}
use Rattle.views.specs.Stale.{stale_count}
use Rattle.views.proofs.TakenBatches.{removed_at}
use Rattle.views.proofs.StaleCounts.{removal_passed}
use Rattle.views.proofs.stale.is_blocked_by_one_of.Goals as goal
use Rattle.views.proofs.stale.is_blocked_by_one_of.Goals.{in-Add, in-Remove+else-is_blocked_by, in-End}

pub is_blocked_by-requires-clause-from : goal.is_blocked_by-requires-clause-from
is_blocked_by-requires-clause-from c =
    let xs = c.args.waiting.now in
    let x = c.index-waiting-i.result in
    let got = got_at xs c.loop-i.i x c.loop-i-test.true c.index-waiting-i.is in
    removed_at (shown_graph c.args.paths.now) xs c.loop-i.i c.in-Remove.q c.requires.known (got ∙ ap (λ (z : Change). Some z) c.in-Remove.is)

pub loop-i-preserved : goal.loop-i-preserved
loop-i-preserved c =
    let g = shown_graph c.args.paths.now in
    let content = stale_count c.args.queues.now c.args.worker in
    let p = c.args.p.now in
    let xs = c.args.waiting.now in
    let x = c.index-waiting-i.result in
    let xs' = drop (c.loop-i.i + 1) xs in
    let h : drop c.loop-i.i xs ≡ x ∷ xs' = here_drop xs c.loop-i.i x (got_at xs c.loop-i.i x c.loop-i-test.true c.index-waiting-i.is) in
    elim c.match-waiting-i.branch [
      | in-Add w ↦ λ rest. c.loop-i.invariant (λ q l. rest q (subst (λ (ys : List Change). 0 < removes_in ys q) (h ∙ ap (λ (z : Change). z ∷ xs') w.in-Add.is) l))
      | in-Remove+else-is_blocked_by w ↦ λ rest. c.loop-i.invariant (λ q l. removal_passed g content p c.args.other w.in-Remove.q xs' w.if-is_blocked_by.ensures rest q
          (subst (λ (ys : List Change). 0 < removes_in ys q) (h ∙ ap (λ (z : Change). z ∷ xs') w.in-Remove.is) l))
      | in-End w ↦ λ rest. c.loop-i.invariant (λ q l. rest q (subst (λ (ys : List Change). 0 < removes_in ys q) (h ∙ ap (λ (z : Change). z ∷ xs') w.in-End.is) l))
    ]
