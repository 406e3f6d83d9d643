use Rattle.std.proofs.Common.{◌≡◌, ◌∙◌, ◌∷◌, ◌+◌, drop, subst, ap, arith}
use Rattle.views.specs.declared.queue.Change.{Change}
use Rattle.progress.proofs.Contents.{got_at, here_drop}
use Rattle.std.proofs.lemmas.List.{length-drop}
use Rattle.views.proofs.TakenBatches.{IsTaking, begins, one_added, one_removed, ended}
use Rattle.views.proofs.batches.end_of_batch.Goals as goal
use Rattle.views.proofs.batches.end_of_batch.Goals.{in-Add, in-Remove}

pub loop-i-init : goal.loop-i-init
loop-i-init c =
    let xs = c.args.changes.now in
    begins (drop c.args.from xs) (let l = length-drop c.args.from xs in let s = c.requires.some in omega arith) c.requires.ends

pub returns-in-End-clause-taken : goal.returns-in-End-clause-taken
returns-in-End-clause-taken c =
    let xs = c.args.changes.now in
    let x = c.index-changes-i.result in
    let h : drop c.loop-i.i xs ≡ x ∷ drop (c.loop-i.i + 1) xs = here_drop xs c.loop-i.i x (got_at xs c.loop-i.i x (let l = c.loop-i-test.true in omega arith) c.index-changes-i.is) in
    ended (drop c.args.from xs) (drop (c.loop-i.i + 1) xs)
    (subst (λ l. IsTaking (drop c.args.from xs) l) (h ∙ ap (λ (z : Change). z ∷ drop (c.loop-i.i + 1) xs) c.in-End.is) c.loop-i.invariant)

pub loop-i-preserved : goal.loop-i-preserved
loop-i-preserved c =
    let xs = c.args.changes.now in
    let x = c.index-changes-i.result in
    let h : drop c.loop-i.i xs ≡ x ∷ drop (c.loop-i.i + 1) xs = here_drop xs c.loop-i.i x (got_at xs c.loop-i.i x (let l = c.loop-i-test.true in omega arith) c.index-changes-i.is) in
    let xs' = drop (c.loop-i.i + 1) xs in
    let old = drop c.args.from xs in
    elim c.match-changes-i.branch [
      | in-Add w ↦ one_added old xs' w.in-Add.field-0 (subst (λ l. IsTaking old l) (h ∙ ap (λ (z : Change). z ∷ xs') w.in-Add.is) c.loop-i.invariant)
      | in-Remove w ↦ one_removed old xs' w.in-Remove.field-0 (subst (λ l. IsTaking old l) (h ∙ ap (λ (z : Change). z ∷ xs') w.in-Remove.is) c.loop-i.invariant)
    ]
