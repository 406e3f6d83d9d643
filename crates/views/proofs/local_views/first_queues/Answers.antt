use Rattle.std.proofs.Common.{◌≡◌, ◌∷◌, [], List, ℕ, length, length-append, subst, sym, arith, ap, Some, slice_get}
use Rattle.views.specs.Queued.{Queued}
use Rattle.views.proofs.FirstViews.{push_each}
use Rattle.views.proofs.local_views.first_queues.Goals as goal

pub loop-preserved : goal.loop-preserved
loop-preserved c =
    let xs = c.loop.queues.items in
    let y = c.in_ok-new.field-0 in
    let n = c.args.workers in
    let e = c.in_ok-push.ensures.items in
    record {
      long = let a = ap length e in let b = length-append xs (y ∷ []) in let k = c.loop.invariant.long in omega arith;
      each = subst (λ (l : List Queued). (s : ℕ) (q : Queued) → slice_get l s ≡ Some q → (q.changes ≡ []) × (length q.taken ≡ n)) (sym e)
          (push_each (λ (q : Queued). (q.changes ≡ []) × (length q.taken ≡ n)) xs y c.loop.invariant.each (c.in_ok-new.ensures.none, c.in_ok-new.ensures.taken));
    }
