use Rattle.std.proofs.Common.{◌≡◌, ℕ, List, Option, Result, Ok, Err, IfOk, OnErr, subst, sym}
use Rattle.std.proofs.lemmas.Result.{IfOk-weaker}
use Rattle.execution.specs.Told.{IsTold, Tells, untold}
use Rattle.execution.specs.declared.watching.Progress.{Progress}
use Rattle.execution.specs.declared.watching.Watcher.{Watcher}
use Rattle.execution.proofs.Tellings.{tells_first}
use Rattle.execution.proofs.executing.execute.Goals as goal

-- a watcher is taken, told numbers, and put back
whole_told : {W : Type 0} (contents : W → Option (List ℕ)) (u v w x y : Option (Watcher W)) (m n : Progress) → v ≡ u → m ≡ untold → Tells contents v w m n
    → ((first : Option (Watcher W)) → Tells contents first w untold n → IsTold contents first x n) → y ≡ x → IsTold contents u y n
whole_told contents u v w x y m n same none p end put = subst (λ (z : Option (Watcher _)). IsTold contents u z n) (sym put) (end u (tells_first contents u v w m n same none p))

on_err : {T E X : Type 0} → (r : Result T E) → X → OnErr r X
on_err (Ok x) p = tt
on_err (Err e) p = p

and : {T E : Type 0} (P Q : T → Type 0) → (r : Result T E) → IfOk r P → IfOk r Q → IfOk r (λ x. P x × Q x)
and P Q (Ok x) p q = (p, q)
and P Q (Err e) p q = tt

pub returns-clause-told : goal.returns-clause-told
returns-clause-told g c = IfOk-weaker c.run-result.result _ _ (λ r h. (
  c.run-result.new.watch.told,
  h.0,
  h.1,
  whole_told g.W.Write.contents c.args.watcher.now c.begin-watch.result.watcher c.run-result.new.watch.watcher c.end.result c.fill.new.place c.begin-watch.result.told c.run-result.new.watch.told
      c.begin-watch.ensures.taken.0 c.begin-watch.ensures.taken.1 c.run-result.ensures.tells c.end.ensures c.fill.ensures,
)) (and _ _ c.run-result.result c.run-result.ensures.last c.run-result.ensures.received)

pub returns-clause-begun : goal.returns-clause-begun
returns-clause-begun g c = on_err c.run-result.result (
  c.run-result.new.watch.told,
  whole_told g.W.Write.contents c.args.watcher.now c.begin-watch.result.watcher c.run-result.new.watch.watcher c.end.result c.fill.new.place c.begin-watch.result.told c.run-result.new.watch.told
      c.begin-watch.ensures.taken.0 c.begin-watch.ensures.taken.1 c.run-result.ensures.tells c.end.ensures c.fill.ensures,
)
