use Rattle.std.proofs.Common.{ℕ, false, sym, subst, arith}
use Rattle.semantics.specs.Graph.{input_count}
use Rattle.semantics.specs.Could.{CouldResultIn, Pointstamp}
use Rattle.machine.specs.Active.{active_count}
use Rattle.machine.specs.Engine.{network}
use Rattle.machine.specs.Changes.{step_adds, step_sender}
use Rattle.machine.specs.Posting.{MayPost}
use Rattle.progress.specs.Content.{times_in}
use Rattle.views.proofs.laws.law_of_step.Goals as goal

pub returns-clause-may : goal.returns-clause-may
returns-clause-may c = λ g workers steps w run step ok content is added removed adds removes.
    let n = network g workers in
    let s = step_sender n step in
    let m = c.law_posted.ensures.step g workers steps w run step ok false in
    subst (λ (f : Pointstamp → ℕ). MayPost (CouldResultIn g) (input_count g) workers f (record { sender = s; adds = times_in added; removes = times_in removed; applied = false })) (λ i q. sym (is q) i)
    (subst (λ (f : Pointstamp → ℕ). MayPost (CouldResultIn g) (input_count g) workers (active_count n w) (record { sender = s; adds = f; removes = times_in removed; applied = false })) (λ i q. sym (adds q) i)
    (subst (λ (f : Pointstamp → ℕ). MayPost (CouldResultIn g) (input_count g) workers (active_count n w) (record { sender = s; adds = step_adds n w step; removes = f; applied = false })) (λ i q. sym (removes q) i) m))

pub returns-clause-after : goal.returns-clause-after
returns-clause-after c = λ g workers steps w run step ok old new is added removed adds removes e q.
    let a = c.law_active.ensures.step g run.flows workers run.some w step ok q in
    let b = adds q in let d = removes q in let f = is q in let h = e q in
    omega arith
