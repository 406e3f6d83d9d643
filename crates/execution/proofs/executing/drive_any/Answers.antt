use Rattle.std.proofs.Common.{Result, Ok, Err, IfOk, ap, arith}
use Rattle.execution.proofs.executing.drive_any.Goals as goal

on_any : {T E : Type 0} (P : T → Type 0) (r : Result T E) → ((x : T) → P x) → IfOk r P
on_any P (Ok x) all = all x
on_any P (Err e) all = tt

-- a run that nobody watches tells nothing
pub returns-then-not-is_on-clause-most : goal.returns-then-not-is_on-clause-most
returns-then-not-is_on-clause-most g c = on_any _ c.drive.result (λ r n counts. let none = ap (λ p. p.passed) c.requires.untold in omega (arith, none))

pub returns-then-not-is_on-clause-received : goal.returns-then-not-is_on-clause-received
returns-then-not-is_on-clause-received g c = on_any _ c.drive.result (λ r. let none = ap (λ p. p.received) c.requires.untold in omega (arith, none))
