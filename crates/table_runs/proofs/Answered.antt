-- What follows of what holds at Ok.
use Rattle.std.proofs.Common.{OnOk, Result, Ok, Err}

pub on_ok : {T E P Q : Type 0} → (r : Result T E) → (P → Q) → OnOk r P → OnOk r Q
on_ok (Ok v) f p = f p
on_ok (Err e) f p = tt
