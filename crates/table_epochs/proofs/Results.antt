-- What follows of what holds of a result.
use Rattle.std.proofs.Common.{◌≡◌, IfErr, IfOk, IsErrAnd, OnOk, Result, Ok, Err, subst, sym}

pub if-ok : {T E : Type 0} {P Q : T → Type 0} → (r : Result T E) → ((v : T) → P v → Q v) → IfOk r P → IfOk r Q
if-ok (Ok v) f p = f v p
if-ok (Err e) f p = tt

pub if-err : {T E : Type 0} {P Q : E → Type 0} → (r : Result T E) → ((e : E) → P e → Q e) → IfErr r P → IfErr r Q
if-err (Ok v) f p = tt
if-err (Err e) f p = f e p

pub from-err : {T E : Type 0} (P : E → Type 0) (r : Result T E) (e : E) → IsErrAnd r (λ x. x ≡ e) → P e → IfErr r P
from-err P (Ok v) e h p = tt
from-err P (Err x) e h p = subst P (sym h) p

pub err-any : {T E : Type 0} (P : E → Type 0) (r : Result T E) → ((e : E) → P e) → IfErr r P
err-any P (Ok v) f = tt
err-any P (Err e) f = f e

pub on-any : {T E P : Type 0} → (r : Result T E) → P → OnOk r P
on-any (Ok v) p = p
on-any (Err e) p = tt

pub on-ok : {T E P Q : Type 0} → (r : Result T E) → (P → Q) → OnOk r P → OnOk r Q
on-ok (Ok v) f p = f p
on-ok (Err e) f p = tt
