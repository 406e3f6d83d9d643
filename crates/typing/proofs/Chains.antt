-- What an outcome of a chain of checks says of its parts.
use Rattle.std.proofs.Common.{◌≡◌, ◌≢◌, ℕ, ◌<◌, ◌≤◌, Bool, true, false, cond, nat_lt, nat_le, nat_eq, ◌&&◌, Option, None, Some, Result, Ok, Err, refl, arith, eq-eqb}
use Rattle.std.proofs.lemmas.Bool.{ltb-true, lt-ltb, leb-true, le-leb, eqb-true}
use Rattle.record_core.specs.declared.span.Span.{Span}
use Rattle.semantics.specs.Limits.{max_fields}
use Rattle.semantics.specs.Typing.{IsArity}
use Rattle.typing.specs.declared.refusals.TheConstants.{UNKNOWN_NAME, NO_SUCH_COLUMN, BAD_ARITY}
use Rattle.typing.specs.Fault.{Fault, fault}
use Rattle.typing.specs.Verdict.{chain, within, unless_taken, known, is_arity, sized}

module _ {X Y : Type 0} where
  pub chain_is_ok : (v : Result X Fault) (k : X → Result Y Fault) (y : Y) → chain v k ≡ Ok y → (x : X) × (v ≡ Ok x) × (k x ≡ Ok y)
  chain_is_ok (Ok x) k y h = (x, refl, h)
  chain_is_ok (Err f) k y h = absurd (cc)

  pub chain_is_err : (v : Result X Fault) (k : X → Result Y Fault) (f : Fault) (G : Type 0) → chain v k ≡ Err f → (v ≡ Err f → G) → ((x : X) → v ≡ Ok x → k x ≡ Err f → G) → G
  chain_is_err (Ok x) k f G h here later = later x refl h
  chain_is_err (Err g) k f G h here later = here (cc)

module _ {X : Type 0} where
  pub within_is_ok : (o : Option Span) (v : Result X Fault) (x : X) → within o v ≡ Ok x → (o ≡ None) × (v ≡ Ok x)
  within_is_ok None v x h = (refl, h)
  within_is_ok (Some s) v x h = absurd (cc)

  pub within_is_err : (o : Option Span) (v : Result X Fault) (f : Fault) (G : Type 0) → within o v ≡ Err f → ((s : Span) → o ≡ Some s → fault NO_SUCH_COLUMN s ≡ f → G) → (o ≡ None → v ≡ Err f → G) → G
  within_is_err None v f G h here later = later refl h
  within_is_err (Some s) v f G h here later = here s refl (cc)

  pub unless_is_ok : (o : Option ℕ) (e : Fault) (v : Result X Fault) (x : X) → unless_taken o e v ≡ Ok x → (o ≡ None) × (v ≡ Ok x)
  unless_is_ok None e v x h = (refl, h)
  unless_is_ok (Some k) e v x h = absurd (cc)

  pub unless_is_err : (o : Option ℕ) (e : Fault) (v : Result X Fault) (f : Fault) (G : Type 0) → unless_taken o e v ≡ Err f → ((k : ℕ) → o ≡ Some k → e ≡ f → G) → (o ≡ None → v ≡ Err f → G) → G
  unless_is_err None e v f G h here later = later refl h
  unless_is_err (Some k) e v f G h here later = here k refl (cc)

  pub test_is_ok : (b : Bool) (v : Result X Fault) (e : Fault) (x : X) → cond b v (Err e) ≡ Ok x → (b ≡ true) × (v ≡ Ok x)
  test_is_ok true v e x h = (refl, h)
  test_is_ok false v e x h = absurd (cc)

  pub test_is_err : (b : Bool) (v : Result X Fault) (e f : Fault) (G : Type 0) → cond b v (Err e) ≡ Err f → (b ≡ false → e ≡ f → G) → (b ≡ true → v ≡ Err f → G) → G
  test_is_err true v e f G h here later = later refl h
  test_is_err false v e f G h here later = here refl (cc)

pub known_is_ok : (o : Option ℕ) (s : Span) (n : ℕ) → known o s ≡ Ok n → o ≡ Some n
known_is_ok None s n h = absurd (cc)
known_is_ok (Some k) s n h = cc

pub known_is_err : (o : Option ℕ) (s : Span) (f : Fault) → known o s ≡ Err f → (o ≡ None) × (fault UNKNOWN_NAME s ≡ f)
known_is_err None s f h = (refl, (cc))
known_is_err (Some k) s f h = absurd (cc)

pub arity_true : (n : ℕ) → IsArity n → is_arity n ≡ true
arity_true n h = rw (lt-ltb 0 n h.0, le-leb n max_fields h.1)

pub true_arity : (n : ℕ) → is_arity n ≡ true → IsArity n
true_arity n h = go (nat_lt 0 n) refl (nat_le n max_fields) refl h
  where
    go : (a : Bool) → nat_lt 0 n ≡ a → (b : Bool) → nat_le n max_fields ≡ b → a && b ≡ true → (0 < n) × (n ≤ max_fields)
    go true p true q k = (ltb-true 0 n p, leb-true n max_fields q)
    go true p false q k = absurd (cc)
    go false p true q k = absurd (cc)
    go false p false q k = absurd (cc)

pub arity_false : (n : ℕ) → (IsArity n → ⊥) → is_arity n ≡ false
arity_false n h = go (is_arity n) refl
  where
    go : (b : Bool) → is_arity n ≡ b → b ≡ false
    go true e = absurd (h (true_arity n e))
    go false e = refl

pub false_arity : (n : ℕ) → is_arity n ≡ false → IsArity n → ⊥
false_arity n e h = let k = arity_true n h in cc

pub sized_is_ok : (s : Span) (n m : ℕ) → sized s n ≡ Ok m → IsArity n × (m ≡ n)
sized_is_ok s n m h = let k = test_is_ok (is_arity n) (Ok n) (fault BAD_ARITY s) m h in (true_arity n k.0, (cc))

pub sized_is_err : (s : Span) (n : ℕ) (f : Fault) → sized s n ≡ Err f → (IsArity n → ⊥) × (fault BAD_ARITY s ≡ f)
sized_is_err s n f h =
    test_is_err (is_arity n) (Ok n) (fault BAD_ARITY s) f ((IsArity n → ⊥) × (fault BAD_ARITY s ≡ f)) h
    (λ e k. (false_arity n e, k))
    (λ e k. absurd (cc))

pub differ_false : (a b : ℕ) → a ≢ b → nat_eq a b ≡ false
differ_false a b h = go (nat_eq a b) refl
  where
    go : (t : Bool) → nat_eq a b ≡ t → t ≡ false
    go true e = absurd (h (eqb-true a b e))
    go false e = refl

pub above_false : (a b : ℕ) → b < a → nat_le a b ≡ false
above_false a b h = go (nat_le a b) refl
  where
    go : (t : Bool) → nat_le a b ≡ t → t ≡ false
    go true e = let k = leb-true a b e in absurd (omega arith)
    go false e = refl

pub least_false : (a b : ℕ) → b ≤ a → nat_lt a b ≡ false
least_false a b h = go (nat_lt a b) refl
  where
    go : (t : Bool) → nat_lt a b ≡ t → t ≡ false
    go true e = let k = ltb-true a b e in absurd (omega arith)
    go false e = refl

pub false_differ : (a b : ℕ) → nat_eq a b ≡ false → a ≢ b
false_differ a b e h = let k = eq-eqb a b h in absurd (cc)
