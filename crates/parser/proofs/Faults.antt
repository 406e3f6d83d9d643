-- What a fault in a part says of the whole.
use Rattle.std.proofs.Common.{◌≡◌, ℕ, ◌+◌, ◌≤◌, arith, List, ◌∷◌, length, ◌<◌, ap, Result, Ok, Err}
use Rattle.std.specs.Prelude.{IfErr}
use Rattle.std.proofs.lemmas.Result.{IfErr-weaker}
use Rattle.parser.specs.declared.fault.Fault.{Fault}
use Rattle.parser.specs.declared.fault.Fault.TheVariants.{Unexpected, TooHigh, NoMemory}
use Rattle.parser.specs.Faults.{Denies}

-- where the whole is no lower than the part
pub denied_with : (U V : ℕ → Type 0) (f : Fault) (n : ℕ) → ((m : ℕ) → U m → V m) → Denies f U n → Denies f V n
denied_with U V (Unexpected s) n g d = λ m. g m (d m)
denied_with U V (TooHigh s) n g d = g n d
denied_with U V NoMemory n g d = tt

-- where the whole is higher than the part, which has one bracket less to open
pub denied_around : (U V : ℕ → Type 0) (f : Fault) (n k : ℕ) → k ≤ n + 1 → ((m l : ℕ) → m ≤ l + 1 → U l → V m) → Denies f U n → Denies f V k
denied_around U V (Unexpected s) n k e g d = λ m. g m m (omega arith) (d m)
denied_around U V (TooHigh s) n k e g d = g k n e d
denied_around U V NoMemory n k e g d = tt

-- fewer tokens are left than of that list, which is left of the first
pub shorter_at : {X : Type 0} (ts us vs ws : List X) (x : X) → length us < length ts → us ≡ x ∷ vs → length ws < length vs → length ws < length ts
shorter_at ts us vs ws x a e b = omega (arith, ap length e)

-- a fault that is passed on
pub passed_on : {T : Type 0} (r : Result T Fault) (f : Fault) (V : ℕ → Type 0) (n : ℕ) → IfErr r (λ e. e ≡ f) → Denies f V n → IfErr r (λ e. Denies e V n)
passed_on r f V n h d = IfErr-weaker r _ _ (λ e i. rw i d) h

-- where there is no reading, any fault will do
pub denied_anyhow : {T : Type 0} (r : Result T Fault) (V : ℕ → Type 0) → ((m : ℕ) → V m) → IfErr r (λ f. (room : ℕ) → Denies f V room)
denied_anyhow (Ok t) V d = tt
denied_anyhow (Err (Unexpected s)) V d = λ room m. d m
denied_anyhow (Err (TooHigh s)) V d = λ room. d room
denied_anyhow (Err NoMemory) V d = λ room. tt

pub denied_always : (V : ℕ → Type 0) (f : Fault) (room : ℕ) → ((m : ℕ) → V m) → Denies f V room
denied_always V (Unexpected s) room d = d
denied_always V (TooHigh s) room d = d room
denied_always V NoMemory room d = tt
