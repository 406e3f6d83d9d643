-- What the checks say of a part is said of the whole.
use Rattle.std.proofs.Common.{◌≡◌, ℕ, suc, ◌+◌, ◌<◌, List, [], ◌∷◌, length, length-append, ◌∙◌, refl, arith, map, drop, get_or, ap, Result, Ok, drop-cons, add-one}
use Rattle.record_core.specs.declared.span.Refusal.{Refusal}
use Rattle.record_core.specs.declared.span.Refusal.TheVariants.{At, NoMemory}
use Rattle.semantics.specs.Typing.{Scope}
use Rattle.typing.specs.Fault.{Fault}
use Rattle.typing.specs.Verdict.{chain, each, arities_of, Says}

pub chain_ok : {X Y : Type 0} (v : Result X Fault) (k : X → Result Y Fault) (x : X) → v ≡ Ok x → chain v k ≡ k x
chain_ok v k x h = ap (λ w. chain w k) h

pub chain_err : {X Y : Type 0} (v : Result X Fault) (k : X → Result Y Fault) (e : Refusal) → Says e v → Says e (chain v k)
chain_err v k (At c s) h = ap (λ w. chain w k) h
chain_err v k NoMemory h = tt

-- an item passed: the rest decides
pub next_ok : {X Y : Type 0} (step : Y → Scope → Result Scope Fault) (g : X → Y) (xs : List X) (i : ℕ) (x : X) (s t : Scope) → i < length xs → x ≡ get_or xs i x → step (g x) s ≡ Ok t → each step (map g (drop i xs)) s ≡ each step (map g (drop (i + 1) xs)) t
next_ok step g xs i x s t h e k = rw (drop-cons xs i x h, ← e, add-one) (ap (λ v. chain v (each step (map g (drop (suc i) xs)))) k)

-- an item didn't
pub next_err : {X Y : Type 0} (step : Y → Scope → Result Scope Fault) (g : X → Y) (xs : List X) (i : ℕ) (x : X) (s : Scope) (e : Refusal) → i < length xs → x ≡ get_or xs i x → Says e (step (g x) s) → Says e (each step (map g (drop i xs)) s)
next_err step g xs i x s e h p k = rw (drop-cons xs i x h, ← p) (chain_err (step (g x) s) (each step (map g (drop (suc i) xs))) e k)

-- as many arities as names
pub length_arities : (s : Scope) → length (arities_of s) ≡ length s
length_arities [] = refl
length_arities (e ∷ s) = length-append (arities_of s) (e.arity ∷ []) ∙ rw (length_arities s) (omega arith)
