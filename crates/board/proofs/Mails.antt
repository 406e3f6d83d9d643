-- Messages by their target workers.
use Rattle.std.proofs.Common.{◌≡◌, ◌≢◌, ℕ, zero, suc, ◌+◌, ◌<◌, ◌==◌, true, false, cond, List, [], ◌∷◌, refl, sym, ap, ◌∙◌, arith, slice_get, Some, ◌⊎◌, inl, inr}
use Rattle.std.proofs.lemmas.Bool.Decides.{eqb_tells}
use Rattle.semantics.specs.Multiset.{total}
use Rattle.machine.specs.World.{Message}
use Rattle.machine.specs.Active.{sum_below}
use Rattle.machine.proofs.Counting.{below_zero, below_changed, eqb_self}
use Rattle.std.specs.List.{AllByRecursion}
use Rattle.events.specs.declared.letter.Letter.{Letter}
use Rattle.events.specs.Letters.{sent_to}

pub sent_to_here : (o : Letter) (os : List Letter) → sent_to o.to (o ∷ os) ≡ o.message ∷ sent_to o.to os
sent_to_here o os = ap (λ b. cond b (o.message ∷ sent_to o.to os) (sent_to o.to os)) (eqb_self o.to)

pub sent_to_other : (to : ℕ) (o : Letter) (os : List Letter) → o.to ≢ to → sent_to to (o ∷ os) ≡ sent_to to os
sent_to_other to o os ne = go (eqb_tells o.to to)
  where
    go : ((o.to == to) ≡ true) × (o.to ≡ to) ⊎ ((o.to == to) ≡ false) × (o.to ≢ to) → sent_to to (o ∷ os) ≡ sent_to to os
    go (inl (t, q)) = absurd (ne q)
    go (inr (t, q)) = ap (λ b. cond b (o.message ∷ sent_to to os) (sent_to to os)) t

-- each message is among those of its worker
pub at_worker : (os : List Letter) (i : ℕ) (o : Letter) → slice_get os i ≡ Some o → (at : ℕ) × (slice_get (sent_to o.to os) at ≡ Some o.message)
at_worker [] i o e = absurd cc
at_worker (p ∷ os) zero o e =
    let q : p ≡ o = cc in
    (0, ap (λ (z : Letter). slice_get (sent_to o.to (z ∷ os)) 0) q ∙ ap (λ ms. slice_get ms 0) (sent_to_here o os))
at_worker (p ∷ os) (suc i) o e = go (p.to == o.to) refl (at_worker os i o e)
  where
    go : (b : _) → (p.to == o.to) ≡ b → ((at : ℕ) × (slice_get (sent_to o.to os) at ≡ Some o.message)) → (at : ℕ) × (slice_get (sent_to o.to (p ∷ os)) at ≡ Some o.message)
    go true t r = (suc r.0, ap (λ b. slice_get (cond b (p.message ∷ sent_to o.to os) (sent_to o.to os)) (suc r.0)) t ∙ r.1)
    go false t r = (r.0, ap (λ b. slice_get (cond b (p.message ∷ sent_to o.to os) (sent_to o.to os)) r.0) t ∙ r.1)

-- the sum over all messages is the sum over the workers
pub by_workers : (n : ℕ) (f : Message → ℕ) (os : List Letter) → AllByRecursion (λ (l : Letter). l.to < n) os
    → sum_below n (λ to. total f (sent_to to os)) ≡ total (λ (o : Letter). f o.message) os
by_workers n f [] there = below_zero n (λ to. 0) (λ k l. refl)
by_workers n f (o ∷ os) there =
    let a : sum_below n (λ to. total f (sent_to to (o ∷ os))) + total f (sent_to o.to os) ≡ sum_below n (λ to. total f (sent_to to os)) + total f (sent_to o.to (o ∷ os)) =
    below_changed n o.to (λ to. total f (sent_to to os)) (λ to. total f (sent_to to (o ∷ os))) there.0 (λ j l ne. ap (total f) (sent_to_other j o os (λ e. ne (sym e)))) in
    let b : total f (sent_to o.to (o ∷ os)) ≡ f o.message + total f (sent_to o.to os) = ap (total f) (sent_to_here o os) in
    let c = by_workers n f os there.1 in
    omega arith
