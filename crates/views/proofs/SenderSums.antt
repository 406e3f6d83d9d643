-- Sums over the senders.
use Rattle.std.proofs.Common.{◌≡◌, ◌≢◌, ◌⊎◌, inl, inr, ℕ, zero, suc, ◌+◌, ◌<◌, ◌==◌, true, false, cond, eqb, List, [], ◌∷◌, ◌++◌, refl, sym, ap, subst, ◌∙◌, arith, add-one}
use Rattle.std.proofs.lemmas.Bool.Decides.{eqb_tells}
use Rattle.semantics.specs.Multiset.{total}
use Rattle.semantics.proofs.MultisetSums.{total-append}
use Rattle.machine.specs.Active.{sum_below}
use Rattle.machine.specs.Views.{Changes}

pub sum_next : (n : ℕ) (f : ℕ → ℕ) → sum_below (n + 1) f ≡ sum_below n f + f n
sum_next n f = rw (add-one n) refl

pub sum_none : (n : ℕ) (f : ℕ → ℕ) → ((i : ℕ) → f i ≡ 0) → sum_below n f ≡ 0
sum_none zero f h = refl
sum_none (suc n) f h = let a = sum_none n f h in let b = h n in omega arith

pub sum_same : (n : ℕ) (f f' : ℕ → ℕ) → ((i : ℕ) → i < n → f' i ≡ f i) → sum_below n f' ≡ sum_below n f
sum_same zero f f' h = refl
sum_same (suc n) f f' h = let a = sum_same n f f' (λ i l. h i (omega arith)) in let b = h n (omega arith) in omega arith

pub sum_moved : (n s : ℕ) (f f' : ℕ → ℕ) (k k' : ℕ) → s < n → ((i : ℕ) → (i ≡ s → ⊥) → f' i ≡ f i) → f' s + k ≡ f s + k' → sum_below n f' + k ≡ sum_below n f + k'
sum_moved zero s f f' k k' l h e = absurd (omega arith)
sum_moved (suc n) s f f' k k' l h e = go (eqb_tells s n) (sum_moved n s f f' k k')
  where
    go : ((eqb s n ≡ true) × (s ≡ n)) ⊎ ((eqb s n ≡ false) × (s ≢ n)) → (s < n → ((i : ℕ) → (i ≡ s → ⊥) → f' i ≡ f i) → f' s + k ≡ f s + k' → sum_below n f' + k ≡ sum_below n f + k') → sum_below n f' + f' n + k ≡ sum_below n f + f n + k'
    go (inl x) ih =
        let a : f' n + k ≡ f n + k' = subst (λ i. f' i + k ≡ f i + k') x.1 e in
        let b = sum_same n f f' (λ i m. h i (λ y. let z = x.1 in omega arith)) in omega arith
    go (inr x) ih = let d = x.1 in let a = ih (omega arith) h e in let b = h n (λ y. d (sym y)) in omega arith

-- a batch is posted after those that wait from its sender
pub sum_posted : (f : Changes → ℕ) (n : ℕ) (waits waits' : ℕ → List Changes) (b : Changes) → b.sender < n
    → ((s : ℕ) → waits' s ≡ cond (s == b.sender) (waits s ++ (b ∷ [])) (waits s))
    → sum_below n (λ s. total f (waits' s)) ≡ sum_below n (λ s. total f (waits s)) + f b
sum_posted f n waits waits' b l is =
    let here : total f (waits' b.sender) ≡ total f (waits b.sender) + f b = ap (total f) (is b.sender) ∙ one (eqb_tells b.sender b.sender) in
    let a = sum_moved n b.sender (λ s. total f (waits s)) (λ s. total f (waits' s)) 0 (f b) l (λ s d. ap (total f) (is s) ∙ other s d (eqb_tells s b.sender)) (omega arith) in
    omega arith
  where
    one : ((eqb b.sender b.sender ≡ true) × (b.sender ≡ b.sender)) ⊎ ((eqb b.sender b.sender ≡ false) × (b.sender ≢ b.sender)) → total f (cond (b.sender == b.sender) (waits b.sender ++ (b ∷ [])) (waits b.sender)) ≡ total f (waits b.sender) + f b
    one (inl x) = ap (λ y. total f (cond y (waits b.sender ++ (b ∷ [])) (waits b.sender))) x.0 ∙ (let a = total-append f (waits b.sender) (b ∷ []) in omega arith)
    one (inr x) = absurd (x.1 refl)

    other : (s : ℕ) → (s ≡ b.sender → ⊥) → ((eqb s b.sender ≡ true) × (s ≡ b.sender)) ⊎ ((eqb s b.sender ≡ false) × (s ≢ b.sender)) → total f (cond (s == b.sender) (waits s ++ (b ∷ [])) (waits s)) ≡ total f (waits s)
    other s d (inl x) = absurd (d x.1)
    other s d (inr x) = ap (λ y. total f (cond y (waits s ++ (b ∷ [])) (waits s))) x.0

-- the first batch of a sender doesn't wait any more
pub sum_applied : (f : Changes → ℕ) (n s : ℕ) (waits waits' : ℕ → List Changes) (b : Changes) → s < n → waits s ≡ b ∷ waits' s → ((t : ℕ) → (t ≡ s → ⊥) → waits' t ≡ waits t)
    → sum_below n (λ t. total f (waits' t)) + f b ≡ sum_below n (λ t. total f (waits t))
sum_applied f n s waits waits' b l e others =
    let here : total f (waits s) ≡ f b + total f (waits' s) = ap (total f) e in
    let a = sum_moved n s (λ t. total f (waits t)) (λ t. total f (waits' t)) (f b) 0 l (λ t d. ap (total f) (others t d)) (omega arith) in
    omega arith
