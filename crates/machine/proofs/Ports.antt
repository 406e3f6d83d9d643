-- What has come to a vertex, over all its ports.
use Rattle.std.proofs.Common.{◌≡◌, ◌≢◌, ◌<◌, ℕ, zero, suc, true, false, eqb, List, [], ◌∷◌, ◌++◌, ◌⊎◌, inl, inr, refl, ap, ap₂, ◌∙◌, subst, arith, append-nil}
use Rattle.std.proofs.lemmas.Bool.Decides.{eqb_tells}
use Rattle.semantics.specs.Multiset.{Record, end_to_end}
use Rattle.machine.proofs.Kept.{some}

pub end_same : (f f' : ℕ → List Record) (n : ℕ) → ((p : ℕ) → p < n → f p ≡ f' p) → end_to_end f n ≡ end_to_end f' n
end_same f f' zero h = refl
end_same f f' (suc n) h = ap₂ (λ xs ys. xs ++ ys) (end_same f f' n (λ p l. h p (omega arith))) (h n (omega arith))

pub end_empty : (n : ℕ) → end_to_end (λ p. []) n ≡ []
end_empty zero = refl
end_empty (suc n) = append-nil (end_to_end (λ p. []) n) ∙ end_empty n

no_parts : (xs ys : List Record) → xs ++ ys ≡ [] → (xs ≡ []) × (ys ≡ [])
no_parts [] ys e = (refl, e)
no_parts (x ∷ xs) ys e = absurd cc

-- if nothing has come at all, nothing has come to any port
pub each_empty : (f : ℕ → List Record) (n : ℕ) → end_to_end f n ≡ [] → (p : ℕ) → p < n → f p ≡ []
each_empty f zero e p l = absurd (omega arith)
each_empty f (suc n) e p l = go (no_parts (end_to_end f n) (f n) e) (less_or_last p n l) (λ a. each_empty f n a p)
  where
    less_or_last : (p n : ℕ) → p < suc n → (p < n) ⊎ (p ≡ n)
    less_or_last p n l = grind arith

    go : (end_to_end f n ≡ []) × (f n ≡ []) → (p < n) ⊎ (p ≡ n) → (end_to_end f n ≡ [] → p < n → f p ≡ []) → f p ≡ []
    go (a, b) (inr e) ih = ap f e ∙ b
    go (a, b) (inl l) ih = ih a l

pub some_append : (xs ys : List Record) → 0 < some ys → some (xs ++ ys) ≡ 1
some_append [] [] l = absurd (omega arith)
some_append [] (y ∷ ys) l = refl
some_append (x ∷ xs) ys l = refl

some_before : (xs ys : List Record) → some xs ≡ 1 → some (xs ++ ys) ≡ 1
some_before [] ys e = absurd (omega arith)
some_before (x ∷ xs) ys e = refl

-- if something has come to a port, something has come at all
pub some_of_port : (f : ℕ → List Record) (n p : ℕ) → p < n → 0 < some (f p) → some (end_to_end f n) ≡ 1
some_of_port f zero p l s = absurd (omega arith)
some_of_port f (suc n) p l s = go (eqb_tells p n) (some_of_port f n p)
  where
    go : ((eqb p n ≡ true) × (p ≡ n)) ⊎ ((eqb p n ≡ false) × (p ≢ n)) → (p < n → 0 < some (f p) → some (end_to_end f n) ≡ 1) → some (end_to_end f n ++ f n) ≡ 1
    go (inl (a, e)) ih = some_append (end_to_end f n) (f n) (subst (λ (x : ℕ). 0 < some (f x)) e s)
    go (inr (a, ne)) ih = some_before (end_to_end f n) (f n) (ih (omega arith) s)

-- if something has come, it has come to some port
pub port_of_some : (f : ℕ → List Record) (n : ℕ) → 0 < some (end_to_end f n) → (p : ℕ) × (p < n) × (0 < some (f p))
port_of_some f zero s = absurd (omega arith)
port_of_some f (suc n) s = go (f n) refl (port_of_some f n)
  where
    go : (xs : List Record) → f n ≡ xs → (0 < some (end_to_end f n) → (p : ℕ) × (p < n) × (0 < some (f p))) → (p : ℕ) × (p < suc n) × (0 < some (f p))
    go (x ∷ xs) e ih = (n, omega arith, (let z : some (f n) ≡ 1 = ap some e in omega arith))
    go [] e ih =
        let z : some (end_to_end f n ++ f n) ≡ some (end_to_end f n) = ap (λ ys. some (end_to_end f n ++ ys)) e ∙ ap some (append-nil (end_to_end f n)) in
        let x = ih (omega arith) in
        (x.0, (let y = x.1 in omega arith), x.2)
