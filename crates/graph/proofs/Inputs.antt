-- How many inputs a graph has.
use Rattle.std.proofs.Common.{◌≡◌, ◌⊎◌, inl, inr, ℕ, zero, suc, ◌<◌, ◌≤◌, true, false, cond, [], ◌∷◌, length, refl, sym, ap, ◌∙◌, arith}
use Rattle.semantics.specs.Graph.{Graph, input_count, vertex}
use Rattle.semantics.specs.Kinds.{is_input}

-- as many as stand before the first vertex of another kind
pub inputs_before : (g : Graph) (n : ℕ) → n ≤ length g → ((j : ℕ) → j < n → is_input (vertex g j).kind ≡ true) → (n ≡ length g) ⊎ (is_input (vertex g n).kind ≡ false) → n ≡ input_count g
unfolding vertex
inputs_before [] zero l all end = refl
inputs_before [] (suc n) l all end = absurd (omega (arith, l))
inputs_before (x ∷ g) zero l all (inl e) = absurd (omega (arith, e))
inputs_before (x ∷ g) zero l all (inr e) = sym (ap (λ b. cond b (suc (input_count g)) 0) e)
inputs_before (x ∷ g) (suc n) l all (inl e) =
    ap suc (inputs_before g n (omega (arith, l)) (λ j h. all (suc j) (omega (arith, h))) (inl (omega (arith, e))))
    ∙ sym (ap (λ b. cond b (suc (input_count g)) 0) (all zero (omega arith)))
inputs_before (x ∷ g) (suc n) l all (inr e) =
    ap suc (inputs_before g n (omega (arith, l)) (λ j h. all (suc j) (omega (arith, h))) (inr e))
    ∙ sym (ap (λ b. cond b (suc (input_count g)) 0) (all zero (omega arith)))
