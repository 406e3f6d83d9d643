-- The outputs of a graph, and what vertices have emitted at the opening.
use Rattle.std.proofs.Common.{◌≡◌, ◌≤◌, ◌+◌, ℕ, zero, suc, Bool, true, false, cond, List, [], ◌∷◌, ◌++◌, length, refl, ap, ◌∙◌, arith, length-append}
use Rattle.semantics.specs.Graph.{Graph, Vertex, output_numbers, outputs_from}
use Rattle.semantics.specs.Kinds.{is_output}
use Rattle.board.specs.Shown.{Epochs, emitted_by}

few_from : (k : ℕ) (xs : List Vertex) → length (outputs_from k xs) ≤ length xs
few_from k [] = omega arith
few_from k (x ∷ xs) = go (is_output x.kind) (few_from (suc k) xs)
  where
    go : (b : Bool) → length (outputs_from (suc k) xs) ≤ length xs → length (cond b (k ∷ outputs_from (suc k) xs) (outputs_from (suc k) xs)) ≤ suc (length xs)
    go true h = omega (arith, h)
    go false h = omega (arith, h)

-- a graph has at most as many outputs as vertices
pub few_outputs : (g : Graph) → length (output_numbers g) ≤ length g
few_outputs g = few_from 0 g

-- there are `count` vertices, and none of them has emitted anything
pub record AreSilent (es : List Epochs) (count : ℕ) : Type 0 where
  pub many : length es ≡ count
  pub none : (v : ℕ) → emitted_by es v ≡ []

none_there : (v : ℕ) → emitted_by [] v ≡ []
none_there zero = refl
none_there (suc v) = refl

one_more : (es : List Epochs) → ((v : ℕ) → emitted_by es v ≡ []) → (v : ℕ) → emitted_by (es ++ [] ∷ []) v ≡ []
one_more [] none zero = refl
one_more [] none (suc v) = none_there v
one_more (e ∷ es) none zero = none 0
one_more (e ∷ es) none (suc v) = one_more es (λ n. none (suc n)) v

pub silent_new : AreSilent [] 0
silent_new = record { many = refl; none = none_there }

pub silent_more : (es fs : List Epochs) (count : ℕ) (e : Epochs) → fs ≡ es ++ e ∷ [] → e ≡ [] → AreSilent es count → AreSilent fs (count + 1)
silent_more es fs count e is none silent = record {
  many = (let n = ap length is in let m = length-append es (e ∷ []) in let k = silent.many in omega (arith, n, m, k));
  none = λ v. ap (λ l. emitted_by l v) (is ∙ ap (λ x. es ++ x ∷ []) none) ∙ one_more es silent.none v;
}
