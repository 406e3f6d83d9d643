-- Lists of batches by epoch.
use Rattle.std.proofs.Common.{◌≡◌, ℕ, zero, suc, ◌<◌, ◌≤◌, List, [], ◌∷◌, ◌++◌, length, refl, ap, arith, slice_index_or, slice_set}
use Rattle.semantics.specs.Multiset.{Record}
use Rattle.board.specs.Shown.{Epochs}
use Rattle.board.specs.Steps.{more_at}

-- an entry that is missing holds the same as an empty list at the end
pub more-empty : (e : ℕ) (bs : List (List Record)) (xs : Epochs) → length xs ≤ e → more_at e bs (xs ++ [] ∷ []) ≡ more_at e bs xs
more-empty zero bs [] l = refl
more-empty zero bs (x ∷ xs) l = absurd (omega arith)
more-empty (suc e) bs [] l = refl
more-empty (suc e) bs (x ∷ xs) l = ap (λ z. x ∷ z) (more-empty e bs xs (omega arith))

pub more-new : (e : ℕ) (bs : List (List Record)) (xs : Epochs) → length xs ≡ e → more_at e bs xs ≡ xs ++ bs ∷ []
more-new zero bs [] l = refl
more-new zero bs (x ∷ xs) l = absurd (omega arith)
more-new (suc e) bs [] l = absurd (omega arith)
more-new (suc e) bs (x ∷ xs) l = ap (λ z. x ∷ z) (more-new e bs xs (omega arith))

-- an entry that exists is set
pub more-set : (e : ℕ) (bs d : List (List Record)) (xs : Epochs) → e < length xs → more_at e bs xs ≡ slice_set xs e (slice_index_or xs e d ++ bs)
more-set e bs d [] l = absurd (omega arith)
more-set zero bs d (x ∷ xs) l = refl
more-set (suc e) bs d (x ∷ xs) l = ap (λ z. x ∷ z) (more-set e bs d xs (omega arith))
