-- Two pointstamps that come and go in a list of changes and questions.
use Rattle.std.proofs.Common.{◌≡◌, ◌≢◌, ◌⊎◌, inl, inr, ℕ, ◌<◌, [], ◌∷◌, arith}
use Rattle.semantics.specs.Graph.{Graph}
use Rattle.semantics.specs.Could.{Pointstamp, IsTimeAt}
use Rattle.machine.specs.Active.{one_if_same}
use Rattle.machine.proofs.Active.{one_self, one_tells}
use Rattle.simple_trackers.specs.Asked.{ArePossible, one_more, one_less}
use Rattle.simple_trackers.specs.declared.change.Change.TheVariants.{Add, Remove, Ask}

pub possible_changes : (g : Graph) (content : Pointstamp → ℕ) (p q : Pointstamp) → IsTimeAt g p.location p.time → IsTimeAt g q.location q.time
    → ArePossible g content (Add p ∷ Add q ∷ Add q ∷ Ask q ∷ Ask p ∷ Remove p ∷ Ask q ∷ Remove q ∷ Ask q ∷ [])
possible_changes g content p q fits_p fits_q =
    (fits_p, (fits_q, (fits_q, (fits_q, (fits_p, (possible_p, (fits_q, (possible_q, (fits_q, tt)))))))))
  where
    possible_p : 0 < one_more (one_more (one_more content p) q) q p
    possible_p = let a = one_self p in omega arith

    possible_q : 0 < one_less (one_more (one_more (one_more content p) q) q) p q
    possible_q = go (one_tells q p)
      where
        go : ((one_if_same q p ≡ 1) × (q ≡ p)) ⊎ ((one_if_same q p ≡ 0) × (q ≢ p)) → 0 < one_less (one_more (one_more (one_more content p) q) q) p q
        go (inl x) = let a = one_self q in let b = x.0 in omega arith
        go (inr x) = let a = one_self q in let b = x.0 in omega arith
