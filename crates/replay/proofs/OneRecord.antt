-- A multiset of one record is one list.
use Rattle.std.proofs.Common.{◌≡◌, Bool, true, false, List, [], ◌∷◌, refl, sym, ap, arith}
use Rattle.semantics.specs.Multiset.{Record, ◌≈◌, one_if, same}
use Rattle.semantics.proofs.MultisetSums.{Decides-same, count_here, same-refl, total-same}

pub one_record : (records : List Record) (row : Record) → records ≈ row ∷ [] → records ≡ row ∷ []
one_record [] row e = absurd (let n = e.counts row in let some = count_here row [] in omega (arith, n, some))
one_record (x ∷ y ∷ more) row e = absurd (let n = total-same (λ r. 1) (x ∷ y ∷ more) (row ∷ []) e in omega (arith, n))
one_record (x ∷ []) row e = ap (λ (r : Record). r ∷ []) (there (same row x) refl)
  where
    there : (b : Bool) → same row x ≡ b → x ≡ row
    there true is = sym ((Decides-same row x).0 is)
    there false is = absurd (
        let n = e.counts x in
        let mine : one_if (same x x) ≡ 1 = ap one_if (same-refl x) in
        let other : one_if (same row x) ≡ 0 = ap one_if is in
        omega (arith, n, mine, other))
