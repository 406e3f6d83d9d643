-- One column more.
use Rattle.std.proofs.Common.{◌≡◌, ℕ, suc, ◌+◌, ◌-◌, ◌<◌, List, [], ◌∷◌, ◌++◌, sym, ap, ◌∙◌, append_assoc, arith}
use Rattle.std.proofs.lemmas.List.{map-append}
use Rattle.field_origins.specs.declared.source.Origin as declared
use Rattle.field_origins.specs.Shown.{origin, origins}
use Rattle.field_origins.specs.Sources.{Origin, source, columns_from}

-- where a column is left, it comes first
pub columns_next : (i c n : ℕ) → c < n → columns_from i c (n - c) ≡ Origin.taken (source i c ∷ []) ∷ columns_from i (c + 1) (n - (c + 1))
columns_next i c n h =
    let e : n - c ≡ suc (n - (c + 1)) = omega arith in
    let s : suc c ≡ c + 1 = omega arith in
    ap (columns_from i c) e ∙ ap (λ d. Origin.taken (source i c ∷ []) ∷ columns_from i d (n - (c + 1))) s

-- so far and what is left, after one column more
pub columns_step : (fields : List declared.Origin) (x : declared.Origin) (i c n : ℕ) → origin x ≡ Origin.taken (source i c ∷ []) → c < n
    → origins (fields ++ x ∷ []) ++ columns_from i (c + 1) (n - (c + 1)) ≡ origins fields ++ columns_from i c (n - c)
columns_step fields x i c n e h =
    let rest = columns_from i (c + 1) (n - (c + 1)) in
    ap (λ os. os ++ rest) (map-append origin fields (x ∷ [])) ∙ append_assoc (origins fields) (origin x ∷ []) rest
    ∙ ap (λ os. origins fields ++ os) (ap (λ o. o ∷ rest) e ∙ sym (columns_next i c n h))
