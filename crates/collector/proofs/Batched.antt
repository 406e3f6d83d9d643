-- Rows in batches, in which equal records are stored once.
use Rattle.std.proofs.Common.{◌≡◌, ◌∙◌, ℕ, zero, suc, List, [], ◌∷◌, ◌++◌, length, map, get_or, refl, sym, ap, subst, arith}
use Rattle.std.proofs.lemmas.List.{append-nil, length-append, map_push}
use Rattle.semantics.specs.Multiset.{◌≈◌}
use Rattle.semantics.proofs.MultisetSums.{append_same, ≈-from, ≈-refl, ≈-trans}
use Rattle.rows.specs.FlatRows.{RowList, joined}
use Rattle.rows.proofs.Joined.{joined_behind}
use Rattle.collector.specs.Piles.{AreAlike, piled}
use Rattle.collector.proofs.Piles.{Records, piled_push}

-- one more batch, of more rows
pub batch_put : (bs bs' : List Records) (lists : List RowList) (rows : RowList) (batch : Records) → joined bs ≈ piled lists → bs' ≡ bs ++ batch ∷ [] → batch ≈ rows.rows → joined bs' ≈ piled (lists ++ rows ∷ [])
batch_put bs bs' lists rows batch h e same =
    ≈-trans (≈-from (ap joined e ∙ joined_behind bs batch)) (≈-trans (append_same (joined bs) (piled lists) batch rows.rows h same) (≈-from (sym (piled_push lists rows))))

-- no batch for no rows
pub none_put : (bs : List Records) (lists : List RowList) (rows : RowList) → joined bs ≈ piled lists → [] ≈ rows.rows → joined bs ≈ piled (lists ++ rows ∷ [])
none_put bs lists rows h same = ≈-trans (≈-from (sym (append-nil (joined bs)))) (≈-trans (append_same (joined bs) (piled lists) [] rows.rows h same) (≈-from (sym (piled_push lists rows))))

alike_at : (xs ys : List Records) (x y : Records) → length xs ≡ length ys → ((k : ℕ) → get_or xs k [] ≈ get_or ys k []) → x ≈ y → (k : ℕ) → get_or (xs ++ x ∷ []) k [] ≈ get_or (ys ++ y ∷ []) k []
alike_at [] [] x y size h same zero = same
alike_at [] [] x y size h same (suc k) = ≈-refl []
alike_at [] (b ∷ ys) x y size h same k = absurd (omega (arith, size))
alike_at (a ∷ xs) [] x y size h same k = absurd (omega (arith, size))
alike_at (a ∷ xs) (b ∷ ys) x y size h same zero = h zero
alike_at (a ∷ xs) (b ∷ ys) x y size h same (suc k) = alike_at xs ys x y (omega (arith, size)) (λ j. h (suc j)) same k

-- one more epoch
pub alike_push : (xs ys : List Records) (x y : Records) → AreAlike xs ys → x ≈ y → AreAlike (xs ++ x ∷ []) (ys ++ y ∷ [])
alike_push xs ys x y h same = record {
  size = let a = length-append xs (x ∷ []) in let b = length-append ys (y ∷ []) in omega (arith, a, b, h.size);
  each = alike_at xs ys x y h.size h.each same;
}

pub epoch_put : {V W : Type 0} (f : V → Records) (g : W → Records) (vs vs' : List V) (ws : List W) (v : V) (w : W) → AreAlike (map f vs) (map g ws) → vs' ≡ vs ++ v ∷ [] → f v ≈ g w → AreAlike (map f vs') (map g (ws ++ w ∷ []))
epoch_put f g vs vs' ws v w h e same =
    subst (AreAlike (map f vs')) (sym (map_push g ws w)) (subst (λ (xs : List Records). AreAlike xs (map g ws ++ g w ∷ [])) (sym (ap (map f) e ∙ map_push f vs v)) (alike_push (map f vs) (map g ws) (f v) (g w) h same))

none_alike : AreAlike [] []
none_alike = record { size = refl; each = λ k. ≈-refl [] }

-- one more input
pub inputs_alike : (xs ys : List (List Records)) (x y : List Records) → length xs ≡ length ys → ((k : ℕ) → AreAlike (get_or xs k []) (get_or ys k [])) → AreAlike x y → (k : ℕ) → AreAlike (get_or (xs ++ x ∷ []) k []) (get_or (ys ++ y ∷ []) k [])
inputs_alike [] [] x y size h same zero = same
inputs_alike [] [] x y size h same (suc k) = none_alike
inputs_alike [] (b ∷ ys) x y size h same k = absurd (omega (arith, size))
inputs_alike (a ∷ xs) [] x y size h same k = absurd (omega (arith, size))
inputs_alike (a ∷ xs) (b ∷ ys) x y size h same zero = h zero
inputs_alike (a ∷ xs) (b ∷ ys) x y size h same (suc k) = inputs_alike xs ys x y (omega (arith, size)) (λ j. h (suc j)) same k
