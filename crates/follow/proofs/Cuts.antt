-- The pieces of a text that grows.
use Rattle.std.proofs.Common.{◌≡◌, ◌<◌, ◌∙◌, ℕ, Bool, true, false, List, [], ◌∷◌, ◌++◌, length, cond, refl, sym, ap, arith}
use Rattle.std.specs.List.{onto_first}
use Rattle.std.specs.Prelude.{◌==◌}
use Rattle.std.proofs.lemmas.List.Splits.{length-slice_split}
use Rattle.collector.specs.Pieces.{split_on}

-- the pieces of two texts, one after the other: the last piece of the one goes on with the first of the other
abbrev pub glued : List (List ℕ) → List (List ℕ) → List (List ℕ)
glued [] qs = qs
glued (p ∷ []) [] = p ∷ []
glued (p ∷ []) (q ∷ qs) = (p ++ q) ∷ qs
glued (p ∷ next ∷ ps) qs = p ∷ glued (next ∷ ps) qs

pub has_piece : (bs : List ℕ) → (p : List ℕ) × (ps : List (List ℕ)) × (split_on 10 bs ≡ p ∷ ps)
has_piece bs = found (split_on 10 bs) refl
  where
    found : (xs : List (List ℕ)) → split_on 10 bs ≡ xs → (p : List ℕ) × (ps : List (List ℕ)) × (split_on 10 bs ≡ p ∷ ps)
    found [] e = absurd (let n = length-slice_split (λ b. b == 10) bs in let m = ap length e in omega (arith, n, m))
    found (p ∷ ps) e = (p, ps, e)

onto_glued : (b : ℕ) (ps qs : List (List ℕ)) → 0 < length ps → onto_first b (glued ps qs) ≡ glued (onto_first b ps) qs
onto_glued b [] qs some = absurd (omega arith)
onto_glued b (p ∷ []) [] some = refl
onto_glued b (p ∷ []) (q ∷ qs) some = refl
onto_glued b (p ∷ next ∷ ps) qs some = refl

first_glued : (ps qs : List (List ℕ)) → 0 < length ps → [] ∷ glued ps qs ≡ glued ([] ∷ ps) qs
first_glued [] qs some = absurd (omega arith)
first_glued (p ∷ ps) qs some = refl

by_byte : (t : Bool) (b : ℕ) (ps qs : List (List ℕ)) → 0 < length ps → cond t ([] ∷ glued ps qs) (onto_first b (glued ps qs)) ≡ glued (cond t ([] ∷ ps) (onto_first b ps)) qs
by_byte true b ps qs some = first_glued ps qs some
by_byte false b ps qs some = onto_glued b ps qs some

nothing_glued : (bs : List ℕ) → split_on 10 bs ≡ glued ([] ∷ []) (split_on 10 bs)
nothing_glued bs = let h = has_piece bs in h.2 ∙ sym (ap (glued ([] ∷ [])) h.2)

pub split_glued : (as' bs : List ℕ) → split_on 10 (as' ++ bs) ≡ glued (split_on 10 as') (split_on 10 bs)
split_glued [] bs = nothing_glued bs
split_glued (a ∷ as') bs =
    let some : 0 < length (split_on 10 as') = omega (arith, length-slice_split (λ b. b == 10) as') in
    ap (λ (ps : List (List ℕ)). cond (a == 10) ([] ∷ ps) (onto_first a ps)) (split_glued as' bs) ∙ by_byte (a == 10) a (split_on 10 as') (split_on 10 bs) some

lines_glued : (lines ps qs : List (List ℕ)) → 0 < length ps → glued (lines ++ ps) qs ≡ lines ++ glued ps qs
lines_glued [] ps qs some = refl
lines_glued (l ∷ []) [] qs some = absurd (omega arith)
lines_glued (l ∷ []) (p ∷ ps) qs some = refl
lines_glued (l ∷ next ∷ lines) ps qs some = ap (λ (xs : List (List ℕ)). l ∷ xs) (lines_glued (next ∷ lines) ps qs some)

-- more bytes after those that aren't read yet
pub more_bytes : (text rest piece : List ℕ) (lines : List (List ℕ)) → split_on 10 text ≡ lines ++ split_on 10 rest → split_on 10 (text ++ piece) ≡ lines ++ split_on 10 (rest ++ piece)
more_bytes text rest piece lines e =
    let some : 0 < length (split_on 10 rest) = omega (arith, length-slice_split (λ b. b == 10) rest) in
    split_glued text piece ∙ ap (λ (ps : List (List ℕ)). glued ps (split_on 10 piece)) e ∙ lines_glued lines (split_on 10 rest) (split_on 10 piece) some ∙ ap (λ (ps : List (List ℕ)). lines ++ ps) (sym (split_glued rest piece))

-- two texts without a line feed
pub unended_both : (rest piece : List ℕ) → split_on 10 rest ≡ rest ∷ [] → split_on 10 piece ≡ piece ∷ [] → split_on 10 (rest ++ piece) ≡ (rest ++ piece) ∷ []
unended_both rest piece e f = split_glued rest piece ∙ ap (λ (ps : List (List ℕ)). glued ps (split_on 10 piece)) e ∙ ap (λ (qs : List (List ℕ)). glued (rest ∷ []) qs) f
