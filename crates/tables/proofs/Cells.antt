-- The cells of a record, by their places.
use Rattle.std.proofs.Common.{◌≡◌, ◌<◌, ◌≤◌, ◌+◌, ◌∙◌, ℕ, List, [], ◌∷◌, Some, length, get_or, take, take_all, ◌++◌, sym, ap, ap₂, arith, inl, inr}
use Rattle.std.specs.Prelude.{codes, slice_get}
use Rattle.std.proofs.lemmas.List.{length-append, map-append, take_more}
use Rattle.std.proofs.lemmas.Option.{get_or_from_slice_get, slice_get-get_or, slice_get_within}
use Rattle.csv_cells.specs.Texts.{HasText, IsAdded}
use Rattle.tables.specs.Dictionaries.{dictionary_rows}

-- one more cell of two lists that are equal so far
pub next-cell : (fields cells : List (List ℕ)) (i : ℕ) (cell : List ℕ) → i < length cells → cell ≡ get_or cells i [] → slice_get fields i ≡ Some cell
    → take i fields ≡ take i cells → take (i + 1) fields ≡ take (i + 1) cells
next-cell fields cells i cell lt at there same =
    let within : i < length fields = slice_get_within fields i cell there in
    let here : get_or fields i [] ≡ get_or cells i [] = get_or_from_slice_get fields i cell [] there ∙ at in
    take_more fields i [] within ∙ ap₂ (λ (t : List (List ℕ)) (x : List ℕ). t ++ x ∷ []) same here ∙ sym (take_more cells i [] lt)

-- each cell of equal lists
pub same-cell : (fields cells : List (List ℕ)) (i : ℕ) (cell : List ℕ) → i < length cells → cell ≡ get_or cells i [] → fields ≡ cells → slice_get fields i ≡ Some cell
same-cell fields cells i cell lt at same = ap (λ (t : List (List ℕ)). slice_get t i) same ∙ slice_get-get_or cells i [] lt ∙ ap Some (sym at)

-- and all of them
pub same-cells : (fields cells : List (List ℕ)) (i : ℕ) → length fields ≡ length cells → length cells ≤ i → take i fields ≡ take i cells → fields ≡ cells
same-cells fields cells i sized le same = sym (take_all i fields (omega (arith, sized, le))) ∙ same ∙ take_all i cells le

-- the only cell
pub one-cell : (cells : List (List ℕ)) (cell : List ℕ) → length cells ≡ 1 → slice_get cells 0 ≡ Some cell → cells ≡ cell ∷ []
one-cell [] cell n e = cc
one-cell (c ∷ []) cell n e = cc e
one-cell (c ∷ d ∷ cells) cell n e = absurd (omega arith)

-- a text that makes a dictionary longer is its last
pub last-added : (text : List ℕ) (old new : List (List ℕ)) → IsAdded text old new → length old < length new → new ≡ old ++ text ∷ []
last-added text old new (inl same) less = let e = ap length same.1 in absurd (omega arith)
last-added text old new (inr more) less = more.1

-- one more text of a dictionary's file
pub dictionary-push : (texts : List (List ℕ)) (text : List ℕ) → dictionary_rows (texts ++ text ∷ []) ≡ dictionary_rows texts ++ (text ∷ []) ∷ []
dictionary-push texts text = ap (λ (rows : List (List (List ℕ))). (codes "text" ∷ []) ∷ rows) (map-append (λ (t : List ℕ). t ∷ []) texts (text ∷ []))

-- a text that makes it no longer was there
pub not-added : (text : List ℕ) (old new : List (List ℕ)) → IsAdded text old new → length new ≤ length old → HasText text old
not-added text old new (inl same) less = same.0
not-added text old new (inr more) less = let e = ap length more.1 in absurd (omega (arith, e, length-append old (text ∷ [])))
