-- Lines that are too long to say anything.
use Rattle.std.proofs.Common.{◌≡◌, ◌≢◌, ◌<◌, ◌≤◌, ◌+◌, ◌*◌, ◌∙◌, ◌↔◌, ℕ, ℤ, suc, Bool, true, false, List, [], ◌∷◌, ◌++◌, Option, Some, None, length, take, drop, refl, sym, ap, arith, inl, inr, get_or, get_or-take, take-append-drop, length-take-le}
use Rattle.std.proofs.lemmas.Bool.Decides.{eqb_tells, leb_tells}
use Rattle.std.proofs.lemmas.Fmt.{length_signed_le}
use Rattle.std.proofs.lemmas.List.{length-append}
use Rattle.std.proofs.lemmas.List.Splits.{length-slice_split}
use Rattle.std.specs.Prelude.{◌==◌, IfNone, IfSome, IsTrue, is_some, not}
use Rattle.semantics.specs.Query.{Input}
use Rattle.decimal.proofs.Numbers.{fits_mag}
use Rattle.collector.specs.Pieces.{split_on}
use Rattle.collector.specs.Lines.{AreNumbers, Item, Says}
use Rattle.collector.proofs.Splits.{split_none, split_some, step, stop}
use Rattle.follow.specs.Follows.{IsTooLong}
use Rattle.follow.proofs.Cuts.{glued, has_piece, split_glued}

first_short : (bs : List ℕ) → (p : List ℕ) (ps : List (List ℕ)) → split_on 10 bs ≡ p ∷ ps → length p ≤ length bs
first_short [] p ps e = let f : [] ≡ p = cc in (let n = ap length f in omega (arith, n))
first_short (b ∷ bs) p ps e = elim (eqb_tells b 10) [
  | inl same ↦ let s = sym (stop 10 b bs same.1) ∙ e in let f : [] ≡ p = cc in (let n = ap length f in omega (arith, n))
  | inr other ↦ let (q, qs, h) = has_piece bs in let s = sym (step 10 b bs q qs other.1 h) ∙ e in let f : (b ∷ q) ≡ p = cc in
      (let n = ap length f in let l = first_short bs q qs h in omega (arith, n, l))
]

first_at_most : (bs : List ℕ) → length bs ≤ 368 → (ps : List (List ℕ)) → split_on 10 bs ≡ ps → IsTooLong ps → ⊥
first_at_most bs short [] e long = long
first_at_most bs short (p ∷ ps) e long = let l = first_short bs p ps e in omega (arith, l, short, long)

-- a text that is short enough begins with no line that is too long
pub not_long : (bs : List ℕ) → length bs ≤ 368 → IsTooLong (split_on 10 bs) → ⊥
not_long bs short long = first_at_most bs short (split_on 10 bs) refl long

-- what isn't too long and has no line feed is short enough
pub short_rest : (bs : List ℕ) (b : Bool) → split_on 10 bs ≡ bs ∷ [] → IsTrue b ↔ IsTooLong (split_on 10 bs) → b ≡ false → length bs ≤ 368
short_rest bs b none told no_way = elim (leb_tells (length bs) 368) [
  | inl le ↦ le.1
  | inr more ↦ let long : IsTooLong (split_on 10 bs) = rw none (omega (arith, more.1)) in let yes_way : b ≡ true = told.1 long in absurd (let f : false ≡ true = sym no_way ∙ yes_way in cc)
]

-- nor does one with a line feed soon enough
not_long_at : (bs : List ℕ) (i : ℕ) → 369 ≤ length bs → i < length (take 369 bs) → get_or (take 369 bs) i 0 ≡ 10 → ((k : ℕ) → k < i → get_or (take 369 bs) k 0 ≢ 10) → IsTooLong (split_on 10 bs) → ⊥
not_long_at bs i within lt at before long =
    let few : i < 369 = let n = length-take-le 369 bs within in omega (arith, n, lt) in
    let read : (k : ℕ) → k < 369 → get_or (take 369 bs) k 0 ≡ get_or bs k 0 = λ k l. get_or-take 369 bs k 0 l in
    let cut = split_some 10 bs i (omega (arith, few, within)) (sym (read i few) ∙ at) (λ k l e. before k l (read k (omega (arith, l, few)) ∙ e)) in
    let size = length-take-le i bs (omega (arith, few, within)) in
    let h : IsTooLong (take i bs ∷ split_on 10 (drop (suc i) bs)) = rw cut at long in
    omega (arith, h, size, few)

front_long : (front back : List ℕ) → 368 < length front → split_on 10 front ≡ front ∷ [] → IsTooLong (split_on 10 (front ++ back))
front_long front back long none =
    let (q, qs, h) = has_piece back in
    let parts : split_on 10 (front ++ back) ≡ (front ++ q) ∷ qs = split_glued front back ∙ ap (λ (ps : List (List ℕ)). glued ps (split_on 10 back)) none ∙ ap (λ (ps : List (List ℕ)). glued (front ∷ []) ps) h in
    rw parts (let n = length-append front q in omega (arith, n, long))

-- one without a line feed for so many bytes does
long_front : (bs : List ℕ) → 369 ≤ length bs → ((k : ℕ) → k < length (take 369 bs) → get_or (take 369 bs) k 0 ≢ 10) → IsTooLong (split_on 10 bs)
long_front bs within none =
    let size = length-take-le 369 bs within in
    let h = front_long (take 369 bs) (drop 369 bs) (omega (arith, size)) (split_none 10 (take 369 bs) none) in
    rw (take-append-drop 369 bs) at h

-- what the first place of a line feed says of it
pub told_long : (bs : List ℕ) (found : Option ℕ) (b : Bool) → 369 ≤ length bs → is_some found ≡ not b
    → IfSome found (λ (i : ℕ). (i < length (take 369 bs)) × (get_or (take 369 bs) i 0 ≡ 10) × ((k : ℕ) → k < i → get_or (take 369 bs) k 0 ≢ 10))
    → IfNone found ((k : ℕ) → k < length (take 369 bs) → get_or (take 369 bs) k 0 ≢ 10) → IsTrue b ↔ IsTooLong (split_on 10 bs)
told_long bs None true within is at nowhere = ((λ t. long_front bs within nowhere), (λ l. refl))
told_long bs None false within is at nowhere = cc is
told_long bs (Some i) true within is at nowhere = cc is
told_long bs (Some i) false within is at nowhere = ((λ t. cc t), (λ l. absurd (not_long_at bs i within at.0 at.1 at.2 l)))

-- ---- a line that says something is short

-- the bytes of words, and one more for each
abbrev total : List (List ℕ) → ℕ
total [] = 0
total (word ∷ words) = length word + suc (total words)

words_more : (b : ℕ) (bs : List ℕ) (ws : List (List ℕ)) → split_on 32 bs ≡ ws → b ≢ 32 → total (split_on 32 bs) ≡ suc (length bs) → total (split_on 32 (b ∷ bs)) ≡ suc (suc (length bs))
words_more b bs [] e other so = absurd (let n = length-slice_split (λ b. b == 32) bs in let m = ap length e in omega (arith, n, m))
words_more b bs (w ∷ ws) e other so = let a = ap total (step 32 b bs w ws other e) in let c = ap total e in omega (arith, a, c, so)

words_total : (bs : List ℕ) → total (split_on 32 bs) ≡ suc (length bs)
words_total [] = refl
words_total (b ∷ bs) = elim (eqb_tells b 32) [
  | inl same ↦ let a = ap total (stop 32 b bs same.1) in let so = words_total bs in omega (arith, a, so)
  | inr other ↦ words_more b bs (split_on 32 bs) refl other.1 (words_total bs)
]

numbers_total : (words : List (List ℕ)) (zs : List ℤ) → AreNumbers words zs → total words ≤ 21 * length zs
numbers_total [] [] numbers = omega arith
numbers_total [] (z ∷ zs) numbers = absurd numbers
numbers_total (word ∷ words) [] numbers = absurd numbers
numbers_total (word ∷ words) (z ∷ zs) numbers =
    let fits = fits_mag z numbers.0.0 in
    let l = length_signed_le 19 z (omega (arith, fits)) (omega (arith, fits)) in
    let n = ap length numbers.0.1 in
    let rest = numbers_total words zs numbers.1 in
    omega (arith, l, n, rest)

-- a line that says something isn't too long
pub short_line : (inputs : List Input) (epochs : ℕ) (line : List ℕ) (item : Item) → Says inputs epochs line item → length line ≤ 368
short_line inputs epochs line Item.epoch says = let n : length line ≡ 5 = ap length says.0 in omega (arith, n)
short_line inputs epochs line (Item.row i zs) (name, words, has, some, there, made, numbers) =
    let all = sym (words_total line) ∙ ap total has.words in
    let few = numbers_total words zs numbers in
    let width = made.1 in
    omega (arith, all, few, width, has.spelled.2)
