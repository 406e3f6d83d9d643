-- The table of keywords: the place of each, and what a search through a part of it shows.
use Rattle.std.proofs.Common.{◌≡◌, ◌≢◌, ◌<◌, ◌+◌, ◌∙◌, ℕ, List, [], ◌∷◌, true, false, Some, refl, sym, ap, arith, get_or, inl, inr, cond}
use Rattle.std.specs.Prelude.{slice_get}
use Rattle.std.specs.Str.{bytes_eq}
use Rattle.std.proofs.lemmas.Option.{get_or_from_slice_get}
use Rattle.std.proofs.lemmas.Bool.{cases_lt}
use Rattle.std.proofs.lemmas.Slice.Eq.{bytes_eq-Decides}
use Rattle.record_core.specs.declared.keyword.Keyword.{Keyword}
use Rattle.record_core.specs.declared.keyword.Keyword.TheVariants.{Input, Let, Output, Select, Where, Concat, Join, Group, Distinct, Except, Intersect, Iterate, Count, Sum, Min, Max, And, Or, Not, Epoch}
use Rattle.record_core.specs.declared.keyword.TheConstants.{KEYWORDS}
use Rattle.record_core.specs.Names.{keyword_text}

differs : (a b : List ℕ) → bytes_eq a b ≡ false → a ≡ b → ⊥
differs a b f e = let t : bytes_eq a b ≡ true = (bytes_eq-Decides a b).1 e in cc

-- one more keyword isn't the word
pub not_there : (ks : List Keyword) (word text : List ℕ) (n : ℕ) → ((k : Keyword) (i : ℕ) → i < n → slice_get ks i ≡ Some k → word ≢ keyword_text k)
    → text ≡ keyword_text (get_or ks n Input) → bytes_eq text word ≡ false
    → (k : Keyword) (i : ℕ) → i < n + 1 → slice_get ks i ≡ Some k → word ≢ keyword_text k
not_there ks word text n before e f k i lt at is = elim (cases_lt i n) [
  | inl less ↦ before k i less at is
  | inr ge ↦
      let same : i ≡ n = omega arith in
      let here : get_or ks i Input ≡ k = get_or_from_slice_get ks i k Input at in
      differs text word f (e ∙ ap (λ (j : ℕ). keyword_text (get_or ks j Input)) (sym same) ∙ ap keyword_text here ∙ sym is)
]

-- the place of a keyword in the table
pub place : (k : Keyword) → (i : ℕ) × (i < 20) × (slice_get KEYWORDS i ≡ Some k)
place Input = (0, omega arith, refl)
place Let = (1, omega arith, refl)
place Output = (2, omega arith, refl)
place Select = (3, omega arith, refl)
place Where = (4, omega arith, refl)
place Concat = (5, omega arith, refl)
place Join = (6, omega arith, refl)
place Group = (7, omega arith, refl)
place Distinct = (8, omega arith, refl)
place Except = (9, omega arith, refl)
place Intersect = (10, omega arith, refl)
place Iterate = (11, omega arith, refl)
place Count = (12, omega arith, refl)
place Sum = (13, omega arith, refl)
place Min = (14, omega arith, refl)
place Max = (15, omega arith, refl)
place And = (16, omega arith, refl)
place Or = (17, omega arith, refl)
place Not = (18, omega arith, refl)
place Epoch = (19, omega arith, refl)

-- the first keyword of a table with a spelling
abbrev keyword_at : List ℕ → List Keyword → Keyword
keyword_at word [] = Input
keyword_at word (k ∷ ks) = cond (bytes_eq word (keyword_text k)) k (keyword_at word ks)

found_back : (k : Keyword) → keyword_at (keyword_text k) KEYWORDS ≡ k
found_back Input = refl
found_back Let = refl
found_back Output = refl
found_back Select = refl
found_back Where = refl
found_back Concat = refl
found_back Join = refl
found_back Group = refl
found_back Distinct = refl
found_back Except = refl
found_back Intersect = refl
found_back Iterate = refl
found_back Count = refl
found_back Sum = refl
found_back Min = refl
found_back Max = refl
found_back And = refl
found_back Or = refl
found_back Not = refl
found_back Epoch = refl

-- no two keywords are spelled alike
pub keyword_text-injective : (j k : Keyword) → keyword_text j ≡ keyword_text k → j ≡ k
keyword_text-injective j k e = sym (found_back j) ∙ ap (λ (word : List ℕ). keyword_at word KEYWORDS) e ∙ found_back k
