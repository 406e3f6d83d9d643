-- The list of different summaries grows at its end, so codes keep their meaning.
use Rattle.std.proofs.Common.{◌≡◌, ◌⊎◌, inl, inr, ℕ, zero, suc, ◌+◌, ◌≤◌, ◌<◌, List, [], ◌∷◌, ◌++◌, length, Option, Some, None, slice_get, slice_set, slice_index_or, refl, sym, ap, ap₂, ◌∙◌, arith, append-nil, append_assoc, length-append}
use Rattle.std.proofs.Math.ListN.{replicate}
use Rattle.semantics.specs.Summary.{Summary}
use Rattle.path_summary.specs.Rows.{entry}
use Rattle.path_summary.specs.Codes.{decoded, row_of, AreCodes, Grows}

get-append : (xs ys : List Summary) (i : ℕ) → i < length xs → slice_get (xs ++ ys) i ≡ slice_get xs i
get-append [] ys i h = absurd (omega arith)
get-append (x ∷ xs) ys zero h = refl
get-append (x ∷ xs) ys (suc i) h = get-append xs ys i (omega arith)

get-last : (xs : List Summary) (y : Summary) → slice_get (xs ++ (y ∷ [])) (length xs) ≡ Some y
get-last [] y = refl
get-last (x ∷ xs) y = get-last xs y

get_below : (xs : List Summary) (i : ℕ) (x : Summary) → slice_get xs i ≡ Some x → i < length xs
get_below [] zero x h = absurd (let e = h in cc)
get_below [] (suc i) x h = absurd (let e = h in cc)
get_below (y ∷ xs) zero x h = omega arith
get_below (y ∷ xs) (suc i) x h = let k = get_below xs i x h in omega arith

get_there : (xs : List Summary) (i : ℕ) → i < length xs → (x : Summary) × (slice_get xs i ≡ Some x)
get_there [] i h = absurd (omega arith)
get_there (y ∷ xs) zero h = (y, refl)
get_there (y ∷ xs) (suc i) h = get_there xs i (omega arith)

-- ---- codes

decoded_more : (old new : List Summary) (c : ℕ) → Grows old new → c ≤ length old → decoded new c ≡ decoded old c
decoded_more old new zero g h = refl
decoded_more old new (suc c) g h = ap (λ (l : List Summary). slice_get l c) g.is ∙ get-append old g.more c (omega arith)

-- a code of a summary is one of the list's
pub decoded_within : (summaries : List Summary) (c : ℕ) (f : Summary) → decoded summaries c ≡ Some f → c ≤ length summaries
decoded_within summaries zero f h = omega arith
decoded_within summaries (suc c) f h = let k = get_below summaries c f h in omega arith

-- a code keeps its summary when the list grows
pub decoded_still : (old new : List Summary) (c : ℕ) (f : Summary) → Grows old new → decoded old c ≡ Some f → decoded new c ≡ Some f
decoded_still old new c f g h = decoded_more old new c g (decoded_within old c f h) ∙ h

-- each code of the list has a summary
pub decoded_some : (summaries : List Summary) (c : ℕ) → 0 < c → c ≤ length summaries → (f : Summary) × (decoded summaries c ≡ Some f)
decoded_some summaries zero p h = absurd (omega arith)
decoded_some summaries (suc c) p h = get_there summaries c (omega arith)

pub grows_none : (old : List Summary) → Grows old old
grows_none old = record { more = []; is = sym (append-nil old) }

pub grows_one : (old new : List Summary) (f : Summary) → new ≡ old ++ (f ∷ []) → Grows old new
grows_one old new f e = record { more = f ∷ []; is = e }

pub grows_on : (a b c : List Summary) → Grows a b → Grows b c → Grows a c
grows_on a b c g h = record { more = g.more ++ h.more; is = h.is ∙ ap (λ (l : List Summary). l ++ h.more) g.is ∙ append_assoc a g.more h.more }

pub grows_length : (old new : List Summary) → Grows old new → length old ≤ length new
grows_length old new g = omega (arith, ap length g.is, length-append old g.more)

pub last_code : (old new : List Summary) (f : Summary) (c : ℕ) → new ≡ old ++ (f ∷ []) → c ≡ length new → decoded new c ≡ Some f
last_code old new f c e m =
    let q : c ≡ suc (length old) = omega (arith, ap length e, length-append old (f ∷ [])) in
    ap (decoded new) q ∙ ap (λ (l : List Summary). slice_get l (length old)) e ∙ get-last old f

pub found_code : (summaries : List Summary) (f x : Summary) (i c : ℕ) → i < length summaries → x ≡ slice_index_or summaries i x → x ≡ f → c ≡ i + 1 → decoded summaries c ≡ Some f
found_code summaries f x i c h e k m =
    let q : c ≡ suc i = omega arith in
    ap (decoded summaries) q ∙ go summaries i h e ∙ ap (λ (z : Summary). Some z) k
  where
    go : (xs : List Summary) (i : ℕ) → i < length xs → x ≡ slice_index_or xs i x → slice_get xs i ≡ Some x
    go [] i h e = absurd (omega arith)
    go (y ∷ xs) zero h e = ap (λ z. Some z) (sym e)
    go (y ∷ xs) (suc i) h e = go xs i (omega arith) e

-- ---- rows of codes

-- the entry of a row, by the code at its place
pub entry_row : (summaries : List Summary) (codes : List ℕ) (x : ℕ) → entry (row_of summaries codes) x ≡ decoded summaries (slice_index_or codes x 0)
entry_row summaries [] zero = refl
entry_row summaries [] (suc x) = refl
entry_row summaries (c ∷ codes) zero = refl
entry_row summaries (c ∷ codes) (suc x) = entry_row summaries codes x

pub row_set : (summaries : List Summary) (codes : List ℕ) (i c : ℕ) → row_of summaries (slice_set codes i c) ≡ slice_set (row_of summaries codes) i (decoded summaries c)
row_set summaries [] i c = refl
row_set summaries (d ∷ codes) zero c = refl
row_set summaries (d ∷ codes) (suc i) c = ap (λ (row : List (Option Summary)). decoded summaries d ∷ row) (row_set summaries codes i c)

-- a row keeps its entries when the list grows
pub row_grown : (old new : List Summary) (codes : List ℕ) → Grows old new → AreCodes old codes → row_of new codes ≡ row_of old codes
row_grown old new codes g a = go codes a.within
  where
    go : (codes : List ℕ) → ((x : ℕ) → slice_index_or codes x 0 ≤ length old) → row_of new codes ≡ row_of old codes
    go [] h = refl
    go (c ∷ codes) h = ap₂ (λ (o : Option Summary) (row : List (Option Summary)). o ∷ row) (decoded_more old new c g (h zero)) (go codes (λ x. h (suc x)))

pub codes_grown : (old new : List Summary) (codes : List ℕ) → Grows old new → AreCodes old codes → AreCodes new codes
codes_grown old new codes g a = record { within = λ x. let h = a.within x in let k = grows_length old new g in omega arith }

-- the entries of codes of which one was set
pub code_set : (codes : List ℕ) (i c x : ℕ) → (slice_index_or (slice_set codes i c) x 0 ≡ slice_index_or codes x 0) ⊎ ((x ≡ i) × (slice_index_or (slice_set codes i c) x 0 ≡ c))
code_set [] i c x = inl refl
code_set (d ∷ codes) zero c zero = inr (refl, refl)
code_set (d ∷ codes) zero c (suc x) = inl refl
code_set (d ∷ codes) (suc i) c zero = inl refl
code_set (d ∷ codes) (suc i) c (suc x) = go (code_set codes i c x)
  where
    go : (slice_index_or (slice_set codes i c) x 0 ≡ slice_index_or codes x 0) ⊎ ((x ≡ i) × (slice_index_or (slice_set codes i c) x 0 ≡ c)) → (slice_index_or (slice_set codes i c) x 0 ≡ slice_index_or codes x 0) ⊎ ((suc x ≡ suc i) × (slice_index_or (slice_set codes i c) x 0 ≡ c))
    go (inl e) = inl e
    go (inr a) = inr (ap suc a.0, a.1)

pub codes_put : (summaries : List Summary) (codes : List ℕ) (i c : ℕ) → AreCodes summaries codes → c ≤ length summaries → AreCodes summaries (slice_set codes i c)
codes_put summaries codes i c a h = record { within = λ x. go x (code_set codes i c x) }
  where
    go : (x : ℕ) → (slice_index_or (slice_set codes i c) x 0 ≡ slice_index_or codes x 0) ⊎ ((x ≡ i) × (slice_index_or (slice_set codes i c) x 0 ≡ c)) → slice_index_or (slice_set codes i c) x 0 ≤ length summaries
    go x (inl e) = let k = a.within x in omega arith
    go x (inr e) = let k = e.1 in omega arith

-- the code at a place
abbrev pub code_in : List ℕ → ℕ → ℕ
code_in codes x = slice_index_or codes x 0

pub nothing_at : (x : ℕ) → code_in [] x ≡ 0
nothing_at zero = refl
nothing_at (suc x) = refl

zero_at : (n x : ℕ) → code_in (replicate n 0) x ≡ 0
zero_at zero x = nothing_at x
zero_at (suc n) zero = refl
zero_at (suc n) (suc x) = zero_at n x

pub codes_none : (summaries : List Summary) (n : ℕ) → AreCodes summaries (replicate n 0)
codes_none summaries n = record { within = λ x. let e = zero_at n x in omega arith }

-- there is no entry
pub none_there : (summaries : List Summary) (n x : ℕ) → entry (row_of summaries (replicate n 0)) x ≡ None
none_there summaries n x = entry_row summaries (replicate n 0) x ∙ ap (decoded summaries) (zero_at n x)
