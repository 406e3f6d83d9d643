-- Where one word ends and what follows begins.
use Rattle.std.proofs.Common.{◌≡◌, ℕ, suc, ◌<◌, ◌^◌, Bool, true, false, List, [], ◌∷◌, ◌++◌, ℤ, pos, negsuc, refl, sym, ap, ap₂, subst, ◌∙◌, ◌⊎◌, inl, inr, length, get_or, append_assoc, arith, decimal}
use Rattle.std.specs.List.{list_all}
use Rattle.std.specs.Int.{IsInRange}
use Rattle.std.specs.Int.Signed.{mag}
use Rattle.std.specs.Fmt.{signed_decimal}
use Rattle.std.specs.Str.Parse.{AllDigits}
use Rattle.std.proofs.lemmas.Bool.{and_parts}
use Rattle.std.proofs.lemmas.Bool.Decides.{nat_tests}
use Rattle.std.proofs.lemmas.Fmt.{digits_decimal, decimal_injective, decimal_nonempty}
use Rattle.std.proofs.lemmas.Str.Parse.{numerals_by_value, tells_digits, digit_from_value}
use Rattle.record_core.specs.Names.{is_digit}

abbrev pub Text : Type 0
Text = List ℕ

-- the text doesn't begin with a byte of this kind
abbrev pub Stops : (ℕ → Bool) → Text → Type 0
Stops p [] = Unit {0}
Stops p (c ∷ cs) = p c ≡ false

pub head_same : (x y : ℕ) (xs ys : Text) → x ∷ xs ≡ y ∷ ys → x ≡ y
head_same x y xs ys e = cc

pub tail_same : (x y : ℕ) (xs ys : Text) → x ∷ xs ≡ y ∷ ys → xs ≡ ys
tail_same x y xs ys e = cc

-- the same text before both
pub cancel : (k r s : Text) → k ++ r ≡ k ++ s → r ≡ s
cancel [] r s e = e
cancel (c ∷ k) r s e = cancel k r s (tail_same c c (k ++ r) (k ++ s) e)

pub both_ways : (b : Bool) → b ≡ true → b ≡ false → ⊥
both_ways b t f = cc

-- two runs of bytes of one kind, each up to a byte of another kind
pub runs : (p : ℕ → Bool) (a b r s : Text) → list_all p a ≡ true → list_all p b ≡ true → Stops p r → Stops p s → a ++ r ≡ b ++ s → (a ≡ b) × (r ≡ s)
runs p [] [] r s f g h k e = (refl, e)
runs p [] (c ∷ b) r s f g h k e = absurd (both_ways (p c) (and_parts _ _ g).0 (subst (Stops p) e h))
runs p (c ∷ a) [] r s f g h k e = absurd (both_ways (p c) (and_parts _ _ f).0 (subst (Stops p) (sym e) k))
runs p (c ∷ a) (d ∷ b) r s f g h k e =
    let first : c ≡ d = head_same c d (a ++ r) (b ++ s) e in
    let rest : (a ≡ b) × (r ≡ s) = runs p a b r s (and_parts _ _ f).1 (and_parts _ _ g).1 h k (tail_same c d (a ++ r) (b ++ s) e) in
    (ap₂ (λ (x : ℕ) (xs : Text). x ∷ xs) first rest.0, rest.1)

-- ---- numerals

digit_passes : (b : ℕ) → IsInRange 48 57 b → is_digit b ≡ true
digit_passes b h = grind (arith, nat_tests)

digits_pass : (bs : Text) → AllDigits 10 bs → list_all is_digit bs ≡ true
digits_pass [] a = refl
digits_pass (b ∷ bs) a = rw (digit_passes b (digit_from_value b a.0)) (digits_pass bs a.1)

pub decimal_digits : (n : ℕ) → n < 2 ^ 64 → list_all is_digit (decimal n) ≡ true
decimal_digits n lt = digits_pass (decimal n) (digits_decimal (numerals_by_value (AllDigits 10) tells_digits) n lt)

-- the text doesn't begin with a digit
abbrev pub Ends : Text → Type 0
Ends r = Stops is_digit r

pub read_decimal : (m n : ℕ) (r s : Text) → m < 2 ^ 64 → n < 2 ^ 64 → Ends r → Ends s → decimal m ++ r ≡ decimal n ++ s → (m ≡ n) × (r ≡ s)
read_decimal m n r s f g h k e =
    let both : (decimal m ≡ decimal n) × (r ≡ s) = runs is_digit (decimal m) (decimal n) r s (decimal_digits m f) (decimal_digits n g) h k e in
    (decimal_injective m n f g both.0, both.1)

-- a text that isn't empty begins with its own first byte
first_of_run : (p : ℕ → Bool) (ds r : Text) → 0 < length ds → list_all p ds ≡ true → p (get_or (ds ++ r) 0 0) ≡ true
first_of_run p [] r some f = absurd (omega arith)
first_of_run p (d ∷ ds) r some f = (and_parts _ _ f).0

pub decimal_first : (n : ℕ) (r : Text) → n < 2 ^ 64 → is_digit (get_or (decimal n ++ r) 0 0) ≡ true
decimal_first n r h = first_of_run is_digit (decimal n) r (decimal_nonempty n h) (decimal_digits n h)

pub signed_first : (z : ℤ) (r : Text) → mag z < 2 ^ 63 → (is_digit (get_or (signed_decimal z ++ r) 0 0) ≡ true) ⊎ (get_or (signed_decimal z ++ r) 0 0 ≡ 45)
signed_first (pos n) r h = inl (decimal_first n r (omega arith))
signed_first (negsuc n) r h = inr refl

no_minus : (n : ℕ) (r s : Text) → n < 2 ^ 64 → decimal n ++ r ≡ 45 ∷ s → ⊥
no_minus n r s h e = both_ways (is_digit 45) (sym (ap (λ t. is_digit (get_or t 0 0)) e) ∙ decimal_first n r h) refl

pub read_signed : (y z : ℤ) (r s : Text) → mag y < 2 ^ 63 → mag z < 2 ^ 63 → Ends r → Ends s → signed_decimal y ++ r ≡ signed_decimal z ++ s → (y ≡ z) × (r ≡ s)
read_signed (pos m) (pos n) r s f g h k e =
    let both : (m ≡ n) × (r ≡ s) = read_decimal m n r s (omega arith) (omega arith) h k e in
    (ap pos both.0, both.1)
read_signed (pos m) (negsuc n) r s f g h k e = absurd (no_minus m r (decimal (suc n) ++ s) (omega arith) e)
read_signed (negsuc m) (pos n) r s f g h k e = absurd (no_minus n s (decimal (suc m) ++ r) (omega arith) (sym e))
read_signed (negsuc m) (negsuc n) r s f g h k e =
    let both : (suc m ≡ suc n) × (r ≡ s) = read_decimal (suc m) (suc n) r s (omega arith) (omega arith) h k (tail_same 45 45 (decimal (suc m) ++ r) (decimal (suc n) ++ s) e) in
    (ap negsuc (omega (arith, both.0)), both.1)

-- ---- between fixed words

inside_assoc : (k w c r : Text) → (k ++ (w ++ c)) ++ r ≡ k ++ (w ++ (c ++ r))
inside_assoc k w c r = simp append_assoc

pub inside : (k w v c r s : Text) → (k ++ (w ++ c)) ++ r ≡ (k ++ (v ++ c)) ++ s → w ++ (c ++ r) ≡ v ++ (c ++ s)
inside k w v c r s e = cancel k (w ++ (c ++ r)) (v ++ (c ++ s)) (sym (inside_assoc k w c r) ∙ e ∙ inside_assoc k v c s)

two_assoc : (k l o m c r : Text) → (k ++ (l ++ (o ++ (m ++ c)))) ++ r ≡ k ++ (l ++ (o ++ (m ++ (c ++ r))))
two_assoc k l o m c r = simp append_assoc

pub inside_two : (k l o m l' o' m' c r s : Text) → (k ++ (l ++ (o ++ (m ++ c)))) ++ r ≡ (k ++ (l' ++ (o' ++ (m' ++ c)))) ++ s → l ++ (o ++ (m ++ (c ++ r))) ≡ l' ++ (o' ++ (m' ++ (c ++ s)))
inside_two k l o m l' o' m' c r s e = cancel k (l ++ (o ++ (m ++ (c ++ r)))) (l' ++ (o' ++ (m' ++ (c ++ s)))) (sym (two_assoc k l o m c r) ∙ e ∙ two_assoc k l' o' m' c s)
