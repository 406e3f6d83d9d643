-- A line that is spelled as a record prints.
use Rattle.std.proofs.Common.{◌≡◌, ◌≢◌, ◌<◌, ◌∙◌, ℕ, suc, ℤ, pos, negsuc, List, [], ◌∷◌, ◌++◌, length, map, Bool, true, false, refl, sym, ap, arith, append_assoc, decimal}
use Rattle.std.specs.Prelude.{FitsSigned, IsTrue, codes, ◌&&◌}
use Rattle.std.specs.Int.{w64}
use Rattle.std.specs.Str.Parse.{AllDigits}
use Rattle.std.specs.Fmt.{signed_decimal}
use Rattle.std.specs.List.{AllByRecursion, flat_map, list_all}
use Rattle.std.proofs.lemmas.Int.{ints}
use Rattle.std.proofs.lemmas.List.{append-nil, length-append, length-map}
use Rattle.std.proofs.lemmas.Fmt.{digits_decimal, decimal_nonempty}
use Rattle.std.proofs.lemmas.Str.Parse.{digit_from_value}
use Rattle.decimal.proofs.Numbers.{decimal_numerals}
use Rattle.record_core.specs.Names.{is_name_byte}
use Rattle.semantics.specs.Query.{Input}
use Rattle.collector.specs.OutputText.{spaced}
use Rattle.collector.specs.Pieces.{split_on}
use Rattle.record_core.specs.Records.{IsRecord}
use Rattle.collector.specs.Lines.{Item, Says, IsFilled, IsInput, IsWord, AreNumbers}
use Rattle.collector.specs.Quick.{Fit, IsRowAt}
use Rattle.collector.proofs.Splits.{step, stop}

-- a byte doesn't occur
abbrev Free : ℕ → List ℕ → Type 0
Free byte bs = AllByRecursion (λ b. b ≢ byte) bs

split_at : (byte : ℕ) (p rest : List ℕ) → Free byte p → split_on byte (p ++ byte ∷ rest) ≡ p ∷ split_on byte rest
split_at byte [] rest free = stop byte byte rest refl
split_at byte (b ∷ p) rest free = step byte b (p ++ byte ∷ rest) p (split_on byte rest) free.0 (split_at byte p rest free.1)

split_free : (byte : ℕ) (p : List ℕ) → Free byte p → split_on byte p ≡ p ∷ []
split_free byte [] free = refl
split_free byte (b ∷ p) free = step byte b p p [] free.0 (split_free byte p free.1)

free_append : (byte : ℕ) (p q : List ℕ) → Free byte p → Free byte q → Free byte (p ++ q)
free_append byte [] q h g = g
free_append byte (b ∷ p) q h g = (h.0, free_append byte p q h.1 g)

free_digits : (byte : ℕ) (ds : List ℕ) → byte < 45 → AllDigits 10 ds → Free byte ds
free_digits byte [] low h = tt
free_digits byte (d ∷ ds) low h = let k = digit_from_value d h.0 in (λ e. absurd (omega (arith, e, k, low)), free_digits byte ds low h.1)

free_signed : (byte : ℕ) (z : ℤ) → byte < 45 → FitsSigned w64 z → Free byte (signed_decimal z)
free_signed byte (pos n) low fits = free_digits byte (decimal n) low (digits_decimal decimal_numerals n (omega (arith, ints)))
free_signed byte (negsuc n) low fits = (λ e. absurd (omega (arith, e, low)), free_digits byte (decimal (suc n)) low (digits_decimal decimal_numerals (suc n) (omega (arith, ints))))

free_fields : (zs : List ℤ) → Fit zs → Free 10 (flat_map spaced zs)
free_fields [] fits = tt
free_fields (z ∷ zs) fits = free_append 10 (spaced z) (flat_map spaced zs) ((λ e. absurd (omega (arith, e))), free_signed 10 z (omega arith) fits.0) (free_fields zs fits.1)

both : (a b : Bool) → IsTrue (a && b) → IsTrue a × IsTrue b
both true b e = (refl, e)
both false b e = absurd (let f : false ≡ true = e in cc)

free_name : (byte : ℕ) (name : List ℕ) → is_name_byte byte ≡ false → IsTrue (list_all is_name_byte name) → Free byte name
free_name byte [] other h = tt
free_name byte (b ∷ bs) other h =
    let parts = both (is_name_byte b) (list_all is_name_byte bs) h in
    (λ e. let f : true ≡ false = sym parts.0 ∙ ap is_name_byte e ∙ other in absurd (cc), free_name byte bs other parts.1)

words_are : (p : List ℕ) (zs : List ℤ) → Free 32 p → Fit zs → split_on 32 (p ++ flat_map spaced zs) ≡ p ∷ map signed_decimal zs
words_are p [] free fits = ap (split_on 32) (append-nil p) ∙ split_free 32 p free
words_are p (z ∷ zs) free fits = split_at 32 p (signed_decimal z ++ flat_map spaced zs) free ∙ ap (λ (ws : List (List ℕ)). p ∷ ws) (words_are (signed_decimal z) zs (free_signed 32 z (omega arith) fits.0) fits.1)

some_bytes : (z : ℤ) → FitsSigned w64 z → 0 < length (signed_decimal z)
some_bytes (pos n) fits = decimal_nonempty n (omega (arith, ints))
some_bytes (negsuc n) fits = omega arith

are_filled : (zs : List ℤ) → Fit zs → AllByRecursion IsFilled (map signed_decimal zs)
are_filled [] fits = tt
are_filled (z ∷ zs) fits = (some_bytes z fits.0, are_filled zs fits.1)

are_numbers : (zs : List ℤ) → Fit zs → AreNumbers (map signed_decimal zs) zs
are_numbers [] fits = tt
are_numbers (z ∷ zs) fits = ((fits.0, refl), are_numbers zs fits.1)

-- the line of a record, and the text after it
pub line_split : (name : List ℕ) (fields : List ℤ) (after : List ℕ) → IsWord name → Fit fields → split_on 10 (name ++ flat_map spaced fields ++ 10 ∷ after) ≡ (name ++ flat_map spaced fields) ∷ split_on 10 after
line_split name fields after word fits =
    split_at 10 (name ++ flat_map spaced fields) after (free_append 10 name (flat_map spaced fields) (free_name 10 name refl word.1) (free_fields fields fits))

-- what the line of a record says
pub line_says : (inputs : List Input) (epochs : ℕ) (name : List ℕ) (fields : List ℤ) (i : ℕ) → IsWord name → IsInput inputs name i (length fields) → IsRecord fields → Fit fields → 0 < epochs
    → Says inputs epochs (name ++ flat_map spaced fields) (Item.row i fields)
line_says inputs epochs name fields i word of shape fits begun =
    let words : split_on 32 (name ++ flat_map spaced fields) ≡ name ∷ map signed_decimal fields = words_are name fields (free_name 32 name refl word.1) fits in
    let epoch_words : length (split_on 32 (codes "epoch")) ≡ 1 = refl in
    let size : length (name ∷ map signed_decimal fields) ≡ suc (length fields) = ap suc (length-map fields signed_decimal) in (
      name,
      map signed_decimal fields,
      record {
        other = λ e. absurd (omega (arith, ap length (sym words ∙ ap (split_on 32) e), epoch_words, size, shape.0));
        words = words;
        spelled = word;
        filled = are_filled fields fits;
      },
      begun,
      of,
      shape,
      are_numbers fields fits,
    )

-- the line, the text after it, and what it says
pub first_row : (inputs : List Input) (epochs : ℕ) (text after : List ℕ) (fields : List ℤ) (i : ℕ) → IsRowAt inputs text fields i after → 0 < epochs
    → (line : List ℕ) × (split_on 10 text ≡ line ∷ split_on 10 after) × (length after < length text) × Says inputs epochs line (Item.row i fields)
first_row inputs epochs text after fields i row begun =
    let word : IsWord row.name = (row.named.begins, row.named.goes_on, row.named.short) in
    let line : List ℕ = row.name ++ flat_map spaced fields in
    let whole : text ≡ line ++ 10 ∷ after = row.spelled ∙ sym (append_assoc row.name (flat_map spaced fields) (10 ∷ after)) in (
      line,
      ap (split_on 10) whole ∙ line_split row.name fields after word row.fits,
      omega (arith, ap length whole, length-append line (10 ∷ after)),
      line_says inputs epochs row.name fields i word row.of row.shape row.fits begun,
    )
