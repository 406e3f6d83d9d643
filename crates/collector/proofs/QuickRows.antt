-- A record at the head of a text, read field by field.
use Rattle.std.proofs.Common.{◌≡◌, ◌<◌, ◌≤◌, ◌+◌, ◌∙◌, ℕ, ℤ, List, [], ◌∷◌, ◌++◌, length, map, Some, refl, sym, ap, subst, arith, append_assoc, get_or}
use Rattle.std.specs.Prelude.{FitsSigned, slice_get}
use Rattle.std.specs.Int.{w64}
use Rattle.std.specs.Fmt.{signed_decimal}
use Rattle.std.specs.List.{flat_map}
use Rattle.std.proofs.lemmas.List.{append-nil, length-append}
use Rattle.std.proofs.lemmas.Grind.{flat_map-append}
use Rattle.record_core.specs.Names.{IsName}
use Rattle.record_core.specs.Inputs.{input_of}
use Rattle.record_core.specs.declared.input.DeclaredInput.{DeclaredInput}
use Rattle.semantics.specs.Limits.{max_fields}
use Rattle.collector.specs.OutputText.{spaced}
use Rattle.collector.specs.Quick.{Fit, IsRowAt}
use Rattle.collector.proofs.InputNames.{is_input}
use Rattle.collector.specs.Lines.{IsInput}

-- some fields were read
pub record FieldsRead (text rest : List ℕ) (fields : List ℤ) (k : ℕ) : Type 0 where
  pub spelled : text ≡ flat_map spaced fields ++ rest
  pub count : length fields ≡ k
  pub fits : Fit fields

pub no_field : (text : List ℕ) (fields : List ℤ) → fields ≡ [] → FieldsRead text text fields 0
no_field text fields e = record {
  spelled = ap (λ zs. flat_map spaced zs ++ text) (sym e);
  count = ap length e;
  fits = subst Fit (sym e) tt;
}

pub fit_more : (zs : List ℤ) (z : ℤ) → Fit zs → FitsSigned w64 z → Fit (zs ++ z ∷ [])
fit_more [] z h f = (f, tt)
fit_more (y ∷ ys) z h f = (h.0, fit_more ys z h.1 f)

pub field_more : (text rest after spelled : List ℕ) (fields new : List ℤ) (z : ℤ) (k : ℕ) → FieldsRead text rest fields k → rest ≡ 32 ∷ spelled → spelled ≡ signed_decimal z ++ after → FitsSigned w64 z → new ≡ fields ++ z ∷ [] → FieldsRead text after new (k + 1)
field_more text rest after spelled fields new z k h space number fits e =
    let more : flat_map spaced (fields ++ z ∷ []) ≡ flat_map spaced fields ++ spaced z = flat_map-append spaced fields (z ∷ []) ∙ ap (λ (t : List ℕ). flat_map spaced fields ++ t) (append-nil (spaced z)) in
    record {
      spelled = h.spelled ∙ ap (λ (t : List ℕ). flat_map spaced fields ++ t) (space ∙ ap (λ (t : List ℕ). 32 ∷ t) number) ∙ sym (append_assoc (flat_map spaced fields) (spaced z) after) ∙ ap (λ (t : List ℕ). t ++ after) (sym more ∙ ap (flat_map spaced) (sym e));
      count = ap length e ∙ length-append fields (z ∷ []) ∙ ap (λ (n : ℕ). n + 1) h.count;
      fits = subst Fit (sym e) (fit_more fields z h.fits fits);
    }

pub fields_end : (text rest after : List ℕ) (fields : List ℤ) (k : ℕ) → FieldsRead text rest fields k → rest ≡ 10 ∷ after → text ≡ flat_map spaced fields ++ 10 ∷ after
fields_end text rest after fields k h e = h.spelled ∙ ap (λ (t : List ℕ). flat_map spaced fields ++ t) e

-- no earlier input has this name with a space at the head of the text
abbrev pub NoneBefore : List ℕ → List DeclaredInput → ℕ → Type 0
NoneBefore text inputs i = (k : ℕ) (d : DeclaredInput) → k < i → slice_get inputs k ≡ Some d → (rest : List ℕ) → text ≡ d.name ++ 32 ∷ rest → ⊥

spaced_first : (fields : List ℤ) (after : List ℕ) → 1 ≤ length fields → (tail : List ℕ) × (flat_map spaced fields ++ after ≡ 32 ∷ tail)
spaced_first [] after some = absurd (omega (arith, some))
spaced_first (z ∷ zs) after some = ((signed_decimal z ++ flat_map spaced zs) ++ after, refl)

pub row_at : (inputs : List DeclaredInput) (text rest after : List ℕ) (fields : List ℤ) (i : ℕ) (d : DeclaredInput) → i < length inputs → d ≡ get_or inputs i d → IsName d.name → NoneBefore text inputs i → text ≡ d.name ++ rest → rest ≡ flat_map spaced fields ++ 10 ∷ after
    → length fields ≡ d.arity → Fit fields → 1 ≤ d.arity → d.arity ≤ max_fields → IsRowAt (map input_of inputs) text fields i after
row_at inputs text rest after fields i d lt is named none head spelled size fits low high =
    let first = spaced_first fields (10 ∷ after) (omega (arith, size, low)) in
    let whole : text ≡ d.name ++ (flat_map spaced fields ++ 10 ∷ after) = head ∙ ap (λ (t : List ℕ). d.name ++ t) spelled in
    record {
      name = d.name;
      named = named;
      of = subst (λ n. IsInput-at n) (sym size) (is_input inputs d.name i d lt is refl (λ k e less at same. none k e less at first.0 (whole ∙ ap (λ (t : List ℕ). d.name ++ t) first.1 ∙ ap (λ (n : List ℕ). n ++ 32 ∷ first.0) (sym same))));
      shape = (omega (arith, size, low), omega (arith, size, high));
      fits = fits;
      spelled = whole;
    }
  where
    IsInput-at : ℕ → Type 0
    IsInput-at n = IsInput (map input_of inputs) d.name i n
