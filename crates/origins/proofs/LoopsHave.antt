-- The records of a loop have what its origins say.
use Rattle.std.proofs.Common.{◌≡◌, ◌⊎◌, inl, inr, ℕ, zero, suc, ◌+◌, ◌<◌, nat_eq, Bool, true, false, cond, List, [], ◌∷◌, map, length, ℤ, Some, slice_get, refl, sym, ap, subst, ◌∙◌, arith}
use Rattle.std.proofs.lemmas.List.{length-map}
use Rattle.std.proofs.lemmas.Bool.Decides.{Decides-eqb}
use Rattle.std.proofs.lemmas.Option.{same_Some}
use Rattle.std.specs.Int.{int_wrap}
use mir.Syntax.{w64}
use Rattle.semantics.specs.Multiset.{Record, IsAmong}
use Rattle.semantics.specs.Meaning.{repeated, after_turns}
use Rattle.semantics.specs.Query.{Loop}
use Rattle.field_origins.specs.declared.source.Source.{Source}
use Rattle.field_origins.specs.Sources.{Origin, source, either, origin_at, columns_from, traced_source, traced_sources, traced, same_origins}
use Rattle.field_origins.specs.Loops.{turned, closed, settled}
use Rattle.origins.specs.Standing.{IsInColumn}
use Rattle.origins.proofs.Having.{From, Has, Each, has_length, turns_have}
use Rattle.origins.proofs.Merging.{origins_are, from_left, from_right, merged_left, merged_right, length-merged}

-- and in the columns of the input v, what stands in those of the records xs
abbrev pub With : (Source → ℤ → Type 0) → (v : ℕ) → List Record → Source → ℤ → Type 0
With stands v xs s z = stands s z ⊎ ((s.input ≡ v) × IsInColumn z s.column xs)

-- only inputs before the number v have columns
abbrev pub Below : (Source → ℤ → Type 0) → ℕ → Type 0
Below stands v = (s : Source) (z : ℤ) → stands s z → s.input < v

pub below_with : (stands : Source → ℤ → Type 0) (v : ℕ) (xs : List Record) → Below stands v → Below (With stands v xs) (suc v)
below_with stands v xs b s z (inl h) = let k = b s z h in omega (arith, k)
below_with stands v xs b s z (inr h) = let e = h.0 in omega (arith, e)

-- a field that stands in a column comes from there
pub has_slice : (stands : Source → ℤ → Type 0) (os : List Origin) (c : ℕ) (r : Record) (z : ℤ) → Has stands os r → slice_get r c ≡ Some z → From stands (origin_at os c) z
has_slice stands [] c [] z h e = tt
has_slice stands (o ∷ os) zero (y ∷ r) z h e = subst (From stands o) (same_Some y z e) h.0.1
has_slice stands (o ∷ os) (suc c) (y ∷ r) z h e = has_slice stands os c r z h.1 e
has_slice stands [] c (y ∷ r) z h e = absurd h
has_slice stands (o ∷ os) c [] z h e = absurd h

-- each column of an input comes from itself
pub columns_have : (stands : Source → ℤ → Type 0) (v c n : ℕ) (r : Record) → length r ≡ n → ((k : ℕ) (z : ℤ) → slice_get r k ≡ Some z → (int_wrap w64 z ≡ z) × stands (source v (c + k)) z) → Has stands (columns_from v c n) r
columns_have stands v c zero [] e h = tt
columns_have stands v c (suc n) (z ∷ r) e h =
    let here = h 0 z refl in
    let at : c + 0 ≡ c = omega arith in (
      (here.0, (source v c, inl refl, subst (λ d. stands (source v d) z) at here.1)),
      columns_have stands v (suc c) n r (omega (arith, e)) (λ k y g. let b = h (suc k) y g in (b.0, subst (λ d. stands (source v d) y) (let q : c + suc k ≡ suc c + k = omega arith in q) b.1)),
    )
columns_have stands v c zero (z ∷ r) e h = absurd (omega (arith, e))
columns_have stands v c (suc n) [] e h = absurd (omega (arith, e))

pub length-columns : (v c n : ℕ) → length (columns_from v c n) ≡ n
length-columns v c zero = refl
length-columns v c (suc n) = ap suc (length-columns v (suc c) n)

module _ (stands : Source → ℤ → Type 0) (v : ℕ) (below : Below stands v) where
  -- what has more to stand on
  pub has_more : (xs : List Record) (os : List Origin) (r : Record) → Has stands os r → Has (With stands v xs) os r
  has_more xs [] [] h = tt
  has_more xs (Origin.computed ∷ os) (z ∷ r) h = (h.0, has_more xs os r h.1)
  has_more xs (Origin.taken ss ∷ os) (z ∷ r) h = ((h.0.0, (h.0.1.0, h.0.1.1, inl h.0.1.2)), has_more xs os r h.1)
  has_more xs [] (z ∷ r) h = absurd h
  has_more xs (o ∷ os) [] h = absurd h

  -- a record of the variable has each field from itself
  pub variable_has : (xs : List Record) (os : List Origin) → Each stands os xs → Each (With stands v xs) (columns_from v 0 (length os)) xs
  variable_has xs os each r m =
      columns_have (With stands v xs) v 0 (length os) r (has_length stands os r (each r m))
      (λ k z e. (fits os r k z (each r m) e, inr (refl, (r, m, subst (λ d. slice_get r d ≡ Some z) (let q : k ≡ 0 + k = omega arith in q) e))))
    where
      fits : (os : List Origin) (r : Record) (k : ℕ) (z : ℤ) → Has stands os r → slice_get r k ≡ Some z → int_wrap w64 z ≡ z
      fits (o ∷ os) (y ∷ r) zero z h e = subst (λ x. int_wrap w64 x ≡ x) (same_Some y z e) h.0.0
      fits (o ∷ os) (y ∷ r) (suc k) z h e = fits os r k z h.1 e
      fits [] [] k z h e = absurd (cc)
      fits [] (y ∷ r) k z h e = absurd h
      fits (o ∷ os) [] k z h e = absurd h

  -- ---- what the variable's fields come from, in their place

  source_traced : (os : List Origin) (xs : List Record) → Each stands os xs → (s : Source) (z : ℤ) → With stands v xs s z → From stands (traced_source v os s) z
  source_traced os xs each s z w = go (nat_eq s.input v) refl w
    where
      go : (b : Bool) → nat_eq s.input v ≡ b → With stands v xs s z → From stands (cond b (origin_at os s.column) (Origin.taken (s ∷ []))) z
      go true e (inl h) = let k = below s z h in let q = (Decides-eqb s.input v).0 e in absurd (omega (arith, k, q))
      go false e (inl h) = (s, inl refl, h)
      go true e (inr h) = has_slice stands os s.column h.1.0 z (each h.1.0 h.1.1) h.1.2
      go false e (inr h) = absurd (let q = (Decides-eqb s.input v).1 h.0 in cc)

  traced_before : (os : List Origin) (found : Origin) (ss : List Source) (z : ℤ) → From stands found z → From stands (traced_sources v os found ss) z
  traced_before os found [] z f = f
  traced_before os found (s ∷ ss) z f = traced_before os (either found (traced_source v os s)) ss z (from_left stands found (traced_source v os s) z f)

  traced_in : (os : List Origin) (found : Origin) (ss : List Source) (s : Source) (z : ℤ) → IsAmong s ss → From stands (traced_source v os s) z → From stands (traced_sources v os found ss) z
  traced_in os found [] s z m f = absurd m
  traced_in os found (t ∷ ss) s z (inl e) f =
      traced_before os (either found (traced_source v os t)) ss z (from_right stands found (traced_source v os t) z (subst (λ u. From stands (traced_source v os u) z) (sym e) f))
  traced_in os found (t ∷ ss) s z (inr m) f = traced_in os (either found (traced_source v os t)) ss s z m f

  origin_traced : (os : List Origin) (xs : List Record) → Each stands os xs → (o : Origin) (z : ℤ) → From (With stands v xs) o z → From stands (traced v os o) z
  origin_traced os xs each Origin.computed z f = tt
  origin_traced os xs each (Origin.taken ss) z f = traced_in os (Origin.taken []) ss f.0 z f.1 (source_traced os xs each f.0 z f.2)

  fields_traced : (os : List Origin) (xs : List Record) → Each stands os xs → (turn : List Origin) (r : Record) → Has (With stands v xs) turn r → Has stands (map (traced v os) turn) r
  fields_traced os xs each [] [] h = tt
  fields_traced os xs each (o ∷ turn) (z ∷ r) h = ((h.0.0, origin_traced os xs each o z h.0.1), fields_traced os xs each turn r h.1)
  fields_traced os xs each [] (z ∷ r) h = absurd h
  fields_traced os xs each (o ∷ turn) [] h = absurd h

  -- ---- turns

  computed_has : (other : Source → ℤ → Type 0) (turn os : List Origin) (r : Record) → length turn ≡ length os → Has other turn r → Has stands (map (λ (o : Origin). Origin.computed) os) r
  computed_has other [] [] [] e h = tt
  computed_has other (p ∷ turn) (o ∷ os) (z ∷ r) e h = ((h.0.0, tt), computed_has other turn os r (omega (arith, e)) h.1)
  computed_has other [] (o ∷ os) r e h = absurd (omega (arith, e))
  computed_has other (p ∷ turn) [] r e h = absurd (omega (arith, e))
  computed_has other [] [] (z ∷ r) e h = absurd h
  computed_has other (p ∷ turn) (o ∷ os) [] e h = absurd h

  module _ (n : ℕ) (turn : List Origin) (wide : length turn ≡ n) where
    traced_wide : (os : List Origin) → length os ≡ n → length os ≡ length (map (traced v os) turn)
    traced_wide os e = e ∙ sym wide ∙ sym (length-map turn (traced v os))

    turned_wide : (os : List Origin) → length os ≡ n → length (turned v turn os) ≡ n
    turned_wide os e = length-merged os (map (traced v os) turn) (traced_wide os e) ∙ e

    repeated_wide : (k : ℕ) (os : List Origin) → length os ≡ n → length (repeated (turned v turn) k os) ≡ n
    repeated_wide zero os e = e
    repeated_wide (suc k) os e = turned_wide (repeated (turned v turn) k os) (repeated_wide k os e)

    repeated_start : (k : ℕ) (os : List Origin) (r : Record) → length os ≡ n → Has stands os r → Has stands (repeated (turned v turn) k os) r
    repeated_start zero os r e h = h
    repeated_start (suc k) os r e h =
        let so_far = repeated (turned v turn) k os in
        merged_left stands so_far (map (traced v so_far) turn) r (traced_wide so_far (repeated_wide k os e)) (repeated_start k os r e h)

    module _ (l : Loop) (k : ℕ) (f : List Record → List Record) (body : (os : List Origin) (xs : List Record) → length os ≡ n → Each stands os xs → Each (With stands v xs) turn (f xs)) where
      closed_have : (os : List Origin) → length os ≡ n → (xs : List Record) → Each stands os xs → (length (closed v turn os) ≡ n) × Each stands (closed v turn os) (after_turns l f k xs)
      closed_have os e xs each = go (same_origins (turned v turn os) os) refl
        where
          all : List Origin
          all = map (λ (o : Origin). Origin.computed) os

          all_wide : length all ≡ n
          all_wide = length-map os (λ (o : Origin). Origin.computed) ∙ e

          go : (b : Bool) → same_origins (turned v turn os) os ≡ b → (length (cond b os all) ≡ n) × Each stands (cond b os all) (after_turns l f k xs)
          go true q = (
            e,
            turns_have stands os l f
                (λ ys h r m. subst (λ ps. Has stands ps r) (origins_are (turned v turn os) os q)
                (merged_right stands os (map (traced v os) turn) r (traced_wide os e) (fields_traced os ys h turn r (body os ys e h r m)))) k xs each,
          )
          go false q = (
            all_wide,
            turns_have stands all l f
                (λ ys h r m. computed_has (With stands v ys) turn os r (wide ∙ sym e) (body all ys all_wide h r m)) k xs
                (λ r m. computed_has stands os os r refl (each r m)),
          )

      pub settled_have : (start : List Origin) → length start ≡ n → (xs : List Record) → Each stands start xs → (length (settled v turn start) ≡ n) × Each stands (settled v turn start) (after_turns l f k xs)
      settled_have start e xs each =
          closed_have (repeated (turned v turn) (length start) start) (repeated_wide (length start) start e) xs (λ r m. repeated_start (length start) start r e (each r m))
