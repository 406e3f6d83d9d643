-- What is put together of origins says no more than its parts.
use Rattle.std.proofs.Common.{◌≡◌, inl, inr, suc, nat_eq, Bool, true, false, cond, ◌&&◌, ◌||◌, List, [], ◌∷◌, ◌++◌, length, ℤ, refl, ap, ap₂, subst, arith}
use Rattle.std.proofs.lemmas.Bool.Decides.{Decides-eqb}
use Rattle.semantics.specs.Multiset.{Record, IsAmong}
use Rattle.field_origins.specs.declared.source.Source.{Source}
use Rattle.field_origins.specs.Sources.{Origin, source, same_source, has, with_source, with_sources, either, merged, same_sources, same_origin, same_origins}
use Rattle.origins.proofs.Among.{among_left, among_right}
use Rattle.origins.proofs.Having.{From, Has}

-- ---- equal origins

both_true : (b c : Bool) → b && c ≡ true → (b ≡ true) × (c ≡ true)
both_true true c e = (refl, e)
both_true false c e = absurd (cc)

pub source_is : (s t : Source) → same_source s t ≡ true → s ≡ t
source_is s t e =
    let b = both_true (nat_eq s.input t.input) (nat_eq s.column t.column) e in
    ap₂ source ((Decides-eqb s.input t.input).0 b.0) ((Decides-eqb s.column t.column).0 b.1)

pub source_same : (s : Source) → same_source s s ≡ true
source_same s = ap₂ (λ b c. b && c) ((Decides-eqb s.input s.input).1 refl) ((Decides-eqb s.column s.column).1 refl)

sources_are : (ss ts : List Source) → same_sources ss ts ≡ true → ss ≡ ts
sources_are [] [] e = refl
sources_are (s ∷ ss) (t ∷ ts) e = let b = both_true (same_source s t) (same_sources ss ts) e in ap₂ (λ x xs. x ∷ xs) (source_is s t b.0) (sources_are ss ts b.1)
sources_are [] (t ∷ ts) e = absurd (cc)
sources_are (s ∷ ss) [] e = absurd (cc)

origin_is : (o p : Origin) → same_origin o p ≡ true → o ≡ p
origin_is Origin.computed Origin.computed e = refl
origin_is (Origin.taken ss) (Origin.taken ts) e = ap Origin.taken (sources_are ss ts e)
origin_is Origin.computed (Origin.taken ts) e = absurd (cc)
origin_is (Origin.taken ss) Origin.computed e = absurd (cc)

pub origins_are : (os ps : List Origin) → same_origins os ps ≡ true → os ≡ ps
origins_are [] [] e = refl
origins_are (o ∷ os) (p ∷ ps) e = let b = both_true (same_origin o p) (same_origins os ps) e in ap₂ (λ x xs. x ∷ xs) (origin_is o p b.0) (origins_are os ps b.1)
origins_are [] (p ∷ ps) e = absurd (cc)
origins_are (o ∷ os) [] e = absurd (cc)

-- ---- more sources

among_has : (ss : List Source) (s : Source) → has ss s ≡ true → IsAmong s ss
among_has [] s e = absurd (cc)
among_has (t ∷ ts) s e = go (same_source t s) refl e (among_has ts s)
  where
    go : (b : Bool) → same_source t s ≡ b → b || has ts s ≡ true → (has ts s ≡ true → IsAmong s ts) → IsAmong s (t ∷ ts)
    go true q k ih = inl (source_is t s q)
    go false q k ih = inr (ih k)

keeps : (ss : List Source) (t s : Source) → IsAmong s ss → IsAmong s (with_source ss t)
keeps ss t s m = go (has ss t)
  where
    go : (b : Bool) → IsAmong s (cond b ss (ss ++ t ∷ []))
    go true = m
    go false = among_left ss (t ∷ []) s m

gets : (ss : List Source) (t : Source) → IsAmong t (with_source ss t)
gets ss t = go (has ss t) refl
  where
    go : (b : Bool) → has ss t ≡ b → IsAmong t (cond b ss (ss ++ t ∷ []))
    go true e = among_has ss t e
    go false e = among_right ss (t ∷ []) t (inl refl)

with_left : (ss ts : List Source) (s : Source) → IsAmong s ss → IsAmong s (with_sources ss ts)
with_left ss [] s m = m
with_left ss (t ∷ ts) s m = with_left (with_source ss t) ts s (keeps ss t s m)

with_right : (ss ts : List Source) (s : Source) → IsAmong s ts → IsAmong s (with_sources ss ts)
with_right ss [] s m = absurd m
with_right ss (t ∷ ts) s (inl e) = with_left (with_source ss t) ts s (subst (λ u. IsAmong u (with_source ss t)) e (gets ss t))
with_right ss (t ∷ ts) s (inr m) = with_right (with_source ss t) ts s m

module _ (stands : Source → ℤ → Type 0) where
  pub from_left : (o p : Origin) (z : ℤ) → From stands o z → From stands (either o p) z
  from_left Origin.computed p z f = tt
  from_left (Origin.taken ss) Origin.computed z f = tt
  from_left (Origin.taken ss) (Origin.taken ts) z f = (f.0, with_left ss ts f.0 f.1, f.2)

  pub from_right : (o p : Origin) (z : ℤ) → From stands p z → From stands (either o p) z
  from_right Origin.computed p z f = tt
  from_right (Origin.taken ss) Origin.computed z f = tt
  from_right (Origin.taken ss) (Origin.taken ts) z f = (f.0, with_right ss ts f.0 f.1, f.2)

  pub merged_left : (os ps : List Origin) (r : Record) → length os ≡ length ps → Has stands os r → Has stands (merged os ps) r
  merged_left [] ps [] e h = tt
  merged_left (o ∷ os) (p ∷ ps) (z ∷ r) e h = ((h.0.0, from_left o p z h.0.1), merged_left os ps r (omega arith) h.1)
  merged_left (o ∷ os) [] r e h = absurd (omega (arith, e))
  merged_left [] ps (z ∷ r) e h = absurd h
  merged_left (o ∷ os) (p ∷ ps) [] e h = absurd h

  pub merged_right : (os ps : List Origin) (r : Record) → length os ≡ length ps → Has stands ps r → Has stands (merged os ps) r
  merged_right [] [] r e h = h
  merged_right (o ∷ os) (p ∷ ps) (z ∷ r) e h = ((h.0.0, from_right o p z h.0.1), merged_right os ps r (omega arith) h.1)
  merged_right [] (p ∷ ps) r e h = absurd (omega (arith, e))
  merged_right (o ∷ os) [] r e h = absurd (omega (arith, e))
  merged_right (o ∷ os) (p ∷ ps) [] e h = absurd h

pub length-merged : (os ps : List Origin) → length os ≡ length ps → length (merged os ps) ≡ length os
length-merged [] ps e = refl
length-merged (o ∷ os) (p ∷ ps) e = ap suc (length-merged os ps (omega (arith, e)))
length-merged (o ∷ os) [] e = absurd (omega (arith, e))
