-- The records of relations and of a program's outputs have what their origins say.
use Rattle.std.proofs.Common.{◌≡◌, ◌⊎◌, inl, inr, ℕ, zero, suc, ◌+◌, ◌<◌, Bool, true, false, cond, List, [], ◌∷◌, map, length, ℤ, Some, None, slice_get, slice_index_or, refl, sym, ap, ap₂, subst, ◌∙◌, arith, length-append}
use Rattle.std.proofs.lemmas.List.{length-map}
use Rattle.std.proofs.lemmas.Option.{same_Some}
use Rattle.std.specs.List.{AllByRecursion}
use Rattle.std.specs.Int.{int_wrap}
use mir.Syntax.{w64}
use Rattle.semantics.specs.Multiset.{Record, IsAmong}
use Rattle.semantics.specs.Meaning.{Names, bind, same_name, meaning, input_names, let_names, program_meaning, holds}
use Rattle.semantics.specs.Query.{Name, Rel, Input, Let, Output, Program}
use Rattle.semantics.specs.Typing as typing
use Rattle.semantics.specs.Typing.{HasArity, InputsFit, after_inputs, OutputsFit, RestFits, WellTyped}
use Rattle.semantics.proofs.NamesAmong.{Decides-same_name}
use Rattle.field_origins.specs.declared.source.Source.{Source}
use Rattle.field_origins.specs.Sources.{Origin, merged, origin_at, scalar_origin, agg_origin, columns_from}
use Rattle.origins.specs.Relations.{Scope, entry, lookup, rel_origins, inputs_scope, rest_origins, program_origins}
use Rattle.origins.specs.Standing.{IsRecord, AreRecords, IsInColumn, Stands}
use Rattle.origins.proofs.Having.{From, Has, Each, selected_has, paired_has, grouped_has, once_has, filter_has, append_has, left_has, both_has}
use Rattle.origins.proofs.Merging.{merged_left, merged_right, length-merged}
use Rattle.origins.proofs.LoopsHave.{With, Below, below_with, columns_have, length-columns, has_more, variable_has, settled_have}

-- each name in scope means records that have what its origins say, as many fields as its arity
abbrev pub Known : (Source → ℤ → Type 0) → typing.Scope → Scope → Names → Type 0
Known stands typed scope names = (x : Name) (n : ℕ) → typing.lookup typed x ≡ Some n → (length (lookup scope x) ≡ n) × Each stands (lookup scope x) (names x)

pub known_bind : (stands : Source → ℤ → Type 0) (typed : typing.Scope) (scope : Scope) (names : Names) → Known stands typed scope names → (x : Name) (n : ℕ) (os : List Origin) (xs : List Record) → length os ≡ n → Each stands os xs
    → Known stands (typing.entry x n ∷ typed) (entry x os ∷ scope) (bind x xs names)
known_bind stands typed scope names h x n os xs e each y m k = go (same_name x y) k
  where
    go : (b : Bool) → cond b (Some n) (typing.lookup typed y) ≡ Some m → (length (cond b os (lookup scope y)) ≡ m) × Each stands (cond b os (lookup scope y)) (cond b xs (names y))
    go true q = (e ∙ same_Some n m q, each)
    go false q = h y m q

pub known_more : (stands : Source → ℤ → Type 0) (v : ℕ) → Below stands v → (xs : List Record) (typed : typing.Scope) (scope : Scope) (names : Names) → Known stands typed scope names → Known (With stands v xs) typed scope names
known_more stands v below xs typed scope names h x n k = let p = h x n k in (p.0, λ r m. has_more stands v below xs (lookup scope x) r (p.1 r m))

pub rel_have : (r : Rel) (typed : typing.Scope) (d n : ℕ) → HasArity r typed d n → (stands : Source → ℤ → Type 0) (v : ℕ) → Below stands v → (scope : Scope) (names : Names) → Known stands typed scope names
    → (length (rel_origins r scope v) ≡ n) × Each stands (rel_origins r scope v) (meaning r names)
unfolding HasArity meaning
rel_have (Rel.named x) typed d n t stands v below scope names h = h x n t
rel_have (Rel.select r ss) typed d n t stands v below scope names h =
    let of = rel_have r typed d t.0 t.1 stands v below scope names h in
    (length-map ss (scalar_origin (rel_origins r scope v)) ∙ sym t.3, selected_has stands (rel_origins r scope v) ss (meaning r names) of.1)
rel_have (Rel.filter r c) typed d n t stands v below scope names h =
    let of = rel_have r typed d n t.0 stands v below scope names h in
    (of.0, filter_has stands (rel_origins r scope v) (holds c) (meaning r names) of.1)
rel_have (Rel.concat p q) typed d n t stands v below scope names h =
    let left = rel_have p typed d n t.0 stands v below scope names h in
    let right = rel_have q typed d n t.1 stands v below scope names h in
    let as_wide : length (rel_origins p scope v) ≡ length (rel_origins q scope v) = left.0 ∙ sym right.0 in (
      length-merged (rel_origins p scope v) (rel_origins q scope v) as_wide ∙ left.0,
      append_has stands (merged (rel_origins p scope v) (rel_origins q scope v)) (meaning p names) (meaning q names)
          (λ r m. merged_left stands (rel_origins p scope v) (rel_origins q scope v) r as_wide (left.1 r m))
          (λ r m. merged_right stands (rel_origins p scope v) (rel_origins q scope v) r as_wide (right.1 r m)),
    )
rel_have (Rel.join p q ps) typed d n t stands v below scope names h =
    let left = rel_have p typed d t.0 t.2 stands v below scope names h in
    let right = rel_have q typed d t.1 t.3 stands v below scope names h in
    (length-append (rel_origins p scope v) (rel_origins q scope v) ∙ ap₂ (λ a b. a + b) left.0 right.0 ∙ sym t.5, paired_has stands (rel_origins p scope v) (rel_origins q scope v) ps (meaning p names) (meaning q names) left.1 right.1)
rel_have (Rel.group r ks as') typed d n t stands v below scope names h =
    let of = rel_have r typed d t.0 t.1 stands v below scope names h in
    let os = rel_origins r scope v in
    (length-append (map (origin_at os) ks) (map (agg_origin os) as') ∙ ap₂ (λ a b. a + b) (length-map ks (origin_at os)) (length-map as' (agg_origin os)) ∙ sym t.4, grouped_has stands os ks as' (meaning r names) of.1)
rel_have (Rel.distinct r) typed d n t stands v below scope names h =
    let of = rel_have r typed d n t stands v below scope names h in
    (of.0, once_has stands (rel_origins r scope v) (meaning r names) of.1)
rel_have (Rel.except p q) typed d n t stands v below scope names h =
    let left = rel_have p typed d n t.0 stands v below scope names h in
    (left.0, left_has stands (rel_origins p scope v) (meaning p names) (meaning q names) left.1)
rel_have (Rel.intersect p q) typed d n t stands v below scope names h =
    let left = rel_have p typed d n t.0 stands v below scope names h in
    (left.0, both_has stands (rel_origins p scope v) (meaning p names) (meaning q names) left.1)
rel_have (Rel.loop l k x r b) typed d n t stands v below scope names h =
    let first = rel_have r typed d n t.2 stands v below scope names h in
    let start = rel_origins r scope v in
    let own = columns_from v 0 (length start) in
    let at = λ (os : List Origin) (xs : List Record) (e : length os ≡ n) (each : Each stands os xs).
    rel_have b (typing.entry x n ∷ typed) (suc d) n t.4 (With stands v xs) (suc v) (below_with stands v xs below) (entry x own ∷ scope) (bind x xs names)
    (known_bind (With stands v xs) typed scope names (known_more stands v below xs typed scope names h) x n own xs (length-columns v 0 (length start) ∙ first.0)
    (subst (λ m. Each (With stands v xs) (columns_from v 0 m) xs) (e ∙ sym first.0) (variable_has stands v below xs os each))) in
    settled_have stands v below n (rel_origins b (entry x own ∷ scope) (suc v)) (at start [] first.0 (λ z m. absurd m)).0 l k (λ xs. meaning b (bind x xs names))
    (λ os xs e each. (at os xs e each).1) start first.0 (meaning r names) first.1

-- ---- programs

-- a name in scope keeps its arity as inputs are added
kept_arity : (as' : List Input) (typed : typing.Scope) (y : Name) (n : ℕ) → InputsFit typed as' → typing.lookup typed y ≡ Some n → typing.lookup (after_inputs typed as') y ≡ Some n
kept_arity [] typed y n f h = h
kept_arity (a ∷ as') typed y n f h = kept_arity as' (typing.entry a.name a.arity ∷ typed) y n f.2 (by (same_name a.name y) refl)
  where
    by : (b : Bool) → same_name a.name y ≡ b → cond b (Some a.arity) (typing.lookup typed y) ≡ Some n
    by true e = absurd (let q : None ≡ Some n = sym f.0 ∙ subst (λ z. typing.lookup typed z ≡ Some n) (sym ((Decides-same_name a.name y).0 e)) h in cc)
    by false e = h

-- a number stands in a column of an input of the program
abbrev pub InInputs : ℕ → (ℕ → List Record) → Source → ℤ → Type 0
InInputs count records s z = (s.input < count) × (int_wrap w64 z ≡ z) × IsInColumn z s.column (records s.input)

fits_at : (r : Record) (k : ℕ) (z : ℤ) → AllByRecursion (λ (y : ℤ). int_wrap w64 y ≡ y) r → slice_get r k ≡ Some z → int_wrap w64 z ≡ z
fits_at [] k z h e = absurd (cc)
fits_at (y ∷ r) zero z h e = subst (λ x. int_wrap w64 x ≡ x) (same_Some y z e) h.0
fits_at (y ∷ r) (suc k) z h e = fits_at r k z h.1 e

module _ (count : ℕ) (records : ℕ → List Record) where
  input_has : (a : Input) (i : ℕ) → i < count → ((r : Record) → IsAmong r (records i) → IsRecord a.arity r) → Each (InInputs count records) (columns_from i 0 a.arity) (records i)
  input_has a i b h r m =
      columns_have (InInputs count records) i 0 a.arity r ((h r m).fields) (λ k z e. let f = fits_at r k z ((h r m).fits) e in (f, (b, f, (r, m, subst (λ d. slice_get r d ≡ Some z) (let q : k ≡ 0 + k = omega arith in q) e))))

  inputs_known : (as' : List Input) (typed : typing.Scope) (i : ℕ) → InputsFit typed as' → i + length as' ≡ count → AreRecords as' i records → (y : Name) (n : ℕ) → typing.lookup (after_inputs typed as') y ≡ Some n
      → (typing.lookup typed y ≡ Some n) ⊎ ((length (lookup (inputs_scope as' i) y) ≡ n) × Each (InInputs count records) (lookup (inputs_scope as' i) y) (input_names as' i records y))
  inputs_known [] typed i f l h y n e = inl e
  inputs_known (a ∷ as') typed i f l h y n e =
      go (same_name a.name y) refl (inputs_known as' (typing.entry a.name a.arity ∷ typed) (suc i) f.2 (omega (arith, l)) h.1 y n e)
    where
      os : List Origin
      os = lookup (inputs_scope as' (suc i)) y

      xs : List Record
      xs = input_names as' (suc i) records y

      own : List Origin
      own = columns_from i 0 a.arity

      go : (b : Bool) → same_name a.name y ≡ b → (cond b (Some a.arity) (typing.lookup typed y) ≡ Some n) ⊎ ((length os ≡ n) × Each (InInputs count records) os xs)
          → (typing.lookup typed y ≡ Some n) ⊎ ((length (cond b own os) ≡ n) × Each (InInputs count records) (cond b own os) (cond b (records i) xs))
      go false q (inl k) = inl k
      go false q (inr k) = inr k
      go true q k = inr (length-columns i 0 a.arity ∙ arity, input_has a i (omega (arith, l)) h.0)
        where
          here : typing.lookup (typing.entry a.name a.arity ∷ typed) y ≡ Some a.arity
          here = ap (λ b. cond b (Some a.arity) (typing.lookup typed y)) q

          arity : a.arity ≡ n
          arity = same_Some a.arity n (sym (kept_arity as' (typing.entry a.name a.arity ∷ typed) y a.arity f.2 here) ∙ e)

none_known : (n : ℕ) (y : Name) → typing.lookup [] y ≡ Some n → ⊥
none_known n y e = cc

pub inputs_have : (as' : List Input) (records : ℕ → List Record) → InputsFit [] as' → AreRecords as' 0 records → Known (InInputs (length as') records) (after_inputs [] as') (inputs_scope as' 0) (input_names as' 0 records)
inputs_have as' records f h y n e = go (inputs_known (length as') records as' [] 0 f (omega arith) h y n e)
  where
    go : (typing.lookup [] y ≡ Some n) ⊎ ((length (lookup (inputs_scope as' 0) y) ≡ n) × Each (InInputs (length as') records) (lookup (inputs_scope as' 0) y) (input_names as' 0 records y)) → (length (lookup (inputs_scope as' 0) y) ≡ n) × Each (InInputs (length as') records) (lookup (inputs_scope as' 0) y) (input_names as' 0 records y)
    go (inl k) = absurd (none_known n y k)
    go (inr k) = k

module _ (stands : Source → ℤ → Type 0) (v : ℕ) (below : Below stands v) where
  outputs_have : (os : List Output) (typed before : typing.Scope) (ns : List ℕ) → OutputsFit typed before os ns → (scope : Scope) (names : Names) → Known stands typed scope names → (k : ℕ)
      → Each stands (slice_index_or (map (λ (o : Output). rel_origins o.value scope v) os) k []) (slice_index_or (map (λ (o : Output). meaning o.value names) os) k [])
  outputs_have [] typed before ns t scope names h zero r m = absurd m
  outputs_have [] typed before ns t scope names h (suc k) r m = absurd m
  outputs_have (o ∷ os) typed before (n ∷ ns) t scope names h zero r m = (rel_have o.value typed 0 n t.0 stands v below scope names h).1 r m
  outputs_have (o ∷ os) typed before (n ∷ ns) t scope names h (suc k) r m = outputs_have os typed (typing.entry o.name n ∷ before) ns t.2 scope names h k r m
  outputs_have (o ∷ os) typed before [] t scope names h k r m = absurd t

  rest_have : (ls : List Let) (os : List Output) (typed : typing.Scope) (ns : List ℕ) → RestFits typed ls os ns → (scope : Scope) (names : Names) → Known stands typed scope names → (k : ℕ)
      → Each stands (slice_index_or (rest_origins scope v ls os) k []) (slice_index_or (map (λ (o : Output). meaning o.value (let_names ls names)) os) k [])
  unfolding let_names
  rest_have [] os typed ns t scope names h k = outputs_have os typed [] ns t scope names h k
  rest_have (l ∷ ls) os typed ns t scope names h k =
      let of = rel_have l.value typed 0 t.0 t.1 stands v below scope names h in
      rest_have ls os (typing.entry l.name t.0 ∷ typed) ns t.3 (entry l.name (rel_origins l.value scope v) ∷ scope) (bind l.name (meaning l.value names) names)
      (known_bind stands typed scope names h l.name t.0 (rel_origins l.value scope v) (meaning l.value names) of.0 of.1) k

program_has : (p : Program) (ns : List ℕ) (records : ℕ → List Record) → WellTyped p ns → AreRecords p.inputs 0 records → (k : ℕ) → Each (InInputs (length p.inputs) records) (slice_index_or (program_origins p) k []) (program_meaning p k records)
unfolding program_meaning
program_has p ns records t h k =
    rest_have (InInputs (length p.inputs) records) (length p.inputs) (λ s z st. st.0) p.lets p.outputs (after_inputs [] p.inputs) ns t.rest (inputs_scope p.inputs 0) (input_names p.inputs 0 records) (inputs_have p.inputs records t.inputs h) k

-- a field with sources has a number that comes from them
field_from : (stands : Source → ℤ → Type 0) (os : List Origin) (c : ℕ) (o : Origin) (r : Record) → Has stands os r → slice_get os c ≡ Some o → (z : ℤ) × (slice_get r c ≡ Some z) × From stands o z
field_from stands (p ∷ os) zero o (z ∷ r) h e = (z, refl, subst (λ q. From stands q z) (same_Some p o e) h.0.1)
field_from stands (p ∷ os) (suc c) o (z ∷ r) h e = field_from stands os c o r h.1 e
field_from stands [] c o [] h e = absurd (cc)
field_from stands [] c o (z ∷ r) h e = absurd h
field_from stands (p ∷ os) c o [] h e = absurd h

pub program_stands : (p : Program) (arities : List ℕ) (records : ℕ → List Record) (output column : ℕ) (sources : List Source) (r : Record) → WellTyped p arities → AreRecords p.inputs 0 records
    → slice_get (slice_index_or (program_origins p) output []) column ≡ Some (Origin.taken sources) → IsAmong r (program_meaning p output records) → (z : ℤ) × (slice_get r column ≡ Some z) × Stands p.inputs records sources z
program_stands p arities records output column sources r t h e m =
    let f = field_from (InInputs (length p.inputs) records) (slice_index_or (program_origins p) output []) column (Origin.taken sources) r (program_has p arities records t h output r m) e in
    (f.0, f.1, record { source = f.2.0; among = f.2.1; is_input = f.2.2.0; stands = f.2.2.2 })
