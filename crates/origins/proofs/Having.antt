-- Records whose fields come from where the origins say, and what the forms make of them.
use Rattle.std.proofs.Common.{◌≡◌, ◌⊎◌, inl, inr, ℕ, zero, suc, Bool, not, List, [], ◌∷◌, ◌++◌, map, filter, length, ℤ, refl, sym, ap, subst, arith}
use Rattle.std.proofs.lemmas.Int.{ints, clamps, by_lt_z, SFits-int_wrap, int_wrap_fits}
use Rattle.std.specs.Int.{int_wrap, int_min, int_max}
use mir.Syntax.{w64}
use Rattle.semantics.specs.Multiset.{Record, IsAmong, same, is_present, each_once}
use Rattle.semantics.specs.Meaning.{field, exact, value, project, reduced_from, reduced, aggregate, selected, left_columns, right_columns, paired, with_key, grouped, only_left, in_both, repeated, found_first, found_next, after_turns}
use Rattle.semantics.specs.Query.{Scalar, Agg, Pair, Loop}
use Rattle.semantics.proofs.MultisetSums.{Decides-same}
use Rattle.field_origins.specs.declared.source.Source.{Source}
use Rattle.field_origins.specs.Sources.{Origin, origin_at, scalar_origin, agg_origin}
use Rattle.origins.proofs.Among.{among_map, among_append, among_filter, in_filter, among_once, among_flat}

-- what an origin says of a number, by what it says that it stands in a column
abbrev pub From : (Source → ℤ → Type 0) → Origin → ℤ → Type 0
From stands Origin.computed z = Unit {0}
From stands (Origin.taken ss) z = (s : Source) × IsAmong s ss × stands s z

-- and that it fits
abbrev pub Field : (Source → ℤ → Type 0) → Origin → ℤ → Type 0
Field stands o z = (int_wrap w64 z ≡ z) × From stands o z

-- field by field
abbrev pub Has : (Source → ℤ → Type 0) → List Origin → Record → Type 0
Has stands [] [] = Unit {0}
Has stands (o ∷ os) (z ∷ r) = Field stands o z × Has stands os r
Has stands [] (z ∷ r) = ⊥
Has stands (o ∷ os) [] = ⊥

-- each record of a list
abbrev pub Each : (Source → ℤ → Type 0) → List Origin → List Record → Type 0
Each stands os xs = (r : Record) → IsAmong r xs → Has stands os r

wrap_twice : (z : ℤ) → int_wrap w64 (int_wrap w64 z) ≡ int_wrap w64 z
wrap_twice z = int_wrap_fits w64 (int_wrap w64 z) (SFits-int_wrap w64 z)

module _ (stands : Source → ℤ → Type 0) where
  pub has_length : (os : List Origin) (r : Record) → Has stands os r → length r ≡ length os
  has_length [] [] h = refl
  has_length (o ∷ os) (z ∷ r) h = ap suc (has_length os r h.1)
  has_length [] (z ∷ r) h = absurd h
  has_length (o ∷ os) [] h = absurd h

  pub has_at : (os : List Origin) (c : ℕ) (r : Record) → Has stands os r → Field stands (origin_at os c) (field c r)
  unfolding int_wrap
  has_at [] c [] h = (refl, tt)
  has_at (o ∷ os) zero (z ∷ r) h = h.0
  has_at (o ∷ os) (suc c) (z ∷ r) h = has_at os c r h.1
  has_at [] c (z ∷ r) h = absurd h
  has_at (o ∷ os) c [] h = absurd h

  pub has_append : (os ps : List Origin) (a b : Record) → Has stands os a → Has stands ps b → Has stands (os ++ ps) (a ++ b)
  has_append [] ps [] b h k = k
  has_append (o ∷ os) ps (z ∷ a) b h k = (h.0, has_append os ps a b h.1 k)
  has_append [] ps (z ∷ a) b h k = absurd h
  has_append (o ∷ os) ps [] b h k = absurd h

  pub has_map : {X : Type 0} (xs : List X) (f : X → Origin) (g : X → ℤ) → ((x : X) → Field stands (f x) (g x)) → Has stands (map f xs) (map g xs)
  has_map [] f g h = tt
  has_map (x ∷ xs) f g h = (h x, has_map xs f g h)

  -- ---- scalars and joins

  scalar_has : (os : List Origin) (r : Record) → Has stands os r → (s : Scalar) → Field stands (scalar_origin os s) (value s r)
  scalar_has os r h (Scalar.column c) = let f = has_at os c r h in subst (Field stands (origin_at os c)) (sym f.0) f
  scalar_has os r h (Scalar.literal z) = (wrap_twice z, tt)
  scalar_has os r h (Scalar.plus s t) = (wrap_twice (exact (Scalar.plus s t) r), tt)
  scalar_has os r h (Scalar.minus s t) = (wrap_twice (exact (Scalar.minus s t) r), tt)
  scalar_has os r h (Scalar.times s t) = (wrap_twice (exact (Scalar.times s t) r), tt)
  scalar_has os r h (Scalar.negation s) = (wrap_twice (exact (Scalar.negation s) r), tt)

  pub selected_has : (os : List Origin) (ss : List Scalar) (xs : List Record) → Each stands os xs → Each stands (map (scalar_origin os) ss) (selected ss xs)
  selected_has os ss xs h r m =
      let k = among_map (λ (a : Record). map (λ s. value s a) ss) xs r m in
      subst (Has stands (map (scalar_origin os) ss)) k.2 (has_map ss (scalar_origin os) (λ s. value s k.0) (scalar_has os k.0 (h k.0 k.1)))

  pub paired_has : (os ps : List Origin) (pairs : List Pair) (xs ys : List Record) → Each stands os xs → Each stands ps ys → Each stands (os ++ ps) (paired pairs xs ys)
  paired_has os ps pairs xs ys h k r m =
      let meets = λ (a b : Record). same (project (left_columns pairs) a) (project (right_columns pairs) b) in
      let left = among_flat (λ (a : Record). map (λ (b : Record). a ++ b) (filter (meets a) ys)) xs r m in
      let right = among_map (λ (b : Record). left.0 ++ b) (filter (meets left.0) ys) r left.2 in
      subst (Has stands (os ++ ps)) right.2 (has_append os ps left.0 right.0 (h left.0 left.1) (k right.0 (among_filter (meets left.0) ys right.0 right.1)))

  -- ---- groups

  one_of : (f : ℤ → ℤ → ℤ) → ((a b : ℤ) → (f a b ≡ a) ⊎ (f a b ≡ b)) → (P : ℤ → Type 0) → (z : ℤ) (zs : List ℤ) → P z → ((w : ℤ) → IsAmong w zs → P w) → P (reduced_from f z zs)
  one_of f cases P z [] p h = p
  one_of f cases P z (w ∷ ws) p h = go (cases z (reduced_from f w ws)) (one_of f cases P w ws (h w (inl refl)) (λ v m. h v (inr m)))
    where
      go : (f z (reduced_from f w ws) ≡ z) ⊎ (f z (reduced_from f w ws) ≡ reduced_from f w ws) → P (reduced_from f w ws) → P (f z (reduced_from f w ws))
      go (inl e) q = subst P (sym e) p
      go (inr e) q = subst P (sym e) q

  one_of_fields : (f : ℤ → ℤ → ℤ) → ((a b : ℤ) → (f a b ≡ a) ⊎ (f a b ≡ b)) → (P : ℤ → Type 0) → (c : ℕ) (xs : List Record) (r : Record) → IsAmong r xs → ((x : Record) → IsAmong x xs → P (field c x)) → P (reduced f (map (field c) xs))
  one_of_fields f cases P c [] r m h = absurd m
  one_of_fields f cases P c (x ∷ xs) r m h =
      one_of f cases P (field c x) (map (field c) xs) (h x (inl refl)) (λ w n. let k = among_map (field c) xs w n in subst P k.2 (h k.0 (inr k.1)))

  min_cases : (a b : ℤ) → (int_min a b ≡ a) ⊎ (int_min a b ≡ b)
  min_cases a b = by_lt_z a b (λ h. inl (omega (arith, ints, clamps))) (λ h. inr (omega (arith, ints, clamps)))

  max_cases : (a b : ℤ) → (int_max a b ≡ a) ⊎ (int_max a b ≡ b)
  max_cases a b = by_lt_z a b (λ h. inr (omega (arith, ints, clamps))) (λ h. inl (omega (arith, ints, clamps)))

  agg_has : (os : List Origin) (xs : List Record) → Each stands os xs → (r : Record) → IsAmong r xs → (a : Agg) → Field stands (agg_origin os a) (aggregate a xs)
  agg_has os xs h r m Agg.count = (wrap_twice _, tt)
  agg_has os xs h r m (Agg.sum c) = (wrap_twice _, tt)
  agg_has os xs h r m (Agg.min c) = one_of_fields int_min min_cases (Field stands (origin_at os c)) c xs r m (λ x n. has_at os c x (h x n))
  agg_has os xs h r m (Agg.max c) = one_of_fields int_max max_cases (Field stands (origin_at os c)) c xs r m (λ x n. has_at os c x (h x n))

  pub grouped_has : (os : List Origin) (ks : List ℕ) (as' : List Agg) (xs : List Record) → Each stands os xs → Each stands (map (origin_at os) ks ++ map (agg_origin os) as') (grouped ks as' xs)
  grouped_has os ks as' xs h r m =
      let key = among_map (λ (k : Record). k ++ map (λ a. aggregate a (with_key ks k xs)) as') (each_once (map (project ks) xs)) r m in
      let one = among_map (project ks) xs key.0 (among_once (map (project ks) xs) key.0 key.1) in
      let has_key = λ (x : Record). same (project ks x) key.0 in
      let keys : Has stands (map (origin_at os) ks) key.0 = subst (Has stands (map (origin_at os) ks)) one.2 (has_map ks (origin_at os) (λ c. field c one.0) (λ c. has_at os c one.0 (h one.0 one.1))) in
      let of_key : Each stands os (with_key ks key.0 xs) = λ x n. h x (among_filter has_key xs x n) in
      let there : IsAmong one.0 (with_key ks key.0 xs) = in_filter has_key xs one.0 one.1 ((Decides-same (project ks one.0) key.0).1 one.2) in
      subst (Has stands (map (origin_at os) ks ++ map (agg_origin os) as')) key.2
      (has_append (map (origin_at os) ks) (map (agg_origin os) as') key.0 (map (λ a. aggregate a (with_key ks key.0 xs)) as') keys
      (has_map as' (agg_origin os) (λ a. aggregate a (with_key ks key.0 xs)) (agg_has os (with_key ks key.0 xs) of_key one.0 there)))

  -- ---- records of a list

  pub once_has : (os : List Origin) (xs : List Record) → Each stands os xs → Each stands os (each_once xs)
  once_has os xs h r m = h r (among_once xs r m)

  pub filter_has : (os : List Origin) (p : Record → Bool) (xs : List Record) → Each stands os xs → Each stands os (filter p xs)
  filter_has os p xs h r m = h r (among_filter p xs r m)

  pub append_has : (os : List Origin) (xs ys : List Record) → Each stands os xs → Each stands os ys → Each stands os (xs ++ ys)
  append_has os xs ys h k r m = go (among_append xs ys r m)
    where
      go : IsAmong r xs ⊎ IsAmong r ys → Has stands os r
      go (inl n) = h r n
      go (inr n) = k r n

  pub left_has : (os : List Origin) (xs ys : List Record) → Each stands os xs → Each stands os (only_left xs ys)
  left_has os xs ys h = once_has os (filter (λ r. not (is_present r ys)) xs) (filter_has os (λ r. not (is_present r ys)) xs h)

  pub both_has : (os : List Origin) (xs ys : List Record) → Each stands os xs → Each stands os (in_both xs ys)
  both_has os xs ys h = once_has os (filter (λ r. is_present r ys) xs) (filter_has os (λ r. is_present r ys) xs h)

  -- ---- turns

  repeated_has : (os : List Origin) (f : List Record → List Record) → ((xs : List Record) → Each stands os xs → Each stands os (f xs)) → (n : ℕ) (xs : List Record) → Each stands os xs → Each stands os (repeated f n xs)
  repeated_has os f h zero xs p = p
  repeated_has os f h (suc n) xs p = h (repeated f n xs) (repeated_has os f h n xs p)

  found_has : (os : List Origin) (f : List Record → List Record) → ((xs : List Record) → Each stands os xs → Each stands os (f xs)) → (n : ℕ) (xs : List Record) → Each stands os xs
      → Each stands os (repeated (found_next f) n (found_first xs)).all × Each stands os (repeated (found_next f) n (found_first xs)).latest
  found_has os f h zero xs p = (once_has os xs p, once_has os xs p)
  found_has os f h (suc n) xs p =
      let s = repeated (found_next f) n (found_first xs) in
      let b = found_has os f h n xs p in
      let more = left_has os (f s.latest) s.all (h s.latest b.1) in
      (append_has os s.all (only_left (f s.latest) s.all) b.0 more, more)

  pub turns_have : (os : List Origin) (l : Loop) (f : List Record → List Record) → ((xs : List Record) → Each stands os xs → Each stands os (f xs)) → (n : ℕ) (xs : List Record) → Each stands os xs → Each stands os (after_turns l f n xs)
  turns_have os Loop.iterate f h n xs p = repeated_has os f h n xs p
  turns_have os Loop.closure f h n xs p = (found_has os f h n xs p).0
