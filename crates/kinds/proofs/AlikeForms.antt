-- Lists of alike records, and what each form makes of them.
use Rattle.std.proofs.Common.{◌≡◌, ℕ, zero, suc, ◌+◌, nat_lt, Bool, true, false, cond, not, ◌&&◌, List, [], ◌∷◌, ◌++◌, map, filter, flat_map, ℤ, pos, ◌+ℤ◌, Option, Some, None, slice_get, refl, sym, ap, ap₂, subst}
use Rattle.std.specs.Int.{int_wrap, int_min, int_max}
use Rattle.std.specs.Ordering.{int_eq}
use mir.Syntax.{w64}
use Rattle.semantics.specs.Multiset.{Record, same, one_if, total, count, is_present, each_once}
use Rattle.semantics.specs.Meaning.{field, folded, reduced, aggregate, project, selected, kept, paired, left_columns, right_columns, with_key, grouped, only_left, in_both, value, holds, repeated, Found, found_first, found_next, after_turns}
use Rattle.semantics.specs.Query.{Scalar, Cond, Agg, Pair, Loop}
use Rattle.kinds.specs.declared.kind.Quantity.{Quantity}
use Rattle.kinds.specs.declared.kind.Quantity.TheVariants as quantity
use Rattle.kinds.specs.declared.kind.Kind.{Kind}
use Rattle.kinds.specs.declared.kind.Kind.TheVariants as kind
use Rattle.kinds.specs.Kinds.{opposite, scalar_kind, may_ask, summed, ordered, agg_kind}
use Rattle.kinds.specs.Relations.{all_of, may_meet, may_join}
use Rattle.kinds.specs.Renaming.{IsRenaming}
use Rattle.kinds.proofs.Found.{map_found, both_true, all_append}
use Rattle.kinds.proofs.Alike.{FieldAlike, Alike, same_fields, same_alike, append_alike, field_alike, all_alike, project_alike, value_alike, holds_alike}

-- record by record
abbrev pub Both : (ℤ → ℤ) → List Kind → List Record → List Record → Type 0
Both new ks [] [] = Unit {0}
Both new ks (r ∷ rs) (s ∷ ss) = Alike new ks r s × Both new ks rs ss
Both new ks rs ss = ⊥

module _ (named : List ℤ) (new : ℤ → ℤ) (renaming : IsRenaming named new) where
  pub kinds_both : (ks ls : List Kind) → ((r r' : Record) → Alike new ks r r' → Alike new ls r r') → (xs xs' : List Record) → Both new ks xs xs' → Both new ls xs xs'
  kinds_both ks ls h [] [] p = tt
  kinds_both ks ls h (x ∷ xs) (x' ∷ xs') p = (h x x' p.0, kinds_both ks ls h xs xs' p.1)
  kinds_both ks ls h [] (x' ∷ xs') p = absurd p
  kinds_both ks ls h (x ∷ xs) [] p = absurd p

  pub map_both : (ks ls : List Kind) (f f' : Record → Record) → ((r r' : Record) → Alike new ks r r' → Alike new ls (f r) (f' r')) → (xs xs' : List Record) → Both new ks xs xs' → Both new ls (map f xs) (map f' xs')
  map_both ks ls f f' h [] [] p = tt
  map_both ks ls f f' h (x ∷ xs) (x' ∷ xs') p = (h x x' p.0, map_both ks ls f f' h xs xs' p.1)
  map_both ks ls f f' h [] (x' ∷ xs') p = absurd p
  map_both ks ls f f' h (x ∷ xs) [] p = absurd p

  pub append_both : (ks : List Kind) (xs xs' ys ys' : List Record) → Both new ks xs xs' → Both new ks ys ys' → Both new ks (xs ++ ys) (xs' ++ ys')
  append_both ks [] [] ys ys' p q = q
  append_both ks (x ∷ xs) (x' ∷ xs') ys ys' p q = (p.0, append_both ks xs xs' ys ys' p.1 q)
  append_both ks [] (x' ∷ xs') ys ys' p q = absurd p
  append_both ks (x ∷ xs) [] ys ys' p q = absurd p

  pub flat_both : (ks ls : List Kind) (f f' : Record → List Record) → ((r r' : Record) → Alike new ks r r' → Both new ls (f r) (f' r')) → (xs xs' : List Record) → Both new ks xs xs' → Both new ls (flat_map f xs) (flat_map f' xs')
  flat_both ks ls f f' h [] [] p = tt
  flat_both ks ls f f' h (x ∷ xs) (x' ∷ xs') p = append_both ls (f x) (f' x') (flat_map f xs) (flat_map f' xs') (h x x' p.0) (flat_both ks ls f f' h xs xs' p.1)
  flat_both ks ls f f' h [] (x' ∷ xs') p = absurd p
  flat_both ks ls f f' h (x ∷ xs) [] p = absurd p

  if_both : (ks : List Kind) (b b' : Bool) (xs xs' ys ys' : List Record) → b' ≡ b → Both new ks xs xs' → Both new ks ys ys' → Both new ks (cond b xs ys) (cond b' xs' ys')
  if_both ks b b' xs xs' ys ys' e p q = subst (λ c. Both new ks (cond b xs ys) (cond c xs' ys')) (sym e) (go b)
    where
      go : (c : Bool) → Both new ks (cond c xs ys) (cond c xs' ys')
      go true = p
      go false = q

  pub filter_both : (ks : List Kind) (p p' : Record → Bool) → ((r r' : Record) → Alike new ks r r' → p' r' ≡ p r) → (xs xs' : List Record) → Both new ks xs xs' → Both new ks (filter p xs) (filter p' xs')
  filter_both ks p p' h [] [] b = tt
  filter_both ks p p' h (x ∷ xs) (x' ∷ xs') b =
      let rest = filter_both ks p p' h xs xs' b.1 in
      if_both ks (p x) (p' x') (x ∷ filter p xs) (x' ∷ filter p' xs') (filter p xs) (filter p' xs') (h x x' b.0) (b.0, rest) rest
  filter_both ks p p' h [] (x' ∷ xs') b = absurd b
  filter_both ks p p' h (x ∷ xs) [] b = absurd b

  pub count_alike : (ks : List Kind) (r r' : Record) → Alike new ks r r' → (xs xs' : List Record) → Both new ks xs xs' → count r' xs' ≡ count r xs
  count_alike ks r r' a [] [] p = refl
  count_alike ks r r' a (x ∷ xs) (x' ∷ xs') p = ap₂ (λ b n. one_if b + n) (same_alike named new renaming ks x r x' r' p.0 a) (count_alike ks r r' a xs xs' p.1)
  count_alike ks r r' a [] (x' ∷ xs') p = absurd p
  count_alike ks r r' a (x ∷ xs) [] p = absurd p

  pub present_alike : (ks : List Kind) (xs xs' : List Record) → Both new ks xs xs' → (r r' : Record) → Alike new ks r r' → is_present r' xs' ≡ is_present r xs
  present_alike ks xs xs' p r r' a = ap (nat_lt 0) (count_alike ks r r' a xs xs' p)

  pub once_both : (ks : List Kind) (xs xs' : List Record) → Both new ks xs xs' → Both new ks (each_once xs) (each_once xs')
  once_both ks [] [] p = tt
  once_both ks (x ∷ xs) (x' ∷ xs') p =
      let rest = once_both ks xs xs' p.1 in
      if_both ks (is_present x xs) (is_present x' xs') (each_once xs) (each_once xs') (x ∷ each_once xs) (x' ∷ each_once xs') (present_alike ks xs xs' p.1 x x' p.0) rest (p.0, rest)
  once_both ks [] (x' ∷ xs') p = absurd p
  once_both ks (x ∷ xs) [] p = absurd p

  pub left_both : (ks : List Kind) (xs xs' ys ys' : List Record) → Both new ks xs xs' → Both new ks ys ys' → Both new ks (only_left xs ys) (only_left xs' ys')
  left_both ks xs xs' ys ys' p q =
      once_both ks (filter (λ r. not (is_present r ys)) xs) (filter (λ r. not (is_present r ys')) xs')
      (filter_both ks (λ r. not (is_present r ys)) (λ r. not (is_present r ys')) (λ r r' a. ap not (present_alike ks ys ys' q r r' a)) xs xs' p)

  pub both_sides : (ks : List Kind) (xs xs' ys ys' : List Record) → Both new ks xs xs' → Both new ks ys ys' → Both new ks (in_both xs ys) (in_both xs' ys')
  both_sides ks xs xs' ys ys' p q =
      once_both ks (filter (λ r. is_present r ys) xs) (filter (λ r. is_present r ys') xs')
      (filter_both ks (λ r. is_present r ys) (λ r. is_present r ys') (λ r r' a. present_alike ks ys ys' q r r' a) xs xs' p)

  pub select_both : (ks : List Kind) (ss : List Scalar) (ls : List Kind) → all_of (map (scalar_kind ks) ss) ≡ Some ls → (xs xs' : List Record) → Both new ks xs xs' → Both new ls (selected ss xs) (selected ss xs')
  select_both ks ss ls e xs xs' p =
      map_both ks ls (λ r. map (λ s. value s r) ss) (λ r. map (λ s. value s r) ss)
      (λ r r' a. all_alike named new renaming ss (scalar_kind ks) (λ s. value s r) (λ s. value s r') (λ s k h. value_alike named new renaming ks s k r r' h a) ls e) xs xs' p

  pub kept_both : (ks : List Kind) (c : Cond) → may_ask named ks c ≡ true → (xs xs' : List Record) → Both new ks xs xs' → Both new ks (kept c xs) (kept c xs')
  kept_both ks c m xs xs' p = filter_both ks (holds c) (holds c) (holds_alike named new renaming ks c m) xs xs' p

  -- ---- joins

  meet_alike : (k l : Option Kind) (x y x' y' : ℤ) → may_meet k l ≡ true → ((m : Kind) → k ≡ Some m → FieldAlike new m x x') → ((m : Kind) → l ≡ Some m → FieldAlike new m y y') → int_eq x' y' ≡ int_eq x y
  meet_alike (Some kind.Text) (Some kind.Text) x y x' y' e p q = same_fields named new renaming kind.Text x y x' y' (p kind.Text refl) (q kind.Text refl)
  meet_alike (Some (kind.Number a)) (Some (kind.Number b)) x y x' y' e p q = ap₂ int_eq (p (kind.Number a) refl) (q (kind.Number b) refl)
  meet_alike (Some kind.Text) (Some (kind.Number b)) x y x' y' e p q = absurd (cc)
  meet_alike (Some (kind.Number a)) (Some kind.Text) x y x' y' e p q = absurd (cc)
  meet_alike None l x y x' y' e p q = absurd (cc)
  meet_alike (Some kind.Text) None x y x' y' e p q = absurd (cc)
  meet_alike (Some (kind.Number a)) None x y x' y' e p q = absurd (cc)

  pairs_alike : (ks ls : List Kind) (ps : List Pair) → may_join ks ls ps ≡ true → (a a' b b' : Record) → Alike new ks a a' → Alike new ls b b' → same (project (left_columns ps) a') (project (right_columns ps) b') ≡ same (project (left_columns ps) a) (project (right_columns ps) b)
  pairs_alike ks ls [] e a a' b b' p q = refl
  pairs_alike ks ls (x ∷ ps) e a a' b b' p q =
      let m = both_true (may_meet (slice_get ks x.left) (slice_get ls x.right)) (may_join ks ls ps) e in
      ap₂ (λ c d. c && d)
      (meet_alike (slice_get ks x.left) (slice_get ls x.right) (field x.left a) (field x.right b) (field x.left a') (field x.right b') m.0 (λ k h. field_alike named new renaming ks x.left k a a' h p) (λ k h. field_alike named new renaming ls x.right k b b' h q))
      (pairs_alike ks ls ps m.1 a a' b b' p q)

  pub paired_both : (ks ls : List Kind) (ps : List Pair) → may_join ks ls ps ≡ true → (xs xs' ys ys' : List Record) → Both new ks xs xs' → Both new ls ys ys' → Both new (ks ++ ls) (paired ps xs ys) (paired ps xs' ys')
  paired_both ks ls ps e xs xs' ys ys' p q =
      let meets = λ (a b : Record). same (project (left_columns ps) a) (project (right_columns ps) b) in
      flat_both ks (ks ++ ls) (λ a. map (λ b. a ++ b) (filter (meets a) ys)) (λ a. map (λ b. a ++ b) (filter (meets a) ys'))
      (λ a a' u. map_both ls (ks ++ ls) (λ b. a ++ b) (λ b. a' ++ b) (λ b b' v. append_alike named new renaming ks ls a b a' b' u v) (filter (meets a) ys) (filter (meets a') ys')
      (filter_both ls (meets a) (meets a') (λ b b' v. pairs_alike ks ls ps e a a' b b' u v) ys ys' q)) xs xs' p

  -- ---- groups

  fields_same : (ks : List Kind) (c : ℕ) (a : Quantity) → slice_get ks c ≡ Some (kind.Number a) → (xs xs' : List Record) → Both new ks xs xs' → map (field c) xs' ≡ map (field c) xs
  fields_same ks c a e [] [] p = refl
  fields_same ks c a e (x ∷ xs) (x' ∷ xs') p = ap₂ (λ z zs. z ∷ zs) (field_alike named new renaming ks c (kind.Number a) x x' e p.0) (fields_same ks c a e xs xs' p.1)
  fields_same ks c a e [] (x' ∷ xs') p = absurd p
  fields_same ks c a e (x ∷ xs) [] p = absurd p

  sum_same : (ks : List Kind) (c : ℕ) (a : Quantity) → slice_get ks c ≡ Some (kind.Number a) → (xs xs' : List Record) → Both new ks xs xs' → folded (λ r n. field c r +ℤ n) (pos 0) xs' ≡ folded (λ r n. field c r +ℤ n) (pos 0) xs
  sum_same ks c a e [] [] p = refl
  sum_same ks c a e (x ∷ xs) (x' ∷ xs') p = ap₂ (λ z n. z +ℤ n) (field_alike named new renaming ks c (kind.Number a) x x' e p.0) (sum_same ks c a e xs xs' p.1)
  sum_same ks c a e [] (x' ∷ xs') p = absurd p
  sum_same ks c a e (x ∷ xs) [] p = absurd p

  number_same : (ks : List Kind) (xs xs' : List Record) → Both new ks xs xs' → total (λ (r : Record). 1) xs' ≡ total (λ (r : Record). 1) xs
  number_same ks [] [] p = refl
  number_same ks (x ∷ xs) (x' ∷ xs') p = ap (λ n. 1 + n) (number_same ks xs xs' p.1)
  number_same ks [] (x' ∷ xs') p = absurd p
  number_same ks (x ∷ xs) [] p = absurd p

  summed_found : (o : Option Kind) (k : Kind) → summed o ≡ Some k → (a : Quantity) × (b : Quantity) × (o ≡ Some (kind.Number a)) × (k ≡ kind.Number b)
  summed_found (Some (kind.Number a)) k e = let x = map_found kind.Number (opposite a) k e in (a, x.0, refl, sym x.2)
  summed_found None k e = absurd (cc)
  summed_found (Some kind.Text) k e = absurd (cc)

  ordered_found : (o : Option Kind) (k : Kind) → ordered o ≡ Some k → (a : Quantity) × (o ≡ Some (kind.Number a)) × (k ≡ kind.Number a)
  ordered_found (Some (kind.Number a)) k e = (a, refl, cc)
  ordered_found None k e = absurd (cc)
  ordered_found (Some kind.Text) k e = absurd (cc)

  aggregate_alike : (ks : List Kind) (a : Agg) (k : Kind) → agg_kind ks a ≡ Some k → (xs xs' : List Record) → Both new ks xs xs' → FieldAlike new k (aggregate a xs) (aggregate a xs')
  aggregate_alike ks Agg.count k e xs xs' p =
      let is : kind.Number quantity.Whole ≡ k = cc in
      subst (λ l. FieldAlike new l (aggregate Agg.count xs) (aggregate Agg.count xs')) is (ap (λ n. int_wrap w64 (pos n)) (number_same ks xs xs' p))
  aggregate_alike ks (Agg.sum c) k e xs xs' p =
      let x = summed_found (slice_get ks c) k e in
      subst (λ l. FieldAlike new l (aggregate (Agg.sum c) xs) (aggregate (Agg.sum c) xs')) (sym x.3) (ap (int_wrap w64) (sum_same ks c x.0 x.2 xs xs' p))
  aggregate_alike ks (Agg.min c) k e xs xs' p =
      let x = ordered_found (slice_get ks c) k e in
      subst (λ l. FieldAlike new l (aggregate (Agg.min c) xs) (aggregate (Agg.min c) xs')) (sym x.2) (ap (reduced int_min) (fields_same ks c x.0 x.1 xs xs' p))
  aggregate_alike ks (Agg.max c) k e xs xs' p =
      let x = ordered_found (slice_get ks c) k e in
      subst (λ l. FieldAlike new l (aggregate (Agg.max c) xs) (aggregate (Agg.max c) xs')) (sym x.2) (ap (reduced int_max) (fields_same ks c x.0 x.1 xs xs' p))

  pub grouped_both : (ks : List Kind) (cs : List ℕ) (as' : List Agg) (outs : List Kind) → all_of (map (slice_get ks) cs ++ map (agg_kind ks) as') ≡ Some outs → (xs xs' : List Record) → Both new ks xs xs' → Both new outs (grouped cs as' xs) (grouped cs as' xs')
  grouped_both ks cs as' outs e xs xs' p =
      let parts = all_append (map (slice_get ks) cs) (map (agg_kind ks) as') outs e in
      let ls = parts.0 in
      let ms = parts.1 in
      let keys = once_both ls (map (project cs) xs) (map (project cs) xs') (map_both ks ls (project cs) (project cs) (λ r r' a. project_alike named new renaming ks cs ls r r' parts.2 a) xs xs' p) in
      subst (λ l. Both new l (grouped cs as' xs) (grouped cs as' xs')) parts.4
      (map_both ls (ls ++ ms) (λ k. k ++ map (λ a. aggregate a (with_key cs k xs)) as') (λ k. k ++ map (λ a. aggregate a (with_key cs k xs')) as')
      (λ k k' u. append_alike named new renaming ls ms k (map (λ a. aggregate a (with_key cs k xs)) as') k' (map (λ a. aggregate a (with_key cs k' xs')) as') u
      (all_alike named new renaming as' (agg_kind ks) (λ a. aggregate a (with_key cs k xs)) (λ a. aggregate a (with_key cs k' xs'))
      (λ a m h. aggregate_alike ks a m h (with_key cs k xs) (with_key cs k' xs')
      (filter_both ks (λ r. same (project cs r) k) (λ r. same (project cs r) k') (λ r r' v. same_alike named new renaming ls (project cs r) k (project cs r') k' (project_alike named new renaming ks cs ls r r' parts.2 v) u) xs xs' p)) ms parts.3))
      (each_once (map (project cs) xs)) (each_once (map (project cs) xs')) keys)

  -- ---- loops

  repeated_both : (ks : List Kind) (f f' : List Record → List Record) → ((xs xs' : List Record) → Both new ks xs xs' → Both new ks (f xs) (f' xs')) → (n : ℕ) (xs xs' : List Record) → Both new ks xs xs' → Both new ks (repeated f n xs) (repeated f' n xs')
  repeated_both ks f f' h zero xs xs' p = p
  repeated_both ks f f' h (suc n) xs xs' p = h (repeated f n xs) (repeated f' n xs') (repeated_both ks f f' h n xs xs' p)

  abbrev FoundBoth : List Kind → Found → Found → Type 0
  FoundBoth ks s s' = Both new ks s.all s'.all × Both new ks s.latest s'.latest

  found_both : (ks : List Kind) (f f' : List Record → List Record) → ((xs xs' : List Record) → Both new ks xs xs' → Both new ks (f xs) (f' xs')) → (n : ℕ) (xs xs' : List Record) → Both new ks xs xs' → FoundBoth ks (repeated (found_next f) n (found_first xs)) (repeated (found_next f') n (found_first xs'))
  found_both ks f f' h zero xs xs' p = (once_both ks xs xs' p, once_both ks xs xs' p)
  found_both ks f f' h (suc n) xs xs' p =
      let s = repeated (found_next f) n (found_first xs) in
      let s' = repeated (found_next f') n (found_first xs') in
      let b = found_both ks f f' h n xs xs' p in
      let new_ones = left_both ks (f s.latest) (f' s'.latest) s.all s'.all (h s.latest s'.latest b.1) b.0 in
      (append_both ks s.all s'.all (only_left (f s.latest) s.all) (only_left (f' s'.latest) s'.all) b.0 new_ones, new_ones)

  pub turns_both : (ks : List Kind) (l : Loop) (f f' : List Record → List Record) → ((xs xs' : List Record) → Both new ks xs xs' → Both new ks (f xs) (f' xs')) → (n : ℕ) (xs xs' : List Record) → Both new ks xs xs' → Both new ks (after_turns l f n xs) (after_turns l f' n xs')
  turns_both ks Loop.iterate f f' h n xs xs' p = repeated_both ks f f' h n xs xs' p
  turns_both ks Loop.closure f f' h n xs xs' p = (found_both ks f f' h n xs xs' p).0
