-- Records taken into groups, one after the other, each as often as it occurs.
use Rattle.std.proofs.Common.{◌≡◌, ℕ, zero, suc, ◌+◌, ◌<◌, ◌≤◌, nat_lt, nat_eq, ◌||◌, Bool, true, false, not, cond, List, [], ◌∷◌, ◌++◌, map, take, length, slice_index_or, slice_set, ℤ, pos, refl, sym, ap, subst, ◌∙◌, arith, append_assoc, append-nil, length-append, lt-ltb, ltb-true, ltb-false}
use Rattle.std.proofs.lemmas.Bool.{true≢false}
use Rattle.std.proofs.lemmas.Bool.Decides.{Decides-eqb}
use Rattle.std.proofs.lemmas.List.{length-map}
use Rattle.std.proofs.Math.Seq.{take-append_seam}
use Rattle.std.specs.List.{list_any}
use Rattle.rows.specs.Indexes.{AreDifferent}
use Rattle.semantics.specs.Meaning.{field, project, with_key, aggregate, grouped}
use Rattle.semantics.specs.Multiset.{Record, same, one_if, count, ◌≈◌, each_once}
use Rattle.semantics.specs.Query.{Agg}
use Rattle.semantics.proofs.DistinctAndGroups.{count-distinct}
use Rattle.semantics.proofs.MultisetSums.{Decides-same, same-refl, count_here, linear_same, map_linear, total-append, ≈-trans, ≈-from}
use Rattle.operators.specs.Aggregates.{begun, stored_key, weighed_all}
use Rattle.operators.proofs.Weights.{begun_all, weighed_aggregates}
use Rattle.rows.specs.Counts.{Run, expanded, no_run, repeated}
use Rattle.rows.proofs.Keeping.{different_where_once}
use Rattle.rows.proofs.Merging.{firsts_more}
use Rattle.rows.proofs.Runs.{count_repeated}
use Rattle.vertices.specs.Groups.{AreGrouped, keyed, shown_key}
use Rattle.vertices.proofs.Sets.{admitted, found_counts, take_one}

-- ---- lists

at_left : (xs ys : List Record) (p : ℕ) → p < length xs → slice_index_or (xs ++ ys) p [] ≡ slice_index_or xs p []
at_left [] ys p h = absurd (omega (arith, h))
at_left (x ∷ xs) ys zero h = refl
at_left (x ∷ xs) ys (suc p) h = at_left xs ys p (omega (arith, h))

at_end : (xs : List Record) (y : Record) (p : ℕ) → p ≡ length xs → slice_index_or (xs ++ y ∷ []) p [] ≡ y
at_end [] y p e = ap (λ n. slice_index_or (y ∷ []) n []) e
at_end (x ∷ xs) y p e = ap (λ n. slice_index_or (x ∷ (xs ++ y ∷ [])) n []) e ∙ at_end xs y (length xs) refl

at_set : (xs : List Record) (y : Record) (p : ℕ) → p < length xs → slice_index_or (slice_set xs p y) p [] ≡ y
at_set [] y p h = absurd (omega (arith, h))
at_set (x ∷ xs) y zero h = refl
at_set (x ∷ xs) y (suc p) h = at_set xs y p (omega (arith, h))

beside_set : (xs : List Record) (y : Record) (p q : ℕ) → (q ≡ p → ⊥) → slice_index_or (slice_set xs p y) q [] ≡ slice_index_or xs q []
beside_set [] y p q h = refl
beside_set (x ∷ xs) y zero zero h = absurd (h refl)
beside_set (x ∷ xs) y zero (suc q) h = refl
beside_set (x ∷ xs) y (suc p) zero h = refl
beside_set (x ∷ xs) y (suc p) (suc q) h = beside_set xs y p q (λ e. h (ap suc e))

length_set : (xs : List Record) (y : Record) (p : ℕ) → length (slice_set xs p y) ≡ length xs
length_set [] y p = refl
length_set (x ∷ xs) y zero = refl
length_set (x ∷ xs) y (suc p) = ap suc (length_set xs y p)

-- what is read beyond the end doesn't count
pub any_default : (xs : List Record) (p : ℕ) (d : Record) → p < length xs → slice_index_or xs p d ≡ slice_index_or xs p []
any_default [] p d h = absurd (omega (arith, h))
any_default (x ∷ xs) zero d h = refl
any_default (x ∷ xs) (suc p) d h = any_default xs p d (omega (arith, h))

pub take_whole : (xs : List Record) (p : ℕ) → length xs ≤ p → take p xs ≡ xs
take_whole [] zero h = refl
take_whole [] (suc p) h = refl
take_whole (x ∷ xs) zero h = absurd (omega (arith, h))
take_whole (x ∷ xs) (suc p) h = ap (λ l. x ∷ l) (take_whole xs p (omega (arith, h)))

found_at : (k : Record) (keys : List Record) (p : ℕ) → p < length keys → slice_index_or keys p [] ≡ k → list_any (λ r. same r k) keys ≡ true
found_at k [] p h e = absurd (omega (arith, h))
found_at k (y ∷ keys) zero h e = ap (λ b. b || list_any (λ r. same r k) keys) (ap (λ z. same z k) e ∙ same-refl k)
found_at k (y ∷ keys) (suc p) h e = go (same y k) (found_at k keys p (omega (arith, h)) e)
  where
    go : (b : Bool) → list_any (λ r. same r k) keys ≡ true → b || list_any (λ r. same r k) keys ≡ true
    go true f = refl
    go false f = f

map_more : (f : Record → Record) (xs : List Record) (x : Record) → map f (xs ++ x ∷ []) ≡ map f xs ++ f x ∷ []
map_more f [] x = refl
map_more f (y ∷ xs) x = ap (λ l. f y ∷ l) (map_more f xs x)

map_repeated : (f : Record → Record) (xs : List Record) (n : ℕ) (x : Record) → map f (xs ++ repeated n x) ≡ map f xs ++ repeated n (f x)
map_repeated f [] zero x = refl
map_repeated f [] (suc n) x = ap (λ l. f x ∷ l) (map_repeated f [] n x)
map_repeated f (y ∷ xs) n x = ap (λ l. f y ∷ l) (map_repeated f xs n x)

-- a record is present, however often it occurs
many_present : (ys : List Record) (y : Record) (n : ℕ) → 1 ≤ n → each_once (ys ++ y ∷ []) ≈ each_once (ys ++ repeated n y)
many_present ys y n h = record {
  counts = λ r. count-distinct r (ys ++ y ∷ []) ∙ ap (λ m. one_if (nat_lt 0 m)) (total-append (λ z. one_if (same z r)) ys (y ∷ [])) ∙ go r (same y r)
      ∙ ap (λ m. one_if (nat_lt 0 (count r ys + m))) (sym (count_repeated r n y)) ∙ ap (λ m. one_if (nat_lt 0 m)) (sym (total-append (λ z. one_if (same z r)) ys (repeated n y))) ∙ sym (count-distinct r (ys ++ repeated n y));
}
  where
    go : (r : Record) (b : Bool) → one_if (nat_lt 0 (count r ys + (one_if b + 0))) ≡ one_if (nat_lt 0 (count r ys + cond b n 0))
    go r true = ap one_if (lt-ltb 0 (count r ys + (1 + 0)) (omega arith) ∙ sym (lt-ltb 0 (count r ys + n) (omega (arith, h))))
    go r false = refl

-- the keys with that of a record that occurs n times
keys_more : (key : Record → Record) (keys more xs : List Record) (n : ℕ) (x : Record) (new : Bool) → 1 ≤ n → new ≡ not (list_any (λ r. same r (key x)) keys) → more ≡ cond new (keys ++ key x ∷ []) keys → keys ≈ each_once (map key xs) → more ≈ each_once (map key (xs ++ repeated n x))
keys_more key keys more xs n x new m e f h =
    ≈-trans (admitted (key x) keys more (map key xs) new e f h) (≈-trans (many_present (map key xs) (key x) n m) (≈-from (ap each_once (sym (map_repeated key xs n x)))))

-- ---- the records of a key

keyed_repeated : (key : Record → Record) (k : Record) (n : ℕ) (x : Record) (b : Bool) → same (key x) k ≡ b → keyed key k (repeated n x) ≡ cond b (repeated n x) []
keyed_repeated key k zero x true e = refl
keyed_repeated key k zero x false e = refl
keyed_repeated key k (suc n) x true e = ap (λ c. cond c (x ∷ keyed key k (repeated n x)) (keyed key k (repeated n x))) e ∙ ap (λ l. x ∷ l) (keyed_repeated key k n x true e)
keyed_repeated key k (suc n) x false e = ap (λ c. cond c (x ∷ keyed key k (repeated n x)) (keyed key k (repeated n x))) e ∙ keyed_repeated key k n x false e

with_more : (key : Record → Record) (k : Record) (xs : List Record) (n : ℕ) (x : Record) → keyed key k (xs ++ repeated n x) ≡ keyed key k xs ++ cond (same (key x) k) (repeated n x) []
with_more key k [] n x = keyed_repeated key k n x (same (key x) k) refl
with_more key k (y ∷ xs) n x = go (same (key y) k) (with_more key k xs n x)
  where
    last : List Record
    last = cond (same (key x) k) (repeated n x) []

    go : (b : Bool) → keyed key k (xs ++ repeated n x) ≡ keyed key k xs ++ last → cond b (y ∷ keyed key k (xs ++ repeated n x)) (keyed key k (xs ++ repeated n x)) ≡ cond b (y ∷ keyed key k xs) (keyed key k xs) ++ last
    go true e = ap (λ l. y ∷ l) e
    go false e = e

with_this : (key : Record → Record) (k : Record) (xs : List Record) (n : ℕ) (x : Record) → k ≡ key x → keyed key k (xs ++ repeated n x) ≡ keyed key k xs ++ repeated n x
with_this key k xs n x e = with_more key k xs n x ∙ ap (λ b. keyed key k xs ++ cond b (repeated n x) []) (ap (same (key x)) e ∙ same-refl (key x))

with_other : (key : Record → Record) (k : Record) (xs : List Record) (n : ℕ) (x : Record) → (k ≡ key x → ⊥) → keyed key k (xs ++ repeated n x) ≡ keyed key k xs
with_other key k xs n x h = with_more key k xs n x ∙ go (same (key x) k) refl
  where
    go : (b : Bool) → same (key x) k ≡ b → keyed key k xs ++ cond b (repeated n x) [] ≡ keyed key k xs
    go true e = absurd (h (sym ((Decides-same (key x) k).0 e)))
    go false e = append-nil (keyed key k xs)

how_many : (key : Record → Record) (k : Record) (xs : List Record) → length (keyed key k xs) ≡ count k (map key xs)
how_many key k [] = refl
how_many key k (x ∷ xs) = go (same (key x) k) (how_many key k xs)
  where
    go : (b : Bool) → length (keyed key k xs) ≡ count k (map key xs) → length (cond b (x ∷ keyed key k xs) (keyed key k xs)) ≡ one_if b + count k (map key xs)
    go true e = omega (arith, e)
    go false e = omega (arith, e)

length_weighed : (as' : List Agg) (vs x : Record) (n : ℕ) → length vs ≡ length as' → length (weighed_all as' vs x n) ≡ length as'
length_weighed [] vs x n e = refl
length_weighed (a ∷ as') [] x n e = absurd (omega (arith, e))
length_weighed (a ∷ as') (v ∷ vs) x n e = ap suc (length_weighed as' vs x n (omega (arith, e)))

pub length_all : (f : Agg → ℤ) (as' : List Agg) → length (map f as') ≡ length as'
length_all f [] = refl
length_all f (a ∷ as') = ap suc (length_all f as')

module _ (key : Record → Record) (as' : List Agg) (keys values xs : List Record) (h : AreGrouped key as' keys values xs) where
  -- as many values as aggregates
  pub as_wide : (p : ℕ) (x : Record) (n : ℕ) → p < length values → length (weighed_all as' (slice_index_or values p []) x n) ≡ length as'
  as_wide p x n less =
      let k = slice_index_or keys p [] in
      length_weighed as' (slice_index_or values p []) x n (ap length (h.values_are p (omega (arith, less, h.as_many))) ∙ length_all (λ a. aggregate a (keyed key k xs)) as')

  found_has : (k : Record) → list_any (λ r. same r k) keys ≡ true → 0 < length (keyed key k xs)
  found_has k e =
      let there : 0 < count k keys = ltb-true 0 (count k keys) (sym (found_counts k keys) ∙ e) in
      more (count k (map key xs)) (length (keyed key k xs)) (how_many key k xs) (subst (λ n. 0 < n) (h.keys_are.counts k ∙ count-distinct k (map key xs)) there)
    where
      more : (n m : ℕ) → m ≡ n → 0 < one_if (nat_lt 0 n) → 0 < m
      more zero m e h = absurd (omega (arith, h))
      more (suc n) m e h = omega (arith, e)

  missing_has : (k : Record) → list_any (λ r. same r k) keys ≡ false → keyed key k xs ≡ []
  missing_has k e =
      let none : count k keys ≤ 0 = ltb-false 0 (count k keys) (sym (found_counts k keys) ∙ e) in
      empty (keyed key k xs) (fewer (count k (map key xs)) (length (keyed key k xs)) (how_many key k xs) (subst (λ n. n ≤ 0) (h.keys_are.counts k ∙ count-distinct k (map key xs)) none))
    where
      fewer : (n m : ℕ) → m ≡ n → one_if (nat_lt 0 n) ≤ 0 → m ≤ 0
      fewer zero m e h = omega (arith, e)
      fewer (suc n) m e h = absurd (let k : one_if (nat_lt 0 (suc n)) ≡ 1 = ap one_if (lt-ltb 0 (suc n) (omega arith)) in omega (arith, h, k))

      empty : (l : List Record) → length l ≤ 0 → l ≡ []
      empty [] g = refl
      empty (y ∷ l) g = absurd (omega (arith, g))

  -- a record of a key that is there, at the place p
  pub grouped_old : (x : Record) (n : ℕ) → 1 ≤ n → (p : ℕ) (more : List Record) → more ≡ cond (list_any (λ r. same r (key x)) keys) keys (keys ++ key x ∷ []) → AreDifferent more → slice_index_or more p [] ≡ key x → p < length values →
      AreGrouped key as' more (slice_set values p (weighed_all as' (slice_index_or values p []) x n)) (xs ++ repeated n x)
  grouped_old x n m p more e different here small =
      let within : p < length keys = omega (arith, small, h.as_many) in
      go within (list_any (λ r. same r (key x)) keys) refl e
    where
      go : p < length keys → (b : Bool) → list_any (λ r. same r (key x)) keys ≡ b → more ≡ cond b keys (keys ++ key x ∷ []) → AreGrouped key as' more (slice_set values p (weighed_all as' (slice_index_or values p []) x n)) (xs ++ repeated n x)
      go within false f g = absurd (true≢false (sym (found_at (key x) keys p within (sym (at_left keys (key x ∷ []) p within) ∙ ap (λ l. slice_index_or l p []) (sym g) ∙ here)) ∙ f))
      go within true f g = record {
        keys_are = keys_more key keys more xs n x false m (ap not (sym f)) g h.keys_are;
        as_many = length_set values (weighed_all as' (slice_index_or values p []) x n) p ∙ h.as_many ∙ ap length (sym g);
        values_are = λ q less. at q (subst (λ l. q < length l) g less) (nat_eq q p) refl;
      }
        where
          at : (q : ℕ) → q < length keys → (b : Bool) → nat_eq q p ≡ b → slice_index_or (slice_set values p (weighed_all as' (slice_index_or values p []) x n)) q [] ≡ map (λ a. aggregate a (keyed key (slice_index_or more q []) (xs ++ repeated n x))) as'
          at q less true s =
              let same_place : q ≡ p = (Decides-eqb q p).0 s in
              ap (λ j. slice_index_or (slice_set values p (weighed_all as' (slice_index_or values p []) x n)) j []) same_place
              ∙ at_set values (weighed_all as' (slice_index_or values p []) x n) p small
              ∙ ap (λ vs. weighed_all as' vs x n) (h.values_are p within ∙ ap (λ l. map (λ a. aggregate a (keyed key (slice_index_or l p []) xs)) as') (sym g) ∙ ap (λ k. map (λ a. aggregate a (keyed key k xs)) as') here)
              ∙ weighed_aggregates as' (keyed key (key x) xs) x n (found_has (key x) f) m
              ∙ ap (λ l. map (λ a. aggregate a l) as') (sym (with_this key (key x) xs n x refl))
              ∙ ap (λ k. map (λ a. aggregate a (keyed key k (xs ++ repeated n x))) as') (sym here ∙ ap (λ n. slice_index_or more n []) (sym same_place))
          at q less false s =
              let other : (q ≡ p → ⊥) = λ t. true≢false (sym ((Decides-eqb q p).1 t) ∙ s) in
              let not_this : (slice_index_or more q [] ≡ key x → ⊥) = λ t. other (different q p (subst (λ l. q < length l) (sym g) less) (subst (λ l. p < length l) (sym g) within) (t ∙ sym here)) in
              beside_set values (weighed_all as' (slice_index_or values p []) x n) p q other ∙ h.values_are q less
              ∙ ap (λ l. map (λ a. aggregate a (keyed key (slice_index_or l q []) xs)) as') (sym g)
              ∙ ap (λ l. map (λ a. aggregate a l) as') (sym (with_other key (slice_index_or more q []) xs n x not_this))

  -- a record of a new key
  pub grouped_new : (x : Record) (n : ℕ) → 1 ≤ n → (p : ℕ) (more : List Record) → more ≡ cond (list_any (λ r. same r (key x)) keys) keys (keys ++ key x ∷ []) → AreDifferent more → p < length more → slice_index_or more p [] ≡ key x → length values ≤ p →
      AreGrouped key as' more (values ++ map (λ a. begun a x n) as' ∷ []) (xs ++ repeated n x)
  grouped_new x n m p more e different small here large = go (list_any (λ r. same r (key x)) keys) refl e
    where
      go : (b : Bool) → list_any (λ r. same r (key x)) keys ≡ b → more ≡ cond b keys (keys ++ key x ∷ []) → AreGrouped key as' more (values ++ map (λ a. begun a x n) as' ∷ []) (xs ++ repeated n x)
      go true f g = absurd (omega (arith, small, ap length g, large, h.as_many))
      go false f g = record {
        keys_are = keys_more key keys more xs n x true m (ap not (sym f)) g h.keys_are;
        as_many = omega (arith, length-append values (map (λ a. begun a x n) as' ∷ []), length-append keys (key x ∷ []), ap length g, h.as_many);
        values_are = λ q less. at q less (nat_lt q (length keys)) refl;
      }
        where
          longer : length more ≡ length keys + 1
          longer = omega (arith, length-append keys (key x ∷ []), ap length g)

          at : (q : ℕ) → q < length more → (b : Bool) → nat_lt q (length keys) ≡ b → slice_index_or (values ++ map (λ a. begun a x n) as' ∷ []) q [] ≡ map (λ a. aggregate a (keyed key (slice_index_or more q []) (xs ++ repeated n x))) as'
          at q less true s =
              let within : q < length keys = ltb-true q (length keys) s in
              let read : slice_index_or more q [] ≡ slice_index_or keys q [] = ap (λ l. slice_index_or l q []) g ∙ at_left keys (key x ∷ []) q within in
              let not_this : (slice_index_or more q [] ≡ key x → ⊥) = λ t. let e : q ≡ p = different q p less small (t ∙ sym here) in omega (arith, within, large, h.as_many, e) in
              at_left values (map (λ a. begun a x n) as' ∷ []) q (omega (arith, within, h.as_many)) ∙ h.values_are q within
              ∙ ap (λ k. map (λ a. aggregate a (keyed key k xs)) as') (sym read)
              ∙ ap (λ l. map (λ a. aggregate a l) as') (sym (with_other key (slice_index_or more q []) xs n x not_this))
          at q less false s =
              let last : q ≡ length keys = (let above : length keys ≤ q = ltb-false q (length keys) s in omega (arith, above, less, longer)) in
              let read : slice_index_or more q [] ≡ key x = ap (λ l. slice_index_or l q []) g ∙ at_end keys (key x) q last in
              at_end values (map (λ a. begun a x n) as') q (last ∙ sym h.as_many) ∙ begun_all as' x n m
              ∙ ap (λ l. map (λ a. aggregate a (l ++ repeated n x)) as') (sym (missing_has (key x) f))
              ∙ ap (λ l. map (λ a. aggregate a l) as') (sym (with_this key (key x) xs n x refl))
              ∙ ap (λ k. map (λ a. aggregate a (keyed key k (xs ++ repeated n x))) as') (sym read)

  -- the records of the groups, each of what is shown of its key
  pub all_shown : (show : Record → Record) (sent : List Record) → sent ≡ map (λ k. show k ++ map (λ a. aggregate a (keyed key k xs)) as') keys → sent ≈ map (λ k. show k ++ map (λ a. aggregate a (keyed key k xs)) as') (each_once (map key xs))
  all_shown show sent e = ≈-trans (≈-from e) (linear_same (map (λ k. show k ++ map (λ a. aggregate a (keyed key k xs)) as')) (map_linear (λ k. show k ++ map (λ a. aggregate a (keyed key k xs)) as')) keys (each_once (map key xs)) h.keys_are)

  pub sent_more : (show : Record → Record) (old new : List Record) (p : ℕ) → p < length keys → old ≡ map (λ k. show k ++ map (λ a. aggregate a (keyed key k xs)) as') (take p keys) → new ≡ old ++ (show (slice_index_or keys p []) ++ slice_index_or values p []) ∷ [] →
      new ≡ map (λ k. show k ++ map (λ a. aggregate a (keyed key k xs)) as') (take (p + 1) keys)
  sent_more show old new p less e f =
      let row : Record → Record = λ k. show k ++ map (λ a. aggregate a (keyed key k xs)) as' in
      f ∙ (λ j. e j ++ (show (slice_index_or keys p []) ++ h.values_are p less j) ∷ []) ∙ sym (map_more row (take p keys) (slice_index_or keys p [])) ∙ ap (map row) (sym (take_one keys p less))

one_key : (k x : Record) (xs : List Record) → each_once (map (λ r. k) (x ∷ xs)) ≡ k ∷ []
one_key k x [] = refl
one_key k x (y ∷ xs) = ap (λ b. cond b (each_once (map (λ r. k) (y ∷ xs))) (k ∷ each_once (map (λ r. k) (y ∷ xs)))) (lt-ltb 0 (count k (map (λ r. k) (y ∷ xs))) (count_here k (map (λ r. k) xs))) ∙ one_key k y xs

-- the records of all groups
pub all_sent : (ks : List ℕ) (as' : List Agg) (keys values xs sent : List Record) → AreGrouped (stored_key ks) as' keys values xs → sent ≡ map (λ k. shown_key ks k ++ map (λ a. aggregate a (keyed (stored_key ks) k xs)) as') keys → sent ≈ grouped ks as' xs
all_sent (k ∷ ks) as' keys values xs sent h e = all_shown (stored_key (k ∷ ks)) as' keys values xs h (shown_key (k ∷ ks)) sent e
all_sent [] as' keys values [] sent h e = all_shown (stored_key []) as' keys values [] h (shown_key []) sent e
all_sent [] as' keys values (x ∷ xs) sent h e =
    ≈-trans (all_shown (stored_key []) as' keys values (x ∷ xs) h (shown_key []) sent e)
    (≈-from (ap (map (λ k. map (λ a. aggregate a (keyed (stored_key []) k (x ∷ xs))) as')) (one_key (pos 0 ∷ []) x xs) ∙ ap (map (λ k. k ++ map (λ a. aggregate a (with_key [] k (x ∷ xs))) as')) (sym (one_key [] x xs))))

-- the groups of one more of counted records
pub runs_more : (P : List Record → Type 0) (xs : List Record) (cs : List Run) (k : ℕ) (row : Record) (n : ℕ) → k < length cs → row ≡ (slice_index_or cs k no_run).row → n ≡ (slice_index_or cs k no_run).count →
    P ((xs ++ expanded (take k cs)) ++ repeated n row) → P (xs ++ expanded (take (k + 1) cs))
runs_more P xs cs k row n h e f p =
    subst P (append_assoc xs (expanded (take k cs)) (repeated n row) ∙ ap (λ l. xs ++ l) ((λ i. expanded (take k cs) ++ repeated (f i) (e i)) ∙ sym (firsts_more cs k h))) p

-- ---- the records of groups are different

-- a row that begins with a key determines the key
begins : (a d t : Record) → one_if (same (a ++ d) t) ≤ one_if (same a (take (length a) t))
begins a d t = go (same (a ++ d) t) refl
  where
    go : (b : Bool) → same (a ++ d) t ≡ b → one_if (same (a ++ d) t) ≤ one_if (same a (take (length a) t))
    go false e = let z = ap one_if e in omega (arith, z)
    go true e =
        let is : a ++ d ≡ t = (Decides-same (a ++ d) t).0 e in
        let z = ap one_if e in
        let w = ap one_if (ap (same a) (ap (take (length a)) (sym is) ∙ take-append_seam a d) ∙ same-refl a) in
        omega (arith, z, w)

rows_once : (n : ℕ) (f : Record → Record) (keys : List Record) (t : Record) → ((y : Record) → 0 < count y keys → length y ≡ n) → count t (map (λ k. k ++ f k) keys) ≤ count (take n t) keys
rows_once n f [] t each = omega arith
rows_once n f (k ∷ keys) t each =
    let i = rows_once n f keys t (λ y l. each y (omega (arith, l))) in
    let z = begins k (f k) t in
    let w = ap (λ m. one_if (same k (take m t))) (each k (count_here k keys)) in
    omega (arith, i, z, w)

projected : (ks : List ℕ) (xs : List Record) (y : Record) → 0 < count y (map (project ks) xs) → length y ≡ length ks
projected ks [] y h = absurd (omega (arith, h))
projected ks (x ∷ xs) y h = go (same (project ks x) y) refl (projected ks xs y)
  where
    go : (b : Bool) → same (project ks x) y ≡ b → (0 < count y (map (project ks) xs) → length y ≡ length ks) → length y ≡ length ks
    go true e i = ap length (sym ((Decides-same (project ks x) y).0 e)) ∙ length-map ks (λ c. field c x)
    go false e i = i (let z = ap one_if e in omega (arith, h, z))

present : (xs : List Record) (y : Record) → 0 < count y (each_once xs) → 0 < count y xs
present xs y h = go (count y xs) (count-distinct y xs)
  where
    go : (n : ℕ) → count y (each_once xs) ≡ one_if (nat_lt 0 n) → 0 < n
    go zero e = absurd (omega (arith, h, e))
    go (suc n) e = omega arith

once_there : (xs : List Record) (y : Record) → count y (each_once xs) ≤ 1
once_there xs y = go (nat_lt 0 (count y xs)) (count-distinct y xs)
  where
    go : (b : Bool) → count y (each_once xs) ≡ one_if b → count y (each_once xs) ≤ 1
    go true e = omega (arith, e)
    go false e = omega (arith, e)

pub groups_different : (ks : List ℕ) (as' : List Agg) (xs rows : List Record) → rows ≈ grouped ks as' xs → AreDifferent rows
groups_different ks as' xs rows h = different_where_once rows (λ r.
    let keys = each_once (map (project ks) xs) in
    let a = rows_once (length ks) (λ k. map (λ a. aggregate a (with_key ks k xs)) as') keys r (λ y l. projected ks xs y (present (map (project ks) xs) y l)) in
    let b = once_there (map (project ks) xs) (take (length ks) r) in
    omega (arith, h.counts r, a, b))
