-- What a relation means has 64-bit fields, if what the names mean has.
use Rattle.std.proofs.Common.{◌≡◌, ℕ, zero, suc, Bool, true, false, cond, not, List, [], ◌∷◌, ◌++◌, map, filter, flat_map, sym, subst, arith, inl, inr, ◌⊎◌, ℤ}
use Rattle.std.specs.List.{AllByRecursion}
use Rattle.std.specs.Int.{int_min, int_max}
use Rattle.std.proofs.lemmas.Int.{ints, clamps, by_lt_z}
use Rattle.semantics.specs.Multiset.{Record, same, is_present, each_once}
use Rattle.semantics.specs.Meaning.{field, value, exact, holds, project, reduced, reduced_from, aggregate, left_columns, right_columns, with_key, same_name, Names, bind, repeated, meaning, only_left, Found, found_first, found_next, after_turns}
use Rattle.semantics.specs.Query.{Scalar, Agg, Name, Loop, Rel}
use Rattle.sql_meaning.specs.Translation.{HaveWords}
use Rattle.sql_meaning.proofs.Expressions.{IsWord, Words, wrap_twice, zero_wraps, word-field}

words_append : (a b : Record) → Words a → Words b → Words (a ++ b)
words_append [] b h k = k
words_append (z ∷ a) b h k = (h.0, words_append a b h.1 k)

pub rows_append : (xs ys : List Record) → HaveWords xs → HaveWords ys → HaveWords (xs ++ ys)
rows_append [] ys h k = k
rows_append (x ∷ xs) ys h k = (h.0, rows_append xs ys h.1 k)

rows_filter : (p : Record → Bool) (xs : List Record) → HaveWords xs → HaveWords (filter p xs)
rows_filter p [] h = tt
rows_filter p (x ∷ xs) h = go (p x) (rows_filter p xs h.1)
  where
    go : (b : Bool) → HaveWords (filter p xs) → HaveWords (cond b (x ∷ filter p xs) (filter p xs))
    go true ih = (h.0, ih)
    go false ih = ih

rows_once : (xs : List Record) → HaveWords xs → HaveWords (each_once xs)
rows_once [] h = tt
rows_once (x ∷ xs) h = go (is_present x xs) (rows_once xs h.1)
  where
    go : (b : Bool) → HaveWords (each_once xs) → HaveWords (cond b (each_once xs) (x ∷ each_once xs))
    go true ih = ih
    go false ih = (h.0, ih)

rows_map : (f : Record → Record) → ((r : Record) → Words r → Words (f r)) → (xs : List Record) → HaveWords xs → HaveWords (map f xs)
rows_map f k [] h = tt
rows_map f k (x ∷ xs) h = (k x h.0, rows_map f k xs h.1)

rows_flat_map : (f : Record → List Record) → ((r : Record) → Words r → HaveWords (f r)) → (xs : List Record) → HaveWords xs → HaveWords (flat_map f xs)
rows_flat_map f k [] h = tt
rows_flat_map f k (x ∷ xs) h = rows_append (f x) (flat_map f xs) (k x h.0) (rows_flat_map f k xs h.1)

words_values : (ss : List Scalar) (r : Record) → Words (map (λ s. value s r) ss)
words_values [] r = tt
words_values (s ∷ ss) r = (wrap_twice (exact s r), words_values ss r)

words_project : (ks : List ℕ) (r : Record) → Words r → Words (project ks r)
words_project [] r h = tt
words_project (k ∷ ks) r h = (word-field k r h, words_project ks r h)

word_min : (a b : ℤ) → IsWord a → IsWord b → IsWord (int_min a b)
word_min a b h k = go one_of
  where
    one_of : (int_min a b ≡ a) ⊎ (int_min a b ≡ b)
    one_of = by_lt_z a b (λ h. inl (omega (arith, ints, clamps))) (λ h. inr (omega (arith, ints, clamps)))

    go : (int_min a b ≡ a) ⊎ (int_min a b ≡ b) → IsWord (int_min a b)
    go (inl e) = subst IsWord (sym e) h
    go (inr e) = subst IsWord (sym e) k

word_max : (a b : ℤ) → IsWord a → IsWord b → IsWord (int_max a b)
word_max a b h k = go one_of
  where
    one_of : (int_max a b ≡ a) ⊎ (int_max a b ≡ b)
    one_of = by_lt_z a b (λ h. inr (omega (arith, ints, clamps))) (λ h. inl (omega (arith, ints, clamps)))

    go : (int_max a b ≡ a) ⊎ (int_max a b ≡ b) → IsWord (int_max a b)
    go (inl e) = subst IsWord (sym e) h
    go (inr e) = subst IsWord (sym e) k

word_reduced_from : (f : ℤ → ℤ → ℤ) → ((a b : ℤ) → IsWord a → IsWord b → IsWord (f a b)) → (z : ℤ) (zs : List ℤ) → IsWord z → AllByRecursion IsWord zs → IsWord (reduced_from f z zs)
word_reduced_from f k z [] h i = h
word_reduced_from f k z (w ∷ ws) h i = k z (reduced_from f w ws) h (word_reduced_from f k w ws i.0 i.1)

word_reduced : (f : ℤ → ℤ → ℤ) → ((a b : ℤ) → IsWord a → IsWord b → IsWord (f a b)) → (zs : List ℤ) → AllByRecursion IsWord zs → IsWord (reduced f zs)
word_reduced f k [] i = zero_wraps
word_reduced f k (z ∷ zs) i = word_reduced_from f k z zs i.0 i.1

words_column : (c : ℕ) (xs : List Record) → HaveWords xs → AllByRecursion IsWord (map (field c) xs)
words_column c [] h = tt
words_column c (x ∷ xs) h = (word-field c x h.0, words_column c xs h.1)

word_aggregate : (a : Agg) (xs : List Record) → HaveWords xs → IsWord (aggregate a xs)
word_aggregate Agg.count xs h = wrap_twice _
word_aggregate (Agg.sum c) xs h = wrap_twice _
word_aggregate (Agg.min c) xs h = word_reduced int_min word_min (map (field c) xs) (words_column c xs h)
word_aggregate (Agg.max c) xs h = word_reduced int_max word_max (map (field c) xs) (words_column c xs h)

words_aggregates : (as' : List Agg) (xs : List Record) → HaveWords xs → Words (map (λ a. aggregate a xs) as')
words_aggregates [] xs h = tt
words_aggregates (a ∷ as') xs h = (word_aggregate a xs h, words_aggregates as' xs h)

pub bound_words : (x : Name) (xs : List Record) (names : Names) → HaveWords xs → ((y : Name) → HaveWords (names y)) → (y : Name) → HaveWords (bind x xs names y)
bound_words x xs names h k y = by (same_name x y)
  where
    by : (b : Bool) → HaveWords (cond b xs (names y))
    by true = h
    by false = k y

pub turns_keep_words : (f : List Record → List Record) → ((xs : List Record) → HaveWords xs → HaveWords (f xs)) → (n : ℕ) (xs : List Record) → HaveWords xs → HaveWords (repeated f n xs)
turns_keep_words f k zero xs h = h
turns_keep_words f k (suc n) xs h = k (repeated f n xs) (turns_keep_words f k n xs h)

rows_only_left : (xs ys : List Record) → HaveWords xs → HaveWords (only_left xs ys)
rows_only_left xs ys h = rows_once _ (rows_filter (λ r. not (is_present r ys)) xs h)

abbrev pub FoundWords : Found → Type 0
FoundWords s = HaveWords s.all × HaveWords s.latest

pub found_words : (f : List Record → List Record) → ((xs : List Record) → HaveWords xs → HaveWords (f xs)) → (n : ℕ) (xs : List Record) → HaveWords xs → FoundWords (repeated (found_next f) n (found_first xs))
found_words f k zero xs h = (rows_once xs h, rows_once xs h)
found_words f k (suc n) xs h =
    let s = repeated (found_next f) n (found_first xs) in
    let w = found_words f k n xs h in
    let new = rows_only_left (f s.latest) s.all (k s.latest w.1) in
    (rows_append s.all (only_left (f s.latest) s.all) w.0 new, new)

loop_words : (l : Loop) (f : List Record → List Record) → ((xs : List Record) → HaveWords xs → HaveWords (f xs)) → (n : ℕ) (xs : List Record) → HaveWords xs → HaveWords (after_turns l f n xs)
loop_words Loop.iterate f k n xs h = turns_keep_words f k n xs h
loop_words Loop.closure f k n xs h = (found_words f k n xs h).0

pub meaning_words : (r : Rel) (names : Names) → ((y : Name) → HaveWords (names y)) → HaveWords (meaning r names)
unfolding meaning
meaning_words (Rel.named x) names h = h x
meaning_words (Rel.select r ss) names h = rows_map (λ r. map (λ s. value s r) ss) (λ r k. words_values ss r) (meaning r names) (meaning_words r names h)
meaning_words (Rel.filter r c) names h = rows_filter (holds c) (meaning r names) (meaning_words r names h)
meaning_words (Rel.concat p q) names h = rows_append (meaning p names) (meaning q names) (meaning_words p names h) (meaning_words q names h)
meaning_words (Rel.join p q ps) names h =
    let b = meaning_words q names h in
    rows_flat_map (λ a. map (λ b. a ++ b) (filter (λ b. same (project (left_columns ps) a) (project (right_columns ps) b)) (meaning q names)))
    (λ a k. rows_map (λ b. a ++ b) (λ b l. words_append a b k l) _ (rows_filter (λ b. same (project (left_columns ps) a) (project (right_columns ps) b)) (meaning q names) b))
    (meaning p names) (meaning_words p names h)
meaning_words (Rel.group r ks as') names h =
    let a = meaning_words r names h in
    rows_map (λ k. k ++ map (λ a. aggregate a (with_key ks k (meaning r names))) as')
    (λ k l. words_append k _ l (words_aggregates as' (with_key ks k (meaning r names)) (rows_filter (λ r. same (project ks r) k) (meaning r names) a)))
    (each_once (map (project ks) (meaning r names)))
    (rows_once (map (project ks) (meaning r names)) (rows_map (project ks) (words_project ks) (meaning r names) a))
meaning_words (Rel.distinct r) names h = rows_once (meaning r names) (meaning_words r names h)
meaning_words (Rel.except p q) names h = rows_once _ (rows_filter (λ r. not (is_present r (meaning q names))) (meaning p names) (meaning_words p names h))
meaning_words (Rel.intersect p q) names h = rows_once _ (rows_filter (λ r. is_present r (meaning q names)) (meaning p names) (meaning_words p names h))
meaning_words (Rel.loop l n x r b) names h =
    loop_words l (λ xs. meaning b (bind x xs names)) (λ xs k. meaning_words b (bind x xs names) (bound_words x xs names k h)) n (meaning r names) (meaning_words r names h)
