-- A script of all epochs gives in each of them what the script gives on its rows.
use Rattle.std.proofs.Common.{◌≡◌, ℕ, ◌+◌, nat_eq, nat_lt, Bool, true, false, cond, not, ◌&&◌, List, [], ◌∷◌, ◌++◌, map, filter, length, slice_index_or, zero, suc, refl, sym, ap, ap₂, ◌∙◌, arith, ℤ}
use Rattle.std.specs.List.{AllByRecursion}
use Rattle.std.specs.Ordering.{int_eq}
use Rattle.std.specs.Int.{int_wrap}
use mir.Syntax.{w64}
use Rattle.std.proofs.lemmas.Bool.Decides.{Decides-int_eq}
use mathlib.Core.Path.{fun_ext}
use Rattle.semantics.specs.Multiset.{Record, same, one_if, count, is_present, each_once, ◌≈◌}
use Rattle.semantics.specs.Meaning.{project, program_meaning, Found, only_left}
use Rattle.semantics.specs.Query.{Pair, Program}
use Rattle.semantics.proofs.MultisetSums.{≈-from, ≈-trans}
use Rattle.sql_meaning.specs.Script.{Table, Aggregate, Term, Query, Script}
use Rattle.sql_meaning.specs.ScriptMeaning.{evaluated, is_true, row_pairs, is_joined, joined_rows, aggregated, group_row, Contents, term_rows, found_by, rows_of, contents, answers}
use Rattle.sql_meaning.specs.Translation.{script_of, HaveWords}
use Rattle.sql_meaning.specs.Epochs.{epoch_of, fields_of, HaveEpochs, rows_at, epoch_and, group_row_by_epoch, term_rows_by_epoch, rows_by_epoch, contents_by_epoch, answers_by_epoch}
use Rattle.sql_meaning.proofs.Forms.{filter-append, map-append}
use Rattle.sql_meaning.proofs.Programs.{script_means}
use Rattle.sql_meaning.proofs.RowsWithEpochs.{HasEpoch, HoldEpochs, have_filter, agrees, beside, keys_have, mapped_have, term_have, found_have, contents_have}

-- ---- the rows of one epoch

module _ (e : ℤ) where
  abbrev at : List Record → List Record
  at xs = rows_at e xs

  abbrev is_here : Record → Bool
  is_here r = int_eq (epoch_of r) e

  pub at_front : (x : Record) (xs : List Record) → at (x ∷ xs) ≡ cond (is_here x) (fields_of x ∷ at xs) (at xs)
  at_front x xs = by (is_here x)
    where
      by : (b : Bool) → map fields_of (cond b (x ∷ filter is_here xs) (filter is_here xs)) ≡ cond b (fields_of x ∷ at xs) (at xs)
      by true = refl
      by false = refl

  at_append : (xs ys : List Record) → at (xs ++ ys) ≡ at xs ++ at ys
  at_append [] ys = refl
  at_append (x ∷ xs) ys = at_front x (xs ++ ys) ∙ by (is_here x) (at_append xs ys) ∙ ap (λ l. l ++ at ys) (sym (at_front x xs))
    where
      by : (b : Bool) → at (xs ++ ys) ≡ at xs ++ at ys → cond b (fields_of x ∷ at (xs ++ ys)) (at (xs ++ ys)) ≡ cond b (fields_of x ∷ at xs) (at xs) ++ at ys
      by true i = ap (λ l. fields_of x ∷ l) i
      by false i = i

  -- a function that keeps epochs
  at_map : (f g : Record → Record) → ((r : Record) → HasEpoch r → is_here (f r) ≡ is_here r) → ((r : Record) → HasEpoch r → is_here r ≡ true → fields_of (f r) ≡ g (fields_of r)) → (xs : List Record) → HaveEpochs xs → at (map f xs) ≡ map g (at xs)
  at_map f g k l [] h = refl
  at_map f g k l (x ∷ xs) h = at_front (f x) (map f xs) ∙ rw (k x h.0) (by (is_here x) refl (at_map f g k l xs h.1)) ∙ ap (map g) (sym (at_front x xs))
    where
      by : (b : Bool) → is_here x ≡ b → at (map f xs) ≡ map g (at xs) → cond b (fields_of (f x) ∷ at (map f xs)) (at (map f xs)) ≡ map g (cond b (fields_of x ∷ at xs) (at xs))
      by true t i = ap₂ (λ y ys. y ∷ ys) (l x h.0 t) i
      by false t i = i

  -- a test that asks, in this epoch, only the fields
  at_filter : (p q : Record → Bool) → ((r : Record) → HasEpoch r → is_here r ≡ true → p r ≡ q (fields_of r)) → (xs : List Record) → HaveEpochs xs → at (filter p xs) ≡ filter q (at xs)
  at_filter p q k [] h = refl
  at_filter p q k (x ∷ xs) h = by (is_here x) refl (p x) refl (at_filter p q k xs h.1) ∙ ap (filter q) (sym (at_front x xs))
    where
      kept : (b c : Bool) → is_here x ≡ b → at (filter p xs) ≡ filter q (at xs) → at (cond c (x ∷ filter p xs) (filter p xs)) ≡ cond b (cond c (fields_of x ∷ filter q (at xs)) (filter q (at xs))) (filter q (at xs))
      kept true true t i = at_front x (filter p xs) ∙ rw t (ap (λ l. fields_of x ∷ l) i)
      kept false true t i = at_front x (filter p xs) ∙ rw t i
      kept true false t i = i
      kept false false t i = i

      by : (b : Bool) → is_here x ≡ b → (c : Bool) → p x ≡ c → at (filter p xs) ≡ filter q (at xs) → at (cond c (x ∷ filter p xs) (filter p xs)) ≡ filter q (cond b (fields_of x ∷ at xs) (at xs))
      by true t c s i = kept true c t i ∙ ap (λ d. cond d (fields_of x ∷ filter q (at xs)) (filter q (at xs))) (sym s ∙ k x h.0 t)
      by false t c s i = kept false c t i

  here_is : (z : ℤ) → int_eq z e ≡ true → z ≡ e
  here_is z t = (Decides-int_eq z e).0 t

  at_count : (k : Record) (xs : List Record) → HaveEpochs xs → count (e ∷ k) xs ≡ count k (at xs)
  at_count k [] h = refl
  at_count k ([] ∷ xs) h = absurd (omega (arith, h.0))
  at_count k ((z ∷ x) ∷ xs) h = by (int_eq z e) (at_count k xs h.1) ∙ ap (count k) (sym (at_front (z ∷ x) xs))
    where
      by : (b : Bool) → count (e ∷ k) xs ≡ count k (at xs) → one_if (b && same x k) + count (e ∷ k) xs ≡ count k (cond b (x ∷ at xs) (at xs))
      by true i = ap (λ n. one_if (same x k) + n) i
      by false i = omega (arith, i)

  at_present : (xs : List Record) → HaveEpochs xs → (r : Record) → HasEpoch r → is_here r ≡ true → is_present r xs ≡ is_present (fields_of r) (at xs)
  at_present xs h [] k t = absurd (omega arith)
  at_present xs h (z ∷ r) k t = ap (λ y. is_present (y ∷ r) xs) (here_is z t) ∙ ap (nat_lt 0) (at_count r xs h)

  pub at_once : (xs : List Record) → HaveEpochs xs → at (each_once xs) ≡ each_once (at xs)
  at_once [] h = refl
  at_once (x ∷ xs) h = by (is_here x) refl (is_present x xs) refl (at_once xs h.1) ∙ ap each_once (sym (at_front x xs))
    where
      kept : (b c : Bool) → is_here x ≡ b → at (each_once xs) ≡ each_once (at xs) → at (cond c (each_once xs) (x ∷ each_once xs)) ≡ cond b (cond c (each_once (at xs)) (fields_of x ∷ each_once (at xs))) (each_once (at xs))
      kept true false t i = at_front x (each_once xs) ∙ rw t (ap (λ l. fields_of x ∷ l) i)
      kept false false t i = at_front x (each_once xs) ∙ rw t i
      kept true true t i = i
      kept false true t i = i

      by : (b : Bool) → is_here x ≡ b → (c : Bool) → is_present x xs ≡ c → at (each_once xs) ≡ each_once (at xs) → at (cond c (each_once xs) (x ∷ each_once xs)) ≡ each_once (cond b (fields_of x ∷ at xs) (at xs))
      by true t c s i = kept true c t i ∙ ap (λ d. cond d (each_once (at xs)) (fields_of x ∷ each_once (at xs))) (sym s ∙ at_present xs h.1 x h.0 t)
      by false t c s i = kept false c t i

  -- ---- groups

  pub of_group : (ks : List ℕ) (k : Record) (xs : List Record) → map fields_of (filter (λ r. same (epoch_and ks r) (e ∷ k)) xs) ≡ filter (λ r. same (project ks r) k) (at xs)
  of_group ks k [] = refl
  of_group ks k (x ∷ xs) = by (is_here x) (same (project ks (fields_of x)) k) refl (of_group ks k xs) ∙ ap (filter (λ r. same (project ks r) k)) (sym (at_front x xs))
    where
      rest : List Record
      rest = filter (λ r. same (epoch_and ks r) (e ∷ k)) xs

      by : (b c : Bool) → same (project ks (fields_of x)) k ≡ c → map fields_of rest ≡ filter (λ r. same (project ks r) k) (at xs) →
          map fields_of (cond (b && c) (x ∷ rest) rest) ≡ filter (λ r. same (project ks r) k) (cond b (fields_of x ∷ at xs) (at xs))
      by true true s i = ap (λ l. fields_of x ∷ l) i ∙ ap (λ d. cond d (fields_of x ∷ filter (λ r. same (project ks r) k) (at xs)) (filter (λ r. same (project ks r) k) (at xs))) (sym s)
      by true false s i = i ∙ ap (λ d. cond d (fields_of x ∷ filter (λ r. same (project ks r) k) (at xs)) (filter (λ r. same (project ks r) k) (at xs))) (sym s)
      by false c s i = i

  group_fields : (ks : List ℕ) (as' : List Aggregate) (xs : List Record) (key : Record) → HasEpoch key → is_here key ≡ true → fields_of (group_row_by_epoch ks as' xs key) ≡ group_row ks as' (at xs) (fields_of key)
  group_fields ks as' xs [] h t = absurd (omega arith)
  group_fields ks as' xs (z ∷ k) h t =
      rw (here_is z t) (ap (λ f. k ++ map f as') (fun_ext (λ a. ap (aggregated a) (of_group ks k xs))))

  group_here : (ks : List ℕ) (as' : List Aggregate) (xs : List Record) (key : Record) → HasEpoch key → is_here (group_row_by_epoch ks as' xs key) ≡ is_here key
  group_here ks as' xs [] h = absurd (omega arith)
  group_here ks as' xs (z ∷ k) h = refl

  pub at_keys : (ks : List ℕ) (xs : List Record) → HaveEpochs xs → at (map (epoch_and ks) xs) ≡ map (project ks) (at xs)
  at_keys ks xs h = at_map (epoch_and ks) (project ks) (λ r k. refl) (λ r k t. refl) xs h

  at_groups : (ks : List ℕ) (as' : List Aggregate) (xs : List Record) → HaveEpochs xs → at (map (group_row_by_epoch ks as' xs) (each_once (map (epoch_and ks) xs))) ≡ map (group_row ks as' (at xs)) (each_once (map (project ks) (at xs)))
  at_groups ks as' xs h =
      at_map (group_row_by_epoch ks as' xs) (group_row ks as' (at xs)) (group_here ks as' xs) (group_fields ks as' xs) (each_once (map (epoch_and ks) xs)) (keys_have ks xs h)
      ∙ ap (map (group_row ks as' (at xs))) (at_once (map (epoch_and ks) xs) (mapped_have ks xs h) ∙ ap each_once (at_keys ks xs h))

  -- ---- joins

  abbrev whole : Record × Record → Record
  whole x = x.0 ++ x.1

  abbrev fits : List Pair → Record × Record → Bool
  fits ps x = is_joined ps x.0 x.1

  same_epoch : (a b : ℤ) → int_eq a e ≡ true → int_eq a b ≡ int_eq b e
  same_epoch a b t = rw (here_is a t) (by (int_eq b e) refl)
    where
      by : (c : Bool) → int_eq b e ≡ c → int_eq e b ≡ c
      by true s = (Decides-int_eq e b).1 (sym (here_is b s))
      by false s = other (int_eq e b) refl
        where
          other : (d : Bool) → int_eq e b ≡ d → d ≡ false
          other true u = (let t : true ≡ false = sym ((Decides-int_eq b e).1 (sym ((Decides-int_eq e b).0 u))) ∙ s in absurd cc)
          other false u = refl

  beside_here : (x y : Record) → HasEpoch x → is_here (x ++ fields_of y) ≡ is_here x
  beside_here [] y h = absurd (omega arith)
  beside_here (z ∷ x) y h = refl

  beside_fields : (x y : Record) → HasEpoch x → fields_of (x ++ fields_of y) ≡ fields_of x ++ fields_of y
  beside_fields [] y h = absurd (omega arith)
  beside_fields (z ∷ x) y h = refl

  with_none : (ps : List Pair) (x : Record) → HasEpoch x → is_here x ≡ false → (ys : List Record) → at (map beside (filter (agrees ps) (map (λ b. (x, b)) ys))) ≡ []
  with_none ps x h t [] = refl
  with_none ps x h t (y ∷ ys) = by (agrees ps (x, y)) (with_none ps x h t ys)
    where
      rest : List (Record × Record)
      rest = filter (agrees ps) (map (λ b. (x, b)) ys)

      by : (c : Bool) → at (map beside rest) ≡ [] → at (map beside (cond c ((x, y) ∷ rest) rest)) ≡ []
      by true i = at_front (x ++ fields_of y) (map beside rest) ∙ rw (beside_here x y h, t) i
      by false i = i

  with_one : (ps : List Pair) (x : Record) → HasEpoch x → is_here x ≡ true → (ys : List Record) →
      at (map beside (filter (agrees ps) (map (λ b. (x, b)) ys))) ≡ map whole (filter (fits ps) (map (λ b. (fields_of x, b)) (at ys)))
  with_one ps x h t [] = refl
  with_one ps x h t (y ∷ ys) =
      rw (same_epoch (epoch_of x) (epoch_of y) t) (by (is_here y) (is_joined ps (fields_of x) (fields_of y)) refl (with_one ps x h t ys))
      ∙ ap (λ l. map whole (filter (fits ps) (map (λ b. (fields_of x, b)) l))) (sym (at_front y ys))
    where
      rest : List (Record × Record)
      rest = filter (agrees ps) (map (λ b. (x, b)) ys)

      later : List (Record × Record)
      later = filter (fits ps) (map (λ b. (fields_of x, b)) (at ys))

      by : (b c : Bool) → is_joined ps (fields_of x) (fields_of y) ≡ c → at (map beside rest) ≡ map whole later →
          at (map beside (cond (b && c) ((x, y) ∷ rest) rest)) ≡ map whole (filter (fits ps) (map (λ b. (fields_of x, b)) (cond b (fields_of y ∷ at ys) (at ys))))
      by true true s i = at_front (x ++ fields_of y) (map beside rest) ∙ rw (beside_here x y h, t, beside_fields x y h, s) (ap (λ l. (fields_of x ++ fields_of y) ∷ l) i)
      by true false s i = rw s i
      by false c s i = i

  at_join : (ps : List Pair) (xs : List Record) → HaveEpochs xs → (ys : List Record) → at (map beside (filter (agrees ps) (row_pairs xs ys))) ≡ map whole (filter (fits ps) (row_pairs (at xs) (at ys)))
  at_join ps [] h ys = refl
  at_join ps (x ∷ xs) h ys =
      ap (λ l. at (map beside l)) (filter-append (agrees ps) (map (λ b. (x, b)) ys) (row_pairs xs ys))
      ∙ ap at (map-append beside (filter (agrees ps) (map (λ b. (x, b)) ys)) (filter (agrees ps) (row_pairs xs ys)))
      ∙ at_append (map beside (filter (agrees ps) (map (λ b. (x, b)) ys))) (map beside (filter (agrees ps) (row_pairs xs ys)))
      ∙ by (is_here x) refl (at_join ps xs h.1 ys)
      ∙ ap (λ l. map whole (filter (fits ps) (row_pairs l (at ys)))) (sym (at_front x xs))
    where
      by : (b : Bool) → is_here x ≡ b → at (map beside (filter (agrees ps) (row_pairs xs ys))) ≡ map whole (filter (fits ps) (row_pairs (at xs) (at ys))) →
          at (map beside (filter (agrees ps) (map (λ b. (x, b)) ys))) ++ at (map beside (filter (agrees ps) (row_pairs xs ys))) ≡ map whole (filter (fits ps) (row_pairs (cond b (fields_of x ∷ at xs) (at xs)) (at ys)))
      by true t i =
          ap₂ (λ l r. l ++ r) (with_one ps x h.0 t ys) i
          ∙ sym (ap (map whole) (filter-append (fits ps) (map (λ b. (fields_of x, b)) (at ys)) (row_pairs (at xs) (at ys)))
          ∙ map-append whole (filter (fits ps) (map (λ b. (fields_of x, b)) (at ys))) (filter (fits ps) (row_pairs (at xs) (at ys))))
      by false t i = ap₂ (λ l r. l ++ r) (with_none ps x h.0 t ys) i

  -- ---- recursive tables

  at_left : (xs ys : List Record) → HaveEpochs xs → HaveEpochs ys → at (only_left xs ys) ≡ only_left (at xs) (at ys)
  at_left xs ys h k =
      at_once (filter (λ r. not (is_present r ys)) xs) (have_filter (λ r. not (is_present r ys)) xs h)
      ∙ ap each_once (at_filter (λ r. not (is_present r ys)) (λ r. not (is_present r (at ys))) (λ r l s. ap not (at_present ys k r l s)) xs h)

  pub term_apart : (m : Term) (holds : Contents) → HoldEpochs holds → (xs : List Record) → HaveEpochs xs → at (term_rows_by_epoch m holds xs) ≡ term_rows m (λ t. at (holds t)) (at xs)
  term_apart Term.latest holds h xs k = refl
  term_apart (Term.select es m) holds h xs k =
      at_map (λ r. epoch_of r ∷ map (λ x. evaluated x (fields_of r)) es) (λ r. map (λ x. evaluated x r) es) (λ r l. refl) (λ r l s. refl) (term_rows_by_epoch m holds xs) (term_have m holds h xs k)
      ∙ ap (map (λ r. map (λ x. evaluated x r) es)) (term_apart m holds h xs k)
  term_apart (Term.select_where m c) holds h xs k =
      at_filter (λ r. is_true c (fields_of r)) (is_true c) (λ r l s. refl) (term_rows_by_epoch m holds xs) (term_have m holds h xs k)
      ∙ ap (filter (is_true c)) (term_apart m holds h xs k)
  term_apart (Term.join_left m t ps) holds h xs k =
      at_join ps (term_rows_by_epoch m holds xs) (term_have m holds h xs k) (holds t) ∙ ap (λ ys. joined_rows ps ys (at (holds t))) (term_apart m holds h xs k)
  term_apart (Term.join_right t m ps) holds h xs k =
      at_join ps (holds t) (h t) (term_rows_by_epoch m holds xs) ∙ ap (joined_rows ps (at (holds t))) (term_apart m holds h xs k)

  pub record FoundApart (s u : Found) : Type 0 where
    pub all : at s.all ≡ u.all
    pub latest : at s.latest ≡ u.latest

  pub found_apart : (f g : List Record → List Record) → ((xs : List Record) → HaveEpochs xs → HaveEpochs (f xs)) → ((xs : List Record) → HaveEpochs xs → at (f xs) ≡ g (at xs)) → (n : ℕ) (xs : List Record) → HaveEpochs xs → FoundApart (found_by f n xs) (found_by g n (at xs))
  found_apart f g k apart zero xs h = record { all = at_once xs h; latest = at_once xs h }
  found_apart f g k apart (suc n) xs h =
      let s = found_by f n xs in
      let u = found_by g n (at xs) in
      let have = found_have f k n xs h in
      let before = found_apart f g k apart n xs h in
      let new : at (only_left (f s.latest) s.all) ≡ only_left (g u.latest) u.all =
      at_left (f s.latest) s.all (k s.latest have.latest) have.all ∙ ap₂ only_left (apart s.latest have.latest ∙ ap g before.latest) before.all in
      record { all = at_append s.all (only_left (f s.latest) s.all) ∙ ap₂ (λ l r. l ++ r) before.all new; latest = new }

  -- ---- queries and scripts

  pub rows_apart : (q : Query) (holds : Contents) → HoldEpochs holds → at (rows_by_epoch q holds) ≡ rows_of q (λ t. at (holds t))
  unfolding rows_by_epoch rows_of
  rows_apart (Query.select es t) holds h = at_map (λ r. epoch_of r ∷ map (λ x. evaluated x (fields_of r)) es) (λ r. map (λ x. evaluated x r) es) (λ r k. refl) (λ r k s. refl) (holds t) (h t)
  rows_apart (Query.select_where t c) holds h = at_filter (λ r. is_true c (fields_of r)) (is_true c) (λ r k s. refl) (holds t) (h t)
  rows_apart (Query.select_join t u ps) holds h = at_join ps (holds t) (h t) (holds u)
  rows_apart (Query.select_group ks as' t) holds h = at_groups ks as' (holds t) (h t)
  rows_apart (Query.select_distinct t) holds h = at_once (holds t) (h t)
  rows_apart (Query.union_all t u) holds h = at_append (holds t) (holds u)
  rows_apart (Query.except t u) holds h = at_left (holds t) (holds u) (h t) (h u)
  rows_apart (Query.intersect t u) holds h =
      at_once (filter (λ r. is_present r (holds u)) (holds t)) (have_filter (λ r. is_present r (holds u)) (holds t) (h t))
      ∙ ap each_once (at_filter (λ r. is_present r (holds u)) (λ r. is_present r (at (holds u))) (λ r k s. at_present (holds u) (h u) r k s) (holds t) (h t))
  rows_apart (Query.recursive n t m) holds h =
      (found_apart (term_rows_by_epoch m holds) (term_rows m (λ t. at (holds t))) (term_have m holds h) (term_apart m holds h) n (holds t) (h t)).all

  at_given : (tables : List (List Record)) (i : ℕ) → slice_index_or (map at tables) i [] ≡ at (slice_index_or tables i [])
  at_given [] i = refl
  at_given (t ∷ ts) zero = refl
  at_given (t ∷ ts) (suc i) = at_given ts i

  module _ (tables : List (List Record)) (h : AllByRecursion HaveEpochs tables) where
    at_cond : (b : Bool) (xs ys : List Record) → at (cond b xs ys) ≡ cond b (at xs) (at ys)
    at_cond true xs ys = refl
    at_cond false xs ys = refl

    pub contents_apart : (qs : List Query) (t : Table) → at (contents_by_epoch qs tables t) ≡ contents qs (map at tables) t
    contents_apart [] (Table.given i) = sym (at_given tables i)
    contents_apart [] (Table.made n) = refl
    contents_apart (q ∷ earlier) (Table.given i) = contents_apart earlier (Table.given i)
    contents_apart (q ∷ earlier) (Table.made n) =
        at_cond (nat_eq n (length earlier)) (rows_by_epoch q (contents_by_epoch earlier tables)) (contents_by_epoch earlier tables (Table.made n))
        ∙ ap₂ (λ l r. cond (nat_eq n (length earlier)) l r)
        (rows_apart q (contents_by_epoch earlier tables) (contents_have tables h earlier) ∙ ap (rows_of q) (fun_ext (contents_apart earlier))) (contents_apart earlier (Table.made n))

    results_apart : (qs : List Query) (ts : List Table) → map at (map (contents_by_epoch qs tables) ts) ≡ map (contents qs (map at tables)) ts
    results_apart qs [] = refl
    results_apart qs (t ∷ ts) = ap₂ (λ l r. l ∷ r) (contents_apart qs t) (results_apart qs ts)

    pub answers_apart : (s : Script) (output : ℕ) → at (slice_index_or (answers_by_epoch s tables) output []) ≡ slice_index_or (answers s (map at tables)) output []
    answers_apart s output = sym (at_given (answers_by_epoch s tables) output) ∙ ap (λ l. slice_index_or l output []) (results_apart s.tables s.results)

-- ---- words

fields_words : (r : Record) → AllByRecursion (λ (z : ℤ). int_wrap w64 z ≡ z) r → AllByRecursion (λ (z : ℤ). int_wrap w64 z ≡ z) (fields_of r)
fields_words [] h = tt
fields_words (z ∷ r) h = h.1

at_words : (e : ℤ) (xs : List Record) → HaveWords xs → HaveWords (rows_at e xs)
at_words e [] h = tt
at_words e (x ∷ xs) h = by (int_eq (epoch_of x) e) (at_words e xs h.1)
  where
    by : (b : Bool) → HaveWords (rows_at e xs) → HaveWords (map fields_of (cond b (x ∷ filter (λ r. int_eq (epoch_of r) e) xs) (filter (λ r. int_eq (epoch_of r) e) xs)))
    by true i = (fields_words x h.0, i)
    by false i = i

tables_words : (e : ℤ) (ts : List (List Record)) → AllByRecursion HaveWords ts → AllByRecursion HaveWords (map (rows_at e) ts)
tables_words e [] h = tt
tables_words e (t ∷ ts) h = (at_words e t h.0, tables_words e ts h.1)

as_many : (e : ℤ) (ts : List (List Record)) → length (map (rows_at e) ts) ≡ length ts
as_many e [] = refl
as_many e (t ∷ ts) = ap (λ n. suc n) (as_many e ts)

pub epochs_apart : (recursive : Bool) (p : Program) (output : ℕ) (tables : List (List Record)) (e : ℤ) → length tables ≡ length p.inputs → AllByRecursion HaveWords tables → AllByRecursion HaveEpochs tables →
    rows_at e (slice_index_or (answers_by_epoch (script_of recursive p) tables) output []) ≈ program_meaning p output (λ i. rows_at e (slice_index_or tables i []))
epochs_apart recursive p output tables e l w h =
    let means : slice_index_or (answers (script_of recursive p) (map (rows_at e) tables)) output [] ≈ program_meaning p output (λ i. slice_index_or (map (rows_at e) tables) i []) =
    script_means recursive p output (map (rows_at e) tables) (as_many e tables ∙ l) (tables_words e tables w) in
    let names : (λ (i : ℕ). slice_index_or (map (rows_at e) tables) i []) ≡ (λ i. rows_at e (slice_index_or tables i [])) = fun_ext (at_given e tables) in
    ≈-trans (≈-from (answers_apart e tables h (script_of recursive p) output)) (≈-trans means (≈-from (ap (program_meaning p output) names)))
