-- A script of all epochs without wrapping answers as the script with it, where nothing is an error in any epoch.
use Rattle.std.proofs.Common.{◌≡◌, ℕ, ℤ, Bool, true, false, cond, List, [], ◌∷◌, ◌++◌, map, filter, length, refl, sym, subst, ap, ap₂, ◌∙◌, arith}
use Rattle.std.specs.List.{AllByRecursion}
use Rattle.std.specs.Ordering.{int_eq}
use Rattle.std.specs.Int.{int_wrap}
use Rattle.std.proofs.lemmas.Bool.Decides.{Decides-int_eq}
use mir.Syntax.{w64}
use mathlib.Core.Path.{fun_ext}
use Rattle.semantics.specs.Multiset.{Record, same, each_once}
use Rattle.semantics.specs.Meaning.{Found}
use Rattle.sql_meaning.specs.Script.{Expression, Search, Aggregate, Term, Query, Script, Table}
use Rattle.sql_meaning.specs.ScriptMeaning.{evaluated, is_true, aggregated, Contents, term_rows, found_by, with_table}
use Rattle.sql_meaning.specs.Plain.{HasNoError}
use Rattle.sql_meaning.specs.PlainScript.{unwrapped, unwrapped_search, unwrapped_term, SearchHasNoError, TermHasNoError, exactly_aggregated, group_value, QueryHasNoError, plain_contents}
use Rattle.sql_meaning.specs.Epochs.{epoch_of, fields_of, HaveEpochs, rows_at, epoch_and, group_row_by_epoch, joined_by_epoch, term_rows_by_epoch, rows_by_epoch, contents_by_epoch, answers_by_epoch}
use Rattle.sql_meaning.specs.PlainEpochs.{exact_row_by_epoch, plain_rows_by_epoch, plain_contents_by_epoch, plain_answers_by_epoch, NoEpochHasError}
use Rattle.sql_meaning.proofs.RightOrError.{items, searched, aggregate_same, unwrapped_items, turns_same, contents_same}
use Rattle.sql_meaning.proofs.EpochsApart.{at_front, at_once, at_keys, of_group, term_apart, found_apart, contents_apart}
use Rattle.sql_meaning.proofs.RowsWithEpochs.{HoldEpochs, keys_have, mapped_have, term_have, found_have, contents_have}

-- what holds of the rows of each epoch holds of all rows
spread : (P : ℤ → Record → Type 0) (xs : List Record) → ((e : ℤ) → AllByRecursion (P e) (rows_at e xs)) → AllByRecursion (λ (r : Record). P (epoch_of r) (fields_of r)) xs
spread P [] h = tt
spread P (x ∷ xs) h = (here, spread P xs (λ e. later e (int_eq (epoch_of x) e) (subst (λ l. AllByRecursion (P e) l) (at_front e x xs) (h e))))
  where
    here : P (epoch_of x) (fields_of x)
    here =
        let own : int_eq (epoch_of x) (epoch_of x) ≡ true = (Decides-int_eq (epoch_of x) (epoch_of x)).1 refl in
        let all : AllByRecursion (P (epoch_of x)) (cond true (fields_of x ∷ rows_at (epoch_of x) xs) (rows_at (epoch_of x) xs)) =
        subst (λ b. AllByRecursion (P (epoch_of x)) (cond b (fields_of x ∷ rows_at (epoch_of x) xs) (rows_at (epoch_of x) xs))) own (subst (λ l. AllByRecursion (P (epoch_of x)) l) (at_front (epoch_of x) x xs) (h (epoch_of x))) in
        all.0

    later : (e : ℤ) (b : Bool) → AllByRecursion (P e) (cond b (fields_of x ∷ rows_at e xs) (rows_at e xs)) → AllByRecursion (P e) (rows_at e xs)
    later e true a = a.1
    later e false a = a

selects : (es : List Expression) (xs : List Record) → AllByRecursion (λ (r : Record). AllByRecursion (λ (e : Expression). HasNoError (unwrapped e) (fields_of r)) es) xs →
    map (λ r. epoch_of r ∷ map (λ e. evaluated (unwrapped e) (fields_of r)) es) xs ≡ map (λ r. epoch_of r ∷ map (λ e. evaluated e (fields_of r)) es) xs
selects es [] h = refl
selects es (x ∷ xs) h = ap₂ (λ (z : Record) zs. (epoch_of x ∷ z) ∷ zs) (items es (fields_of x) h.0) (selects es xs h.1)

filters : (c : Search) (xs : List Record) → AllByRecursion (λ (r : Record). SearchHasNoError (unwrapped_search c) (fields_of r)) xs → filter (λ r. is_true (unwrapped_search c) (fields_of r)) xs ≡ filter (λ r. is_true c (fields_of r)) xs
filters c [] h = refl
filters c (x ∷ xs) h = ap₂ (λ (b : Bool) zs. cond b (x ∷ zs) zs) (searched c (fields_of x) h.0) (filters c xs h.1)

module _ (ks : List ℕ) (as' : List Aggregate) (xs : List Record) where
  abbrev GroupHasNoError : ℤ → Record → Type 0
  GroupHasNoError e key = AllByRecursion (λ (a : Aggregate). int_wrap w64 (group_value ks (rows_at e xs) key a) ≡ group_value ks (rows_at e xs) key a) as'

  abbrev group_rows : Record → List Record
  group_rows key = map fields_of (filter (λ r. same (epoch_and ks r) key) xs)

  values_same : (bs : List Aggregate) (z : ℤ) (k : Record) → AllByRecursion (λ (a : Aggregate). int_wrap w64 (group_value ks (rows_at z xs) k a) ≡ group_value ks (rows_at z xs) k a) bs →
      map (λ a. exactly_aggregated a (group_rows (z ∷ k))) bs ≡ map (λ a. aggregated a (group_rows (z ∷ k))) bs
  values_same [] z k h = refl
  values_same (a ∷ bs) z k h =
      ap₂ (λ v vs. v ∷ vs) (aggregate_same a (group_rows (z ∷ k)) (subst (λ l. int_wrap w64 (exactly_aggregated a l) ≡ exactly_aggregated a l) (sym (of_group z ks k xs)) h.0)) (values_same bs z k h.1)

  groups : (keys : List Record) → HaveEpochs keys → AllByRecursion (λ (key : Record). GroupHasNoError (epoch_of key) (fields_of key)) keys →
      map (exact_row_by_epoch ks as' xs) keys ≡ map (group_row_by_epoch ks as' xs) keys
  groups [] n h = refl
  groups ([] ∷ keys) n h = absurd (omega (arith, n.0))
  groups ((z ∷ k) ∷ keys) n h = ap₂ (λ v vs. v ∷ vs) (ap (λ vs. (z ∷ k) ++ vs) (values_same as' z k h.0)) (groups keys n.1 h.1)

-- ---- recursive tables

unwrapped_selects : (es : List Expression) (xs : List Record) → map (λ r. epoch_of r ∷ map (λ e. evaluated e (fields_of r)) (map unwrapped es)) xs ≡ map (λ r. epoch_of r ∷ map (λ e. evaluated (unwrapped e) (fields_of r)) es) xs
unwrapped_selects es [] = refl
unwrapped_selects es (x ∷ xs) = ap₂ (λ (z : Record) zs. (epoch_of x ∷ z) ∷ zs) (unwrapped_items es (fields_of x)) (unwrapped_selects es xs)

module _ (holds : Contents) (n : HoldEpochs holds) where
  abbrev here : ℤ → Contents
  here e t = rows_at e (holds t)

  -- what holds of the rows that a term makes in each epoch holds of all
  spread_term : (m : Term) (P : Record → Type 0) (xs : List Record) → HaveEpochs xs → ((e : ℤ) → AllByRecursion P (term_rows m (here e) (rows_at e xs))) → AllByRecursion (λ (r : Record). P (fields_of r)) (term_rows_by_epoch m holds xs)
  spread_term m P xs k h = spread (λ e r. P r) (term_rows_by_epoch m holds xs) (λ e. subst (λ l. AllByRecursion P l) (sym (term_apart e m holds n xs k)) (h e))

  term_plain : (m : Term) (xs : List Record) → HaveEpochs xs → ((e : ℤ) → TermHasNoError m (here e) (rows_at e xs)) → term_rows_by_epoch (unwrapped_term m) holds xs ≡ term_rows_by_epoch m holds xs
  term_plain Term.latest xs k h = refl
  term_plain (Term.select es m) xs k h =
      let ys = term_rows_by_epoch (unwrapped_term m) holds xs in
      unwrapped_selects es ys
      ∙ selects es ys (spread_term (unwrapped_term m) (λ r. AllByRecursion (λ (x : Expression). HasNoError (unwrapped x) r) es) xs k (λ e. (h e).1))
      ∙ ap (map (λ r. epoch_of r ∷ map (λ x. evaluated x (fields_of r)) es)) (term_plain m xs k (λ e. (h e).0))
  term_plain (Term.select_where m c) xs k h =
      filters c (term_rows_by_epoch (unwrapped_term m) holds xs) (spread_term (unwrapped_term m) (λ r. SearchHasNoError (unwrapped_search c) r) xs k (λ e. (h e).1))
      ∙ ap (filter (λ r. is_true c (fields_of r))) (term_plain m xs k (λ e. (h e).0))
  term_plain (Term.join_left m t ps) xs k h = ap (λ ys. joined_by_epoch ps ys (holds t)) (term_plain m xs k h)
  term_plain (Term.join_right t m ps) xs k h = ap (joined_by_epoch ps (holds t)) (term_plain m xs k h)

  recursion_plain : (turns : ℕ) (t : Table) (m : Term) → ((e : ℤ) → QueryHasNoError (Query.recursive turns t m) (here e)) → found_by (term_rows_by_epoch (unwrapped_term m) holds) turns (holds t) ≡ found_by (term_rows_by_epoch m holds) turns (holds t)
  recursion_plain turns t m h =
      let w = unwrapped_term m in
      let g = term_rows_by_epoch w holds in
      turns_same g (term_rows_by_epoch m holds) (holds t) turns (λ k l. term_plain m (found_by g k (holds t)).latest (found_have g (term_have w holds n) k (holds t) (n t)).latest
      (λ e. subst (λ xs. TermHasNoError m (here e) xs) (sym (found_apart e g (term_rows w (here e)) (term_have w holds n) (term_apart e w holds n) k (holds t) (n t)).latest) (h e k l)))

rows_same : (q : Query) (holds : Contents) → HoldEpochs holds → ((e : ℤ) → QueryHasNoError q (λ t. rows_at e (holds t))) → plain_rows_by_epoch q holds ≡ rows_by_epoch q holds
unfolding rows_by_epoch
rows_same (Query.select es t) holds n h = selects es (holds t) (spread (λ e r. AllByRecursion (λ (x : Expression). HasNoError (unwrapped x) r) es) (holds t) h)
rows_same (Query.select_where t c) holds n h = filters c (holds t) (spread (λ e r. SearchHasNoError (unwrapped_search c) r) (holds t) h)
rows_same (Query.select_join t u ps) holds n h = refl
rows_same (Query.select_group ks as' t) holds n h =
    groups ks as' (holds t) (each_once (map (epoch_and ks) (holds t))) (keys_have ks (holds t) (n t))
    (spread (GroupHasNoError ks as' (holds t)) (each_once (map (epoch_and ks) (holds t)))
    (λ e. subst (λ l. AllByRecursion (GroupHasNoError ks as' (holds t) e) l)
    (sym (at_once e (map (epoch_and ks) (holds t)) (mapped_have ks (holds t) (n t)) ∙ ap each_once (at_keys e ks (holds t) (n t)))) (h e)))
rows_same (Query.select_distinct t) holds n h = refl
rows_same (Query.union_all t u) holds n h = refl
rows_same (Query.except t u) holds n h = refl
rows_same (Query.intersect t u) holds n h = refl
rows_same (Query.recursive k t m) holds n h = ap (λ (s : Found). s.all) (recursion_plain holds n k t m h)

module _ (tables : List (List Record)) (n : AllByRecursion HaveEpochs tables) where
  contents_plain : (qs : List Query) → NoEpochHasError qs tables → plain_contents_by_epoch qs tables ≡ contents_by_epoch qs tables
  contents_plain [] h = refl
  contents_plain (q ∷ earlier) h =
      let before : plain_contents_by_epoch earlier tables ≡ contents_by_epoch earlier tables = contents_plain earlier (λ e. (h e).0) in
      ap (λ (holds : Contents). with_table (length earlier) (plain_rows_by_epoch q holds) holds) before
      ∙ ap (λ rows. with_table (length earlier) rows (contents_by_epoch earlier tables)) (rows_same q (contents_by_epoch earlier tables) (contents_have tables n earlier) (λ e. here e))
    where
      here : (e : ℤ) → QueryHasNoError q (λ t. rows_at e (contents_by_epoch earlier tables t))
      here e =
          let same_contents : plain_contents earlier (map (rows_at e) tables) ≡ (λ (t : Table). rows_at e (contents_by_epoch earlier tables t)) =
          contents_same earlier (map (rows_at e) tables) (h e).0 ∙ sym (fun_ext (contents_apart e tables n earlier)) in
          subst (λ holds. QueryHasNoError q holds) same_contents (h e).1

  pub plainly_by_epoch : (s : Script) → NoEpochHasError s.tables tables → plain_answers_by_epoch s tables ≡ answers_by_epoch s tables
  plainly_by_epoch s h = ap (λ (holds : Contents). map holds s.results) (contents_plain s.tables h)
