-- A script without wrapping answers as the script with it, where nothing is an error.
use Rattle.std.proofs.Common.{◌≡◌, ◌<◌, Bool, cond, ◌&&◌, ◌||◌, not, List, [], ◌∷◌, ◌++◌, map, filter, length, refl, sym, ap, ap₂, ◌∙◌, arith, ℕ, zero, suc, ◌+ℤ◌, ◌-ℤ◌, ◌*ℤ◌, neg_ℤ}
use Rattle.std.specs.List.{AllByRecursion}
use Rattle.std.specs.Int.{int_wrap}
use mir.Syntax.{w64}
use Rattle.semantics.specs.Multiset.{Record, same, each_once}
use Rattle.semantics.specs.Meaning.{compares, project, Found, found_next, only_left}
use Rattle.sql_meaning.specs.Script.{Expression, Search, Aggregate, Term, Query, Script}
use Rattle.sql_meaning.specs.ScriptMeaning.{evaluated, is_true, aggregated, group_row, joined_rows, Contents, term_rows, found_by, rows_of, with_table, contents, answers}
use Rattle.sql_meaning.specs.Plain.{HasNoError, IsWordOn}
use Rattle.sql_meaning.specs.PlainScript.{unwrapped, unwrapped_search, unwrapped_term, SearchHasNoError, TermHasNoError, exactly_aggregated, group_value, plain_rows_of, QueryHasNoError, plain_contents, ScriptHasNoError, plain_answers}

word_of : (e : Expression) (r : Record) → HasNoError (unwrapped e) r → IsWordOn (unwrapped e) r
word_of (Expression.column c) r h = h
word_of (Expression.number z) r h = h
word_of (Expression.sum a b) r h = h.2
word_of (Expression.difference a b) r h = h.2
word_of (Expression.product a b) r h = h.2
word_of (Expression.opposite a) r h = h.1
word_of (Expression.wrapped a) r h = word_of a r h

plainly : (e : Expression) (r : Record) → HasNoError (unwrapped e) r → evaluated (unwrapped e) r ≡ evaluated e r
plainly (Expression.column c) r h = refl
plainly (Expression.number z) r h = refl
plainly (Expression.sum a b) r h = ap₂ (λ x y. x +ℤ y) (plainly a r h.0) (plainly b r h.1)
plainly (Expression.difference a b) r h = ap₂ (λ x y. x -ℤ y) (plainly a r h.0) (plainly b r h.1)
plainly (Expression.product a b) r h = ap₂ (λ x y. x *ℤ y) (plainly a r h.0) (plainly b r h.1)
plainly (Expression.opposite a) r h = ap neg_ℤ (plainly a r h.0)
plainly (Expression.wrapped a) r h = sym (word_of a r h) ∙ ap (int_wrap w64) (plainly a r h)

pub searched : (c : Search) (r : Record) → SearchHasNoError (unwrapped_search c) r → is_true (unwrapped_search c) r ≡ is_true c r
searched (Search.compare o a b) r h = ap₂ (λ x y. compares o x y) (plainly a r h.0) (plainly b r h.1)
searched (Search.both c d) r h = ap₂ (λ x y. x && y) (searched c r h.0) (searched d r h.1)
searched (Search.either c d) r h = ap₂ (λ x y. x || y) (searched c r h.0) (searched d r h.1)
searched (Search.no c) r h = ap not (searched c r h)

pub items : (es : List Expression) (r : Record) → AllByRecursion (λ (e : Expression). HasNoError (unwrapped e) r) es → map (λ e. evaluated (unwrapped e) r) es ≡ map (λ e. evaluated e r) es
items [] r h = refl
items (e ∷ es) r h = ap₂ (λ z zs. z ∷ zs) (plainly e r h.0) (items es r h.1)

selects : (es : List Expression) (xs : List Record) → AllByRecursion (λ (r : Record). AllByRecursion (λ (e : Expression). HasNoError (unwrapped e) r) es) xs →
    map (λ r. map (λ e. evaluated (unwrapped e) r) es) xs ≡ map (λ r. map (λ e. evaluated e r) es) xs
selects es [] h = refl
selects es (x ∷ xs) h = ap₂ (λ z zs. z ∷ zs) (items es x h.0) (selects es xs h.1)

filters : (c : Search) (xs : List Record) → AllByRecursion (λ (r : Record). SearchHasNoError (unwrapped_search c) r) xs → filter (is_true (unwrapped_search c)) xs ≡ filter (is_true c) xs
filters c [] h = refl
filters c (x ∷ xs) h = ap₂ (λ (b : Bool) zs. cond b (x ∷ zs) zs) (searched c x h.0) (filters c xs h.1)

pub aggregate_same : (a : Aggregate) (rows : List Record) → int_wrap w64 (exactly_aggregated a rows) ≡ exactly_aggregated a rows → exactly_aggregated a rows ≡ aggregated a rows
aggregate_same Aggregate.wrapped_count rows h = sym h
aggregate_same (Aggregate.wrapped_sum c) rows h = sym h
aggregate_same (Aggregate.least c) rows h = refl
aggregate_same (Aggregate.greatest c) rows h = refl

module _ (ks : List ℕ) (xs : List Record) where
  values_same : (as' : List Aggregate) (key : Record) → AllByRecursion (λ (a : Aggregate). int_wrap w64 (group_value ks xs key a) ≡ group_value ks xs key a) as' →
      map (group_value ks xs key) as' ≡ map (λ a. aggregated a (filter (λ r. same (project ks r) key) xs)) as'
  values_same [] key h = refl
  values_same (a ∷ as') key h = ap₂ (λ z zs. z ∷ zs) (aggregate_same a (filter (λ r. same (project ks r) key) xs) h.0) (values_same as' key h.1)

  groups : (as' : List Aggregate) (keys : List Record) → AllByRecursion (λ (key : Record). AllByRecursion (λ (a : Aggregate). int_wrap w64 (group_value ks xs key a) ≡ group_value ks xs key a) as') keys →
      map (λ key. key ++ map (group_value ks xs key) as') keys ≡ map (group_row ks as' xs) keys
  groups as' [] h = refl
  groups as' (key ∷ keys) h = ap₂ (λ z zs. z ∷ zs) (ap (λ zs. key ++ zs) (values_same as' key h.0)) (groups as' keys h.1)

-- ---- recursive tables

pub unwrapped_items : (es : List Expression) (r : Record) → map (λ e. evaluated e r) (map unwrapped es) ≡ map (λ e. evaluated (unwrapped e) r) es
unwrapped_items [] r = refl
unwrapped_items (e ∷ es) r = ap (λ zs. evaluated (unwrapped e) r ∷ zs) (unwrapped_items es r)

unwrapped_selects : (es : List Expression) (xs : List Record) → map (λ r. map (λ e. evaluated e r) (map unwrapped es)) xs ≡ map (λ r. map (λ e. evaluated (unwrapped e) r) es) xs
unwrapped_selects es [] = refl
unwrapped_selects es (x ∷ xs) = ap₂ (λ z zs. z ∷ zs) (unwrapped_items es x) (unwrapped_selects es xs)

term_plain : (m : Term) (holds : Contents) (xs : List Record) → TermHasNoError m holds xs → term_rows (unwrapped_term m) holds xs ≡ term_rows m holds xs
term_plain Term.latest holds xs h = refl
term_plain (Term.select es m) holds xs h =
    let ys = term_rows (unwrapped_term m) holds xs in
    unwrapped_selects es ys ∙ selects es ys h.1 ∙ ap (map (λ r. map (λ e. evaluated e r) es)) (term_plain m holds xs h.0)
term_plain (Term.select_where m c) holds xs h = filters c (term_rows (unwrapped_term m) holds xs) h.1 ∙ ap (filter (is_true c)) (term_plain m holds xs h.0)
term_plain (Term.join_left m t ps) holds xs h = ap (λ ys. joined_rows ps ys (holds t)) (term_plain m holds xs h)
term_plain (Term.join_right t m ps) holds xs h = ap (joined_rows ps (holds t)) (term_plain m holds xs h)

-- turns that make the same of what each finds, find the same
pub turns_same : (g f : List Record → List Record) (xs : List Record) (n : ℕ) → ((turn : ℕ) → turn < n → g (found_by g turn xs).latest ≡ f (found_by g turn xs).latest) → found_by g n xs ≡ found_by f n xs
turns_same g f xs zero h = refl
turns_same g f xs (suc n) h =
    let s = found_by g n xs in
    ap (λ (ys : List Record). next s ys) (h n (omega arith)) ∙ ap (found_next f) (turns_same g f xs n (λ turn l. h turn (omega arith)))
  where
    next : Found → List Record → Found
    next s ys = record { all = s.all ++ only_left ys s.all; latest = only_left ys s.all }

rows_same : (q : Query) (holds : Contents) → QueryHasNoError q holds → plain_rows_of q holds ≡ rows_of q holds
unfolding rows_of
rows_same (Query.select es t) holds h = selects es (holds t) h
rows_same (Query.select_where t c) holds h = filters c (holds t) h
rows_same (Query.select_join t u ps) holds h = refl
rows_same (Query.select_group ks as' t) holds h = groups ks (holds t) as' (each_once (map (project ks) (holds t))) h
rows_same (Query.select_distinct t) holds h = refl
rows_same (Query.union_all t u) holds h = refl
rows_same (Query.except t u) holds h = refl
rows_same (Query.intersect t u) holds h = refl
rows_same (Query.recursive n t m) holds h =
    let g = term_rows (unwrapped_term m) holds in
    ap (λ (s : Found). s.all) (turns_same g (term_rows m holds) (holds t) n (λ turn l. term_plain m holds (found_by g turn (holds t)).latest (h turn l)))

pub contents_same : (qs : List Query) (tables : List (List Record)) → ScriptHasNoError qs tables → plain_contents qs tables ≡ contents qs tables
contents_same [] tables h = refl
contents_same (q ∷ earlier) tables h =
    ap (λ rows. with_table (length earlier) rows (plain_contents earlier tables)) (rows_same q (plain_contents earlier tables) h.1)
    ∙ ap (λ (holds : Contents). with_table (length earlier) (rows_of q holds) holds) (contents_same earlier tables h.0)

pub plainly_answered : (s : Script) (tables : List (List Record)) → ScriptHasNoError s.tables tables → plain_answers s tables ≡ answers s tables
plainly_answered s tables h = ap (λ (holds : Contents). map holds s.results) (contents_same s.tables tables h)
