-- The result of a relation's tables holds what the relation means.
use Rattle.std.proofs.Common.{◌≡◌, ℕ, zero, suc, ◌≤◌, ◌<◌, nat_eq, Bool, true, false, cond, List, ◌∷◌, ◌++◌, map, filter, length, refl, sym, ap, ap₂, ◌∙◌, arith, ne_eqb}
use Rattle.std.proofs.lemmas.Bool.{true≢false}
use Rattle.std.proofs.lemmas.Bool.Decides.{nat_tests}
use Rattle.semantics.specs.Multiset.{Record, each_once}
use Rattle.semantics.specs.Meaning.{same_name, Names, bind, repeated, meaning, Found, found_first, found_next, after_turns, selected, kept, paired, grouped, only_left, in_both}
use Rattle.semantics.specs.Query.{Name, Pair, Loop, Rel}
use Rattle.sql_meaning.specs.Script.{Table, Term, Query, Written}
use Rattle.sql_meaning.specs.ScriptMeaning.{Contents, term_rows, found_by, rows_of, with_table, contents, is_true, evaluated}
use Rattle.sql_meaning.specs.Translation.{Tables, stands, then_query, Finding, finding_first, finding_next, written_loop, is_linear, is_recursion, WrittenTerm, written, written_term, HaveWords, expression, search, aggregate_of}
use Rattle.sql_meaning.proofs.Forms.{select-selected, where-kept, join-paired, group-grouped}
use Rattle.sql_meaning.proofs.LinearBodies.{unbound, left_linear, right_linear, of_recursion}
use Rattle.sql_meaning.proofs.Words.{meaning_words, bound_words, turns_keep_words, found_words}

-- a table stands before number n
abbrev pub Before : ℕ → Table → Type 0
Before n (Table.given i) = Unit {0}
Before n (Table.made m) = m < n

pub before_later : (m n : ℕ) (t : Table) → m ≤ n → Before m t → Before n t
before_later m n (Table.given i) l h = tt
before_later m n (Table.made k) l h = omega arith

-- a table made later changes no table before it
earlier_kept : (n : ℕ) (rows : List Record) (holds : Contents) (t : Table) → Before n t → with_table n rows holds t ≡ holds t
earlier_kept n rows holds (Table.given i) h = refl
earlier_kept n rows holds (Table.made m) h = ap (λ b. cond b rows (holds (Table.made m))) (ne_eqb m n (λ e. omega arith))

pub self_equal : (n : ℕ) → nat_eq n n ≡ true
self_equal n = grind (arith, nat_tests)

module _ (recursive : Bool) (given : List (List Record)) where
  abbrev held : List Query → Table → List Record
  held qs t = contents qs given t

  -- each name's table was made before, and holds what the name means, in 64-bit numbers
  pub record Agree (names : Names) (tables : Tables) (qs : List Query) : Type 0 where
    pub known : (y : Name) → Before (length qs) (tables y)
    pub equal : (y : Name) → held qs (tables y) ≡ names y
    pub words : (y : Name) → HaveWords (names y)

  -- a statement that keeps the tables that there were
  pub record Extends (qs : List Query) (s : Written) (rows : List Record) : Type 0 where
    pub longer : length qs ≤ length s.tables
    pub kept : (t : Table) → Before (length qs) t → held s.tables t ≡ held qs t
    pub known : Before (length s.tables) s.result
    pub equal : held s.tables s.result ≡ rows

  one_more : (qs rs : List Query) (q : Query) (rows : List Record) → length qs ≤ length rs → ((t : Table) → Before (length qs) t → held rs t ≡ held qs t) → rows_of q (contents rs given) ≡ rows → Extends qs (then_query rs q) rows
  one_more qs rs q rows l k e = record {
    longer = omega arith;
    kept = λ t h. earlier_kept (length rs) (rows_of q (contents rs given)) (contents rs given) t (before_later (length qs) (length rs) t l h) ∙ k t h;
    known = (let z : length rs < suc (length rs) = omega arith in z);
    equal = ap (λ b. cond b (rows_of q (contents rs given)) (contents rs given (Table.made (length rs)))) (self_equal (length rs)) ∙ e;
  }

  agree_kept : (names : Names) (tables : Tables) (qs rs : List Query) → Agree names tables qs → length qs ≤ length rs → ((t : Table) → Before (length qs) t → held rs t ≡ held qs t) → Agree names tables rs
  agree_kept names tables qs rs a l k = record {
    known = λ y. before_later (length qs) (length rs) (tables y) l (a.known y);
    equal = λ y. k (tables y) (a.known y) ∙ a.equal y;
    words = a.words;
  }

  pub agree_later : (names : Names) (tables : Tables) (qs : List Query) (s : Written) (rows : List Record) → Agree names tables qs → Extends qs s rows → Agree names tables s.tables
  agree_later names tables qs s rows a e = agree_kept names tables qs s.tables a e.longer e.kept

  pub agree_bound : (x : Name) (names : Names) (tables : Tables) (qs : List Query) (s : Written) (rows : List Record) → HaveWords rows → Agree names tables qs → Extends qs s rows → Agree (bind x rows names) (stands x s.result tables) s.tables
  agree_bound x names tables qs s rows w a e = record {
    known = λ y. known_by y (same_name x y);
    equal = λ y. equal_by y (same_name x y);
    words = bound_words x rows names w a.words;
  }
    where
      later : Agree names tables s.tables
      later = agree_later names tables qs s rows a e

      known_by : (y : Name) (b : Bool) → Before (length s.tables) (cond b s.result (tables y))
      known_by y true = e.known
      known_by y false = later.known y

      equal_by : (y : Name) (b : Bool) → held s.tables (cond b s.result (tables y)) ≡ cond b rows (names y)
      equal_by y true = e.equal
      equal_by y false = later.equal y

  then_extends : (qs : List Query) (s t : Written) (rows more : List Record) → Extends qs s rows → Extends s.tables t more → Extends qs t more
  then_extends qs s t rows more a b = record {
    longer = omega (arith, a.longer, b.longer);
    kept = λ u h. b.kept u (before_later (length qs) (length s.tables) u a.longer h) ∙ a.kept u h;
    known = b.known;
    equal = b.equal;
  }

  -- one relation, then a query on its result
  one : (qs : List Query) (s : Written) (xs : List Record) (q : Query) (rows : List Record) → Extends qs s xs → rows_of q (contents s.tables given) ≡ rows → Extends qs (then_query s.tables q) rows
  one qs s xs q rows e k = one_more qs s.tables q rows e.longer e.kept k

  -- the first of two relations still holds its rows once the second is made
  first_kept : (s t : Written) (qs : List Query) (xs ys : List Record) → Extends qs s xs → Extends s.tables t ys → held t.tables s.result ≡ xs
  first_kept s t qs xs ys a b = b.kept s.result a.known ∙ a.equal

  two : (qs : List Query) (s t : Written) (xs ys : List Record) (q : Query) (rows : List Record) → Extends qs s xs → Extends s.tables t ys → rows_of q (contents t.tables given) ≡ rows → Extends qs (then_query t.tables q) rows
  two qs s t xs ys q rows a b k = one_more qs t.tables q rows (omega (arith, a.longer, b.longer)) (λ u h. b.kept u (before_later (length qs) (length s.tables) u a.longer h) ∙ a.kept u h) k

  -- a table more changes no result
  kept_result : (qs : List Query) (s : Written) (q : Query) (rows : List Record) → Extends qs s rows → Extends qs (record { tables = q ∷ s.tables; result = s.result }) rows
  kept_result qs s q rows e =
      let n = length s.tables in
      let made = rows_of q (contents s.tables given) in
      let before = contents s.tables given in
      let more : n ≤ suc n = omega arith in
      record {
        longer = omega (arith, e.longer);
        kept = λ t h. earlier_kept n made before t (before_later (length qs) n t e.longer h) ∙ e.kept t h;
        known = before_later n (suc n) s.result more e.known;
        equal = earlier_kept n made before s.result e.known ∙ e.equal;
      }

  -- what a loop's body makes, where its variable stands for a table
  abbrev Turn : Type 0
  Turn = Table → List Query → Written

  -- one turn on a table of words that was made before
  abbrev TurnExtends : List Query → Turn → (List Record → List Record) → Type 0
  TurnExtends qs turn f = (s : Written) (rows : List Record) → HaveWords rows → Extends qs s rows → Extends s.tables (turn s.result s.tables) (f rows)

  iterated : (qs : List Query) (turn : Turn) (f : List Record → List Record) → TurnExtends qs turn f → ((xs : List Record) → HaveWords xs → HaveWords (f xs)) → (a : Written) (xs : List Record) → HaveWords xs → Extends qs a xs →
      (n : ℕ) → Extends qs (repeated (λ (s : Written). turn s.result s.tables) n a) (repeated f n xs)
  iterated qs turn f one_turn k a xs w e zero = e
  iterated qs turn f one_turn k a xs w e (suc m) =
      let s = repeated (λ (s : Written). turn s.result s.tables) m a in
      let rows = repeated f m xs in
      let ih = iterated qs turn f one_turn k a xs w e m in
      then_extends qs s (turn s.result s.tables) rows (f rows) ih (one_turn s rows (turns_keep_words f k m xs w) ih)

  -- the two tables of a closure hold what it has found
  record Finds (qs : List Query) (f : Finding) (s : Found) : Type 0 where
    all : Extends qs (record { tables = f.tables; result = f.all }) s.all
    latest : Extends qs (record { tables = f.tables; result = f.latest }) s.latest

  finds_next : (qs : List Query) (turn : Turn) (f : List Record → List Record) → TurnExtends qs turn f → (g : Finding) (s : Found) → HaveWords s.latest → Finds qs g s → Finds qs (finding_next g (turn g.latest g.tables)) (found_next f s)
  finds_next qs turn f one_turn g s w e =
      let a = turn g.latest g.tables in
      let made = one_turn (record { tables = g.tables; result = g.latest }) s.latest w e.latest in
      let new_rows = only_left (f s.latest) s.all in
      let new = then_query a.tables (Query.except a.result g.all) in
      let every = then_query new.tables (Query.union_all g.all new.result) in
      let found = λ (n : Extends g.tables new new_rows). one_more g.tables new.tables (Query.union_all g.all new.result) (s.all ++ new_rows) n.longer n.kept
      (unfold rows_of in ap₂ (λ xs ys. xs ++ ys) (n.kept g.all e.all.known ∙ e.all.equal) n.equal) in
      let news = one_more g.tables a.tables (Query.except a.result g.all) new_rows made.longer made.kept
      (unfold rows_of in ap₂ only_left made.equal (made.kept g.all e.all.known ∙ e.all.equal)) in
      record {
        all = then_extends qs (record { tables = g.tables; result = g.all }) every s.all (s.all ++ new_rows) e.all (found news);
        latest = then_extends qs (record { tables = g.tables; result = g.latest }) (record { tables = every.tables; result = new.result }) s.latest new_rows e.latest
            (kept_result g.tables new (Query.union_all g.all new.result) new_rows news);
      }

  closed : (qs : List Query) (turn : Turn) (f : List Record → List Record) → TurnExtends qs turn f → ((xs : List Record) → HaveWords xs → HaveWords (f xs)) → (a : Written) (xs : List Record) → HaveWords xs → Extends qs a xs →
      (n : ℕ) → Finds qs (repeated (λ (g : Finding). finding_next g (turn g.latest g.tables)) n (finding_first a)) (repeated (found_next f) n (found_first xs))
  closed qs turn f one_turn k a xs w e zero =
      let d = one qs a xs (Query.select_distinct a.result) (each_once xs) e (unfold rows_of in ap each_once e.equal) in
      record { all = d; latest = d }
  closed qs turn f one_turn k a xs w e (suc m) =
      finds_next qs turn f one_turn _ (repeated (found_next f) m (found_first xs)) (found_words f k m xs w).1 (closed qs turn f one_turn k a xs w e m)

  loop_extends : (qs : List Query) (turn : Turn) (f : List Record → List Record) → TurnExtends qs turn f → ((xs : List Record) → HaveWords xs → HaveWords (f xs)) → (a : Written) (xs : List Record) → HaveWords xs → Extends qs a xs →
      (l : Loop) (n : ℕ) → Extends qs (written_loop l n turn a) (after_turns l f n xs)
  loop_extends qs turn f one_turn k a xs w e Loop.iterate n = iterated qs turn f one_turn k a xs w e n
  loop_extends qs turn f one_turn k a xs w e Loop.closure n = (closed qs turn f one_turn k a xs w e n).all

  -- ---- recursive tables

  -- a term that keeps the tables that there were, and makes of rows what f makes, also once more tables are made
  record TermGives (qs : List Query) (m : WrittenTerm) (f : List Record → List Record) : Type 0 where
    longer : length qs ≤ length m.tables
    kept : (t : Table) → Before (length qs) t → held m.tables t ≡ held qs t
    equal : (holds : Contents) → ((t : Table) → Before (length m.tables) t → holds t ≡ held m.tables t) → (xs : List Record) → HaveWords xs → term_rows m.term holds xs ≡ f xs

  either_gives : (qs : List Query) (b : Bool) (l r : WrittenTerm) (f : List Record → List Record) → (b ≡ true → TermGives qs l f) → (b ≡ false → TermGives qs r f) → TermGives qs (cond b l r) f
  either_gives qs true l r f h k = h refl
  either_gives qs false l r f h k = k refl

  either_extends : (qs : List Query) (b : Bool) (s t : Written) (rows : List Record) → (b ≡ true → Extends qs s rows) → Extends qs t rows → Extends qs (cond b s t) rows
  either_extends qs true s t rows h k = h refl
  either_extends qs false s t rows h k = k

  join_left_gives : (qs : List Query) (m : WrittenTerm) (s : Written) (f : List Record → List Record) (ys : List Record) (zs : List Record → List Record) (ps : List Pair) →
      TermGives qs m f → Extends m.tables s ys → ((xs : List Record) → ys ≡ zs xs) → TermGives qs (record { tables = s.tables; term = Term.join_left m.term s.result ps }) (λ xs. paired ps (f xs) (zs xs))
  join_left_gives qs m s f ys zs ps g e u = record {
    longer = omega (arith, g.longer, e.longer);
    kept = λ t h. e.kept t (before_later (length qs) (length m.tables) t g.longer h) ∙ g.kept t h;
    equal = λ holds k xs w.
        join-paired ps (term_rows m.term holds xs) (holds s.result)
        ∙ ap₂ (paired ps) (g.equal holds (λ t h. k t (before_later (length m.tables) (length s.tables) t e.longer h) ∙ e.kept t h) xs w) (k s.result e.known ∙ e.equal ∙ u xs);
  }

  join_right_gives : (qs : List Query) (s : Written) (m : WrittenTerm) (ys : List Record) (zs f : List Record → List Record) (ps : List Pair) →
      Extends qs s ys → TermGives s.tables m f → ((xs : List Record) → ys ≡ zs xs) → TermGives qs (record { tables = m.tables; term = Term.join_right s.result m.term ps }) (λ xs. paired ps (zs xs) (f xs))
  join_right_gives qs s m ys zs f ps e g u = record {
    longer = omega (arith, e.longer, g.longer);
    kept = λ t h. g.kept t (before_later (length qs) (length s.tables) t e.longer h) ∙ e.kept t h;
    equal = λ holds k xs w.
        join-paired ps (holds s.result) (term_rows m.term holds xs)
        ∙ ap₂ (paired ps) (k s.result (before_later (length s.tables) (length m.tables) s.result g.longer e.known) ∙ g.kept s.result e.known ∙ e.equal ∙ u xs) (g.equal holds k xs w);
  }

  -- turns that make the same of words find the same
  found_same : (g f : List Record → List Record) → ((xs : List Record) → HaveWords xs → g xs ≡ f xs) → ((xs : List Record) → HaveWords xs → HaveWords (f xs)) → (xs : List Record) → HaveWords xs → (n : ℕ) → found_by g n xs ≡ found_by f n xs
  found_same g f e k xs w zero = refl
  found_same g f e k xs w (suc n) =
      let s = found_by f n xs in
      ap (found_next g) (found_same g f e k xs w n)
      ∙ ap (λ (ys : List Record). next s ys) (e s.latest (found_words f k n xs w).1)
    where
      next : Found → List Record → Found
      next s ys = record { all = s.all ++ only_left ys s.all; latest = only_left ys s.all }

  recursion_extends : (x : Name) (b : Rel) (f : List Record → List Record) → ((xs : List Record) → HaveWords xs → HaveWords (f xs)) → (qs : List Query) (a : Written) (xs : List Record) → HaveWords xs → Extends qs a xs →
      (m : WrittenTerm) → (is_linear x b ≡ true → TermGives a.tables m f) → (l : Loop) (n : ℕ) → is_recursion recursive l n x b ≡ true → Extends qs (then_query m.tables (Query.recursive n a.result m.term)) (after_turns l f n xs)
  recursion_extends x b f keeps qs a xs w start m gives Loop.iterate n e = absurd (true≢false (sym e))
  recursion_extends x b f keeps qs a xs w start m gives Loop.closure n e =
      let g = gives (of_recursion recursive n x b e) in
      one_more qs m.tables (Query.recursive n a.result m.term) (found_by f n xs).all (omega (arith, start.longer, g.longer))
      (λ t h. g.kept t (before_later (length qs) (length a.tables) t start.longer h) ∙ start.kept t h)
      (unfold rows_of in
      ap (λ ys. (found_by (term_rows m.term (contents m.tables given)) n ys).all) (g.kept a.result start.known ∙ start.equal)
      ∙ ap (λ (s : Found). s.all) (found_same (term_rows m.term (contents m.tables given)) f (λ ys v. g.equal (contents m.tables given) (λ t h. refl) ys v) keeps xs w n))

  mutual
    unfolding meaning written rows_of

    pub written_means : (r : Rel) (names : Names) (tables : Tables) (qs : List Query) → Agree names tables qs → Extends qs (written recursive r tables qs) (meaning r names)
    written_means (Rel.named x) names tables qs a = record { longer = omega arith; kept = λ t h. refl; known = a.known x; equal = a.equal x }
    written_means (Rel.select r ss) names tables qs a =
        let s = written recursive r tables qs in
        let e = written_means r names tables qs a in
        one qs s (meaning r names) (Query.select (map expression ss) s.result) (selected ss (meaning r names)) e
        (ap (map (λ r. map (λ e. evaluated e r) (map expression ss))) e.equal ∙ select-selected ss (meaning r names) (meaning_words r names a.words))
    written_means (Rel.filter r c) names tables qs a =
        let s = written recursive r tables qs in
        let e = written_means r names tables qs a in
        one qs s (meaning r names) (Query.select_where s.result (search c)) (kept c (meaning r names)) e
        (ap (filter (is_true (search c))) e.equal ∙ where-kept c (meaning r names) (meaning_words r names a.words))
    written_means (Rel.concat p q) names tables qs a =
        let s = written recursive p tables qs in
        let t = written recursive q tables s.tables in
        let e = written_means p names tables qs a in
        let f = written_means q names tables s.tables (agree_later names tables qs s (meaning p names) a e) in
        two qs s t (meaning p names) (meaning q names) (Query.union_all s.result t.result) (meaning p names ++ meaning q names) e f
        (ap₂ (λ xs ys. xs ++ ys) (first_kept s t qs (meaning p names) (meaning q names) e f) f.equal)
    written_means (Rel.join p q ps) names tables qs a =
        let s = written recursive p tables qs in
        let t = written recursive q tables s.tables in
        let e = written_means p names tables qs a in
        let f = written_means q names tables s.tables (agree_later names tables qs s (meaning p names) a e) in
        two qs s t (meaning p names) (meaning q names) (Query.select_join s.result t.result ps) (paired ps (meaning p names) (meaning q names)) e f
        (join-paired ps (held t.tables s.result) (held t.tables t.result) ∙ ap₂ (paired ps) (first_kept s t qs (meaning p names) (meaning q names) e f) f.equal)
    written_means (Rel.group r ks as') names tables qs a =
        let s = written recursive r tables qs in
        let e = written_means r names tables qs a in
        one qs s (meaning r names) (Query.select_group ks (map aggregate_of as') s.result) (grouped ks as' (meaning r names)) e
        (group-grouped ks as' (held s.tables s.result) ∙ ap (grouped ks as') e.equal)
    written_means (Rel.distinct r) names tables qs a =
        let s = written recursive r tables qs in
        let e = written_means r names tables qs a in
        one qs s (meaning r names) (Query.select_distinct s.result) (each_once (meaning r names)) e (ap each_once e.equal)
    written_means (Rel.except p q) names tables qs a =
        let s = written recursive p tables qs in
        let t = written recursive q tables s.tables in
        let e = written_means p names tables qs a in
        let f = written_means q names tables s.tables (agree_later names tables qs s (meaning p names) a e) in
        two qs s t (meaning p names) (meaning q names) (Query.except s.result t.result) (only_left (meaning p names) (meaning q names)) e f
        (ap₂ only_left (first_kept s t qs (meaning p names) (meaning q names) e f) f.equal)
    written_means (Rel.intersect p q) names tables qs a =
        let s = written recursive p tables qs in
        let t = written recursive q tables s.tables in
        let e = written_means p names tables qs a in
        let f = written_means q names tables s.tables (agree_later names tables qs s (meaning p names) a e) in
        two qs s t (meaning p names) (meaning q names) (Query.intersect s.result t.result) (in_both (meaning p names) (meaning q names)) e f
        (ap₂ in_both (first_kept s t qs (meaning p names) (meaning q names) e f) f.equal)
    written_means (Rel.loop l n x r b) names tables qs a =
        let s = written recursive r tables qs in
        let start = written_means r names tables qs a in
        let w = meaning_words r names a.words in
        let f : List Record → List Record = λ xs. meaning b (bind x xs names) in
        let keeps : (xs : List Record) → HaveWords xs → HaveWords (f xs) = λ xs v. meaning_words b (bind x xs names) (bound_words x xs names v a.words) in
        either_extends qs (is_recursion recursive l n x b) _ _ (after_turns l f n (meaning r names))
        (λ e. recursion_extends x b f keeps qs s (meaning r names) w start (written_term recursive x b tables s.tables) (λ k. term_means x b names tables s.tables k (agree_later names tables qs s (meaning r names) a start)) l n e)
        (loop_extends qs (λ t made. written recursive b (stands x t tables) made) f
        (λ s rows v e. written_means b (bind x rows names) (stands x s.result tables) s.tables (agree_bound x names tables qs s rows v a e))
        keeps s (meaning r names) w start l n)

    term_means : (x : Name) (r : Rel) (names : Names) (tables : Tables) (qs : List Query) → is_linear x r ≡ true → Agree names tables qs → TermGives qs (written_term recursive x r tables qs) (λ xs. meaning r (bind x xs names))
    term_means x (Rel.named y) names tables qs e a = record {
      longer = omega arith;
      kept = λ t h. refl;
      equal = λ holds k xs w. sym (ap (λ b. cond b xs (names y)) e);
    }
    term_means x (Rel.select r ss) names tables qs e a =
        let g = term_means x r names tables qs e a in
        record {
          longer = g.longer;
          kept = g.kept;
          equal = λ holds k xs w.
              ap (map (λ r. map (λ e. evaluated e r) (map expression ss))) (g.equal holds k xs w)
              ∙ select-selected ss (meaning r (bind x xs names)) (meaning_words r (bind x xs names) (bound_words x xs names w a.words));
        }
    term_means x (Rel.filter r c) names tables qs e a =
        let g = term_means x r names tables qs e a in
        record {
          longer = g.longer;
          kept = g.kept;
          equal = λ holds k xs w.
              ap (filter (is_true (search c))) (g.equal holds k xs w)
              ∙ where-kept c (meaning r (bind x xs names)) (meaning_words r (bind x xs names) (bound_words x xs names w a.words));
        }
    term_means x (Rel.concat p q) names tables qs e a = absurd (true≢false (sym e))
    term_means x (Rel.join p q ps) names tables qs e a =
        either_gives qs (is_linear x p) _ _ (λ xs. paired ps (meaning p (bind x xs names)) (meaning q (bind x xs names)))
        (λ h.
        let s = written_term recursive x p tables qs in
        let g = term_means x p names tables qs h a in
        join_left_gives qs s (written recursive q tables s.tables) (λ xs. meaning p (bind x xs names)) (meaning q names) (λ xs. meaning q (bind x xs names)) ps g
        (written_means q names tables s.tables (agree_kept names tables qs s.tables a g.longer g.kept)) (λ xs. unbound x q (left_linear x p q e h) xs names))
        (λ h.
        let s = written recursive p tables qs in
        let k = right_linear x p q e h in
        let g = written_means p names tables qs a in
        join_right_gives qs s (written_term recursive x q tables s.tables) (meaning p names) (λ xs. meaning p (bind x xs names)) (λ xs. meaning q (bind x xs names)) ps g
        (term_means x q names tables s.tables k.1 (agree_later names tables qs s (meaning p names) a g)) (λ xs. unbound x p k.0 xs names))
    term_means x (Rel.group r ks as') names tables qs e a = absurd (true≢false (sym e))
    term_means x (Rel.distinct r) names tables qs e a = absurd (true≢false (sym e))
    term_means x (Rel.except p q) names tables qs e a = absurd (true≢false (sym e))
    term_means x (Rel.intersect p q) names tables qs e a = absurd (true≢false (sym e))
    term_means x (Rel.loop l n y r b) names tables qs e a = absurd (true≢false (sym e))
