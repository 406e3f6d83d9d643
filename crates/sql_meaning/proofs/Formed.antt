-- The script of a well-typed program is well formed.
use Rattle.std.proofs.Common.{◌≡◌, ℕ, zero, suc, ◌+◌, ◌<◌, Bool, true, false, cond, not, List, [], ◌∷◌, map, length, slice_index_or, Some, None, Option, refl, sym, ap, ap₂, subst, ◌∙◌, arith, ne_eqb, inl, inr, ◌⊎◌}
use Rattle.std.specs.List.{AllByRecursion}
use Rattle.std.proofs.lemmas.Bool.{true≢false}
use Rattle.semantics.proofs.NamesAmong.{Decides-same_name}
use Rattle.semantics.proofs.RulesKeepArity.{arity_free}
use Rattle.semantics.specs.FreeNames.{free, has}
use Rattle.semantics.specs.Meaning.{same_name, repeated}
use Rattle.semantics.specs.Query.{Scalar, Cond, Agg, Pair, Name, Loop, Rel, Input, Let, Output, Program}
use Rattle.semantics.specs.Typing.{ScalarFits, CondFits, AggFits, lookup, entry, HasArity, InputsFit, after_inputs, OutputsFit, RestFits, WellTyped}
use Rattle.semantics.specs.Typing.{Scope as Arities}
use Rattle.sql_meaning.specs.Script.{Table, Term, Query, Written, Script}
use Rattle.sql_meaning.specs.WellFormed.{query_width, term_width, widths, IsReadable, ExpressionFits, SearchFits, AggregateFits, PairsFit, TermFits, QueryFits, TablesFit, ResultsFit, IsWellFormed}
use Rattle.sql_meaning.specs.Translation.{expression, search, aggregate_of, Tables, stands, then_query, Finding, finding_first, finding_next, written_loop, is_linear, is_recursion, WrittenTerm, written, written_term, input_tables, Scope, after_lets, written_outputs, script_of}
use Rattle.sql_meaning.proofs.LinearBodies.{not_free, is_absent, left_linear, right_linear, of_recursion}
use Rattle.sql_meaning.proofs.Relations.{self_equal}

-- ---- expressions

expression_fits : (n : ℕ) (s : Scalar) → ScalarFits n s → ExpressionFits n (expression s)
expression_fits n (Scalar.column c) h = h
expression_fits n (Scalar.literal z) h = tt
expression_fits n (Scalar.plus s t) h = (expression_fits n s h.0, expression_fits n t h.1)
expression_fits n (Scalar.minus s t) h = (expression_fits n s h.0, expression_fits n t h.1)
expression_fits n (Scalar.times s t) h = (expression_fits n s h.0, expression_fits n t h.1)
expression_fits n (Scalar.negation s) h = expression_fits n s h

expressions_fit : (n : ℕ) (ss : List Scalar) → AllByRecursion (ScalarFits n) ss → AllByRecursion (ExpressionFits n) (map expression ss)
expressions_fit n [] h = tt
expressions_fit n (s ∷ ss) h = (expression_fits n s h.0, expressions_fit n ss h.1)

search_fits : (n : ℕ) (c : Cond) → CondFits n c → SearchFits n (search c)
search_fits n (Cond.compare o s t) h = (expression_fits n s h.0, expression_fits n t h.1)
search_fits n (Cond.conjunction c d) h = (search_fits n c h.0, search_fits n d h.1)
search_fits n (Cond.disjunction c d) h = (search_fits n c h.0, search_fits n d h.1)
search_fits n (Cond.negation c) h = search_fits n c h

aggregate_fits : (n : ℕ) (a : Agg) → AggFits n a → AggregateFits n (aggregate_of a)
aggregate_fits n Agg.count h = tt
aggregate_fits n (Agg.sum c) h = h
aggregate_fits n (Agg.min c) h = h
aggregate_fits n (Agg.max c) h = h

aggregates_fit : (n : ℕ) (as' : List Agg) → AllByRecursion (AggFits n) as' → AllByRecursion (AggregateFits n) (map aggregate_of as')
aggregates_fit n [] h = tt
aggregates_fit n (a ∷ as') h = (aggregate_fits n a h.0, aggregates_fit n as' h.1)

length-expressions : (ss : List Scalar) → length (map expression ss) ≡ length ss
length-expressions [] = refl
length-expressions (s ∷ ss) = ap suc (length-expressions ss)

length-aggregates : (as' : List Agg) → length (map aggregate_of as') ≡ length as'
length-aggregates [] = refl
length-aggregates (a ∷ as') = ap suc (length-aggregates as')

-- ---- tables

module _ (given : List ℕ) where
  -- the table can be read after these queries, and has n columns
  pub record Good (qs : List Query) (t : Table) (n : ℕ) : Type 0 where
    pub readable : IsReadable (length given) (length qs) t
    pub wide : widths qs given t ≡ n

  -- these tables, which others are added to, are still what they were
  pub record Adds (qs : List Query) (s : Written) (n : ℕ) : Type 0 where
    pub fit : TablesFit given s.tables
    pub kept : (t : Table) (m : ℕ) → Good qs t m → Good s.tables t m
    pub good : Good s.tables s.result n

  abbrev pub Known : Arities → Tables → List Query → Type 0
  Known scope tables qs = (y : Name) (n : ℕ) → lookup scope y ≡ Some n → Good qs (tables y) n

  good_later : (q : Query) (rs : List Query) (t : Table) (m : ℕ) → Good rs t m → Good (q ∷ rs) t m
  good_later q rs (Table.given i) m g = record { readable = g.readable; wide = g.wide }
  good_later q rs (Table.made k) m g = record {
    readable = (let l : k < length rs = g.readable in let z : k < suc (length rs) = omega arith in z);
    wide = (let l : k < length rs = g.readable in ap (λ b. cond b (query_width q (widths rs given)) (widths rs given (Table.made k))) (ne_eqb k (length rs) (λ e. omega arith))) ∙ g.wide;
  }

  one_more : (qs rs : List Query) (q : Query) (n : ℕ) → TablesFit given rs → ((t : Table) (m : ℕ) → Good qs t m → Good rs t m) → QueryFits (length given) (length rs) (widths rs given) q → query_width q (widths rs given) ≡ n → Adds qs (then_query rs q) n
  one_more qs rs q n f k h e = record {
    fit = (h, f);
    kept = λ t m g. good_later q rs t m (k t m g);
    good = record {
      readable = (let z : length rs < suc (length rs) = omega arith in z);
      wide = ap (λ b. cond b (query_width q (widths rs given)) (widths rs given (Table.made (length rs)))) (self_equal (length rs)) ∙ e;
    };
  }

  -- a premise on n columns is one on the columns that a table has
  at_width : (P : ℕ → Type 0) (qs : List Query) (t : Table) (n : ℕ) → Good qs t n → P n → P (widths qs given t)
  at_width P qs t n g h = subst P (sym g.wide) h

  known_later : (scope : Arities) (tables : Tables) (qs : List Query) (s : Written) (n : ℕ) → Known scope tables qs → Adds qs s n → Known scope tables s.tables
  known_later scope tables qs s n k a y m h = a.kept (tables y) m (k y m h)

  same_some : (m n : ℕ) → Some m ≡ Some n → m ≡ n
  same_some m n e = ap (λ (o : Option ℕ). or_zero o) e
    where
      or_zero : Option ℕ → ℕ
      or_zero (Some k) = k
      or_zero None = 0

  known_bound : (scope : Arities) (tables : Tables) (qs : List Query) (x : Name) (t : Table) (n : ℕ) → Known scope tables qs → Good qs t n → Known (entry x n ∷ scope) (stands x t tables) qs
  known_bound scope tables qs x t n k g y m h = by (same_name x y) h
    where
      by : (b : Bool) → cond b (Some n) (lookup scope y) ≡ Some m → Good qs (cond b t (tables y)) m
      by true e = subst (λ z. Good qs t z) (same_some n m e) g
      by false e = k y m e

  adds_then : (qs : List Query) (s t : Written) (m n : ℕ) → Adds qs s m → Adds s.tables t n → Adds qs t n
  adds_then qs s t m n a b = record { fit = b.fit; kept = λ u l g. b.kept u l (a.kept u l g); good = b.good }

  two : (qs : List Query) (s t : Written) (l m n : ℕ) (q : Query) → Adds qs s l → Adds s.tables t m → QueryFits (length given) (length t.tables) (widths t.tables given) q → query_width q (widths t.tables given) ≡ n → Adds qs (then_query t.tables q) n
  two qs s t l m n q a b h e = one_more qs t.tables q n b.fit (λ u k g. b.kept u k (a.kept u k g)) h e

  -- what a loop's body makes, where its variable stands for a table
  abbrev pub Turn : Type 0
  Turn = Table → List Query → Written

  -- one turn on a table of n columns
  abbrev pub TurnAdds : List Query → ℕ → Turn → Type 0
  TurnAdds qs n turn = (s : Written) → Adds qs s n → Adds s.tables (turn s.result s.tables) n

  iterated : (qs : List Query) (n : ℕ) (turn : Turn) → TurnAdds qs n turn → (a : Written) → Adds qs a n → (k : ℕ) → Adds qs (repeated (λ (s : Written). turn s.result s.tables) k a) n
  iterated qs n turn h a e zero = e
  iterated qs n turn h a e (suc k) =
      let s = repeated (λ (s : Written). turn s.result s.tables) k a in
      let ih = iterated qs n turn h a e k in
      adds_then qs s (turn s.result s.tables) n n ih (h s ih)

  -- the two tables of a closure have n columns
  record Finds (qs : List Query) (n : ℕ) (f : Finding) : Type 0 where
    all : Adds qs (record { tables = f.tables; result = f.all }) n
    latest : Adds qs (record { tables = f.tables; result = f.latest }) n

  finds_next : (qs : List Query) (n : ℕ) (turn : Turn) → TurnAdds qs n turn → (g : Finding) → Finds qs n g → Finds qs n (finding_next g (turn g.latest g.tables))
  finds_next qs n turn h g e =
      let a = turn g.latest g.tables in
      let made = h (record { tables = g.tables; result = g.latest }) e.latest in
      let new = then_query a.tables (Query.except a.result g.all) in
      let union = Query.union_all g.all new.result in
      let every = then_query new.tables union in
      let old = made.kept g.all n e.all.good in
      let news = one_more g.tables a.tables (Query.except a.result g.all) n made.fit made.kept (made.good.readable, old.readable, made.good.wide ∙ sym old.wide) made.good.wide in
      let all = news.kept g.all n e.all.good in
      let found = one_more g.tables new.tables union n news.fit news.kept (all.readable, news.good.readable, all.wide ∙ sym news.good.wide) all.wide in
      record {
        all = adds_then qs (record { tables = g.tables; result = g.all }) every n n e.all found;
        latest = record { fit = found.fit; kept = λ t m k. found.kept t m (e.all.kept t m k); good = good_later union new.tables new.result n news.good };
      }

  closed : (qs : List Query) (n : ℕ) (turn : Turn) → TurnAdds qs n turn → (a : Written) → Adds qs a n → (k : ℕ) → Finds qs n (repeated (λ (g : Finding). finding_next g (turn g.latest g.tables)) k (finding_first a))
  closed qs n turn h a e zero =
      let d = one_more qs a.tables (Query.select_distinct a.result) n e.fit e.kept e.good.readable e.good.wide in
      record { all = d; latest = d }
  closed qs n turn h a e (suc k) = finds_next qs n turn h _ (closed qs n turn h a e k)

  pub loop_adds : (qs : List Query) (n : ℕ) (turn : Turn) → TurnAdds qs n turn → (a : Written) → Adds qs a n → (l : Loop) (k : ℕ) → Adds qs (written_loop l k turn a) n
  loop_adds qs n turn h a e Loop.iterate k = iterated qs n turn h a e k
  loop_adds qs n turn h a e Loop.closure k = (closed qs n turn h a e k).all

  module _ (recursive : Bool) where
    -- ---- recursive tables

    -- tables that others are added to, and a term over them, of n columns if the recursive table has m, also once more tables are made
    pub record TermAdds (qs : List Query) (w : WrittenTerm) (m n : ℕ) : Type 0 where
      pub fit : TablesFit given w.tables
      pub kept : (t : Table) (k : ℕ) → Good qs t k → Good w.tables t k
      pub fits : (rs : List Query) → ((t : Table) (k : ℕ) → Good w.tables t k → Good rs t k) → TermFits (length given) (length rs) m (widths rs given) w.term
      pub wide : (rs : List Query) → ((t : Table) (k : ℕ) → Good w.tables t k → Good rs t k) → term_width w.term m (widths rs given) ≡ n

    either_term : (qs : List Query) (b : Bool) (l r : WrittenTerm) (m n : ℕ) → (b ≡ true → TermAdds qs l m n) → (b ≡ false → TermAdds qs r m n) → TermAdds qs (cond b l r) m n
    either_term qs true l r m n h k = h refl
    either_term qs false l r m n h k = k refl

    either_adds : (qs : List Query) (b : Bool) (s t : Written) (n : ℕ) → (b ≡ true → Adds qs s n) → Adds qs t n → Adds qs (cond b s t) n
    either_adds qs true s t n h k = h refl
    either_adds qs false s t n h k = k

    pairs_at : (v w l m : ℕ) (ps : List Pair) → v ≡ l → w ≡ m → PairsFit l m ps → PairsFit v w ps
    pairs_at v w l m ps e f h = subst (λ k. PairsFit k w ps) (sym e) (subst (λ k. PairsFit l k ps) (sym f) h)

    left_adds : (qs : List Query) (a : WrittenTerm) (b : Written) (k l m n : ℕ) (ps : List Pair) → TermAdds qs a k l → Adds a.tables b m → PairsFit l m ps → n ≡ l + m → TermAdds qs (record { tables = b.tables; term = Term.join_left a.term b.result ps }) k n
    left_adds qs a b k l m n ps g h p e = record {
      fit = h.fit;
      kept = λ t j z. h.kept t j (g.kept t j z);
      fits = λ rs later.
          let side = later b.result m h.good in
          let before = λ (t : Table) (j : ℕ) (z : Good a.tables t j). later t j (h.kept t j z) in
          (g.fits rs before, side.readable, pairs_at (term_width a.term k (widths rs given)) (widths rs given b.result) l m ps (g.wide rs before) side.wide p);
      wide = λ rs later. ap₂ (λ v w. v + w) (g.wide rs (λ t j z. later t j (h.kept t j z))) (later b.result m h.good).wide ∙ sym e;
    }

    right_adds : (qs : List Query) (a : Written) (b : WrittenTerm) (k l m n : ℕ) (ps : List Pair) → Adds qs a l → TermAdds a.tables b k m → PairsFit l m ps → n ≡ l + m → TermAdds qs (record { tables = b.tables; term = Term.join_right a.result b.term ps }) k n
    right_adds qs a b k l m n ps h g p e = record {
      fit = g.fit;
      kept = λ t j z. g.kept t j (h.kept t j z);
      fits = λ rs later.
          let side = later a.result l (g.kept a.result l h.good) in
          (side.readable, g.fits rs later, pairs_at (widths rs given a.result) (term_width b.term k (widths rs given)) l m ps side.wide (g.wide rs later) p);
      wide = λ rs later. ap₂ (λ v w. v + w) (later a.result l (g.kept a.result l h.good)).wide (g.wide rs later) ∙ sym e;
    }

    -- a relation in which x isn't free has its arity also outside the body
    pub arity_outside : (x : Name) (q : Rel) (scope : Arities) (m d n : ℕ) → not (has x (free q)) ≡ true → HasArity q (entry x m ∷ scope) d n → HasArity q scope d n
    arity_outside x q scope m d n e h =
        arity_free q (entry x m ∷ scope) scope d n (λ y j. ap (λ b. cond b (Some m) (lookup scope y)) (not_free x q (is_absent x q e) y j)) (λ y. none (same_name x y) (lookup scope y)) h
      where
        none : (b : Bool) (o : Option ℕ) → cond b (Some m) o ≡ None → o ≡ None
        none true o e = absurd cc
        none false o e = e

    pub recursion_adds : (qs : List Query) (x : Name) (b : Rel) (a : Written) (n : ℕ) → Adds qs a n → (m : WrittenTerm) → (is_linear x b ≡ true → TermAdds a.tables m n n) → (l : Loop) (k : ℕ) → is_recursion recursive l k x b ≡ true →
        Adds qs (then_query m.tables (Query.recursive k a.result m.term)) n
    recursion_adds qs x b a n start m adds Loop.iterate k e = absurd (true≢false (sym e))
    recursion_adds qs x b a n start m adds Loop.closure k e =
        let g = adds (of_recursion recursive k x b e) in
        let old = g.kept a.result n start.good in
        one_more qs m.tables (Query.recursive k a.result m.term) n g.fit (λ t j z. g.kept t j (start.kept t j z)) (
          old.readable,
          at_width (λ w. TermFits (length given) (length m.tables) w (widths m.tables given) m.term) m.tables a.result n old (g.fits m.tables (λ t j z. z)),
          at_width (λ w. term_width m.term w (widths m.tables given) ≡ w) m.tables a.result n old (g.wide m.tables (λ t j z. z)),
        )
        old.wide

    mutual
      unfolding HasArity written

      pub written_fits : (r : Rel) (scope : Arities) (d n : ℕ) (tables : Tables) (qs : List Query) → HasArity r scope d n → TablesFit given qs → Known scope tables qs → Adds qs (written recursive r tables qs) n
      written_fits (Rel.named x) scope d n tables qs h f k = record { fit = f; kept = λ t m g. g; good = k x n h }
      written_fits (Rel.select r ss) scope d n tables qs h f k =
          let s = written recursive r tables qs in
          let a = written_fits r scope d h.0 tables qs h.1 f k in
          one_more qs s.tables (Query.select (map expression ss) s.result) n a.fit a.kept
          (a.good.readable, at_width (λ w. AllByRecursion (ExpressionFits w) (map expression ss)) s.tables s.result h.0 a.good (expressions_fit h.0 ss h.2))
          (length-expressions ss ∙ sym h.3)
      written_fits (Rel.filter r c) scope d n tables qs h f k =
          let s = written recursive r tables qs in
          let a = written_fits r scope d n tables qs h.0 f k in
          one_more qs s.tables (Query.select_where s.result (search c)) n a.fit a.kept
          (a.good.readable, at_width (λ w. SearchFits w (search c)) s.tables s.result n a.good (search_fits n c h.1))
          a.good.wide
      written_fits (Rel.concat p q) scope d n tables qs h f k =
          let s = written recursive p tables qs in
          let t = written recursive q tables s.tables in
          let a = written_fits p scope d n tables qs h.0 f k in
          let b = written_fits q scope d n tables s.tables h.1 a.fit (known_later scope tables qs s n k a) in
          let left = b.kept s.result n a.good in
          two qs s t n n n (Query.union_all s.result t.result) a b (left.readable, b.good.readable, left.wide ∙ sym b.good.wide) left.wide
      written_fits (Rel.join p q ps) scope d n tables qs h f k =
          let s = written recursive p tables qs in
          let t = written recursive q tables s.tables in
          let a = written_fits p scope d h.0 tables qs h.2 f k in
          let b = written_fits q scope d h.1 tables s.tables h.3 a.fit (known_later scope tables qs s h.0 k a) in
          let left = b.kept s.result h.0 a.good in
          two qs s t h.0 h.1 n (Query.select_join s.result t.result ps) a b (
            left.readable,
            b.good.readable,
            at_width (λ w. AllByRecursion (λ (x : Pair). (x.left < w) × (x.right < widths t.tables given t.result)) ps) t.tables s.result h.0 left
                (at_width (λ w. AllByRecursion (λ (x : Pair). (x.left < h.0) × (x.right < w)) ps) t.tables t.result h.1 b.good h.4),
          )
          (ap₂ (λ l m. l + m) left.wide b.good.wide ∙ sym h.5)
      written_fits (Rel.group r ks as') scope d n tables qs h f k =
          let s = written recursive r tables qs in
          let a = written_fits r scope d h.0 tables qs h.1 f k in
          one_more qs s.tables (Query.select_group ks (map aggregate_of as') s.result) n a.fit a.kept (
            a.good.readable,
            at_width (λ w. AllByRecursion (λ k. k < w) ks) s.tables s.result h.0 a.good h.2,
            at_width (λ w. AllByRecursion (AggregateFits w) (map aggregate_of as')) s.tables s.result h.0 a.good (aggregates_fit h.0 as' h.3),
          )
          (ap (λ l. length ks + l) (length-aggregates as') ∙ sym h.4)
      written_fits (Rel.distinct r) scope d n tables qs h f k =
          let s = written recursive r tables qs in
          let a = written_fits r scope d n tables qs h f k in
          one_more qs s.tables (Query.select_distinct s.result) n a.fit a.kept a.good.readable a.good.wide
      written_fits (Rel.except p q) scope d n tables qs h f k =
          let s = written recursive p tables qs in
          let t = written recursive q tables s.tables in
          let a = written_fits p scope d n tables qs h.0 f k in
          let b = written_fits q scope d n tables s.tables h.1 a.fit (known_later scope tables qs s n k a) in
          let left = b.kept s.result n a.good in
          two qs s t n n n (Query.except s.result t.result) a b (left.readable, b.good.readable, left.wide ∙ sym b.good.wide) left.wide
      written_fits (Rel.intersect p q) scope d n tables qs h f k =
          let s = written recursive p tables qs in
          let t = written recursive q tables s.tables in
          let a = written_fits p scope d n tables qs h.0 f k in
          let b = written_fits q scope d n tables s.tables h.1 a.fit (known_later scope tables qs s n k a) in
          let left = b.kept s.result n a.good in
          two qs s t n n n (Query.intersect s.result t.result) a b (left.readable, b.good.readable, left.wide ∙ sym b.good.wide) left.wide
      written_fits (Rel.loop l m x r b) scope d n tables qs h f k =
          let s = written recursive r tables qs in
          let start = written_fits r scope d n tables qs h.2 f k in
          either_adds qs (is_recursion recursive l m x b) _ _ n
          (λ e. recursion_adds qs x b s n start (written_term recursive x b tables s.tables)
          (λ g. term_fits x b scope (suc d) n n tables s.tables g h.4 start.fit (known_later scope tables qs s n k start)) l m e)
          (loop_adds qs n (λ t made. written recursive b (stands x t tables) made)
          (λ s e. written_fits b (entry x n ∷ scope) (suc d) n (stands x s.result tables) s.tables h.4 e.fit
          (known_bound scope tables s.tables x s.result n (known_later scope tables qs s n k e) e.good))
          s start l m)

      pub term_fits : (x : Name) (r : Rel) (scope : Arities) (d m n : ℕ) (tables : Tables) (qs : List Query) → is_linear x r ≡ true → HasArity r (entry x m ∷ scope) d n → TablesFit given qs → Known scope tables qs → TermAdds qs (written_term recursive x r tables qs) m n
      term_fits x (Rel.named y) scope d m n tables qs e h f k = record {
        fit = f;
        kept = λ t j g. g;
        fits = λ rs later. tt;
        wide = λ rs later. same_some m n (sym (ap (λ b. cond b (Some m) (lookup scope y)) e) ∙ h);
      }
      term_fits x (Rel.select r ss) scope d m n tables qs e h f k =
          let g = term_fits x r scope d m h.0 tables qs e h.1 f k in
          let t = written_term recursive x r tables qs in
          record {
            fit = g.fit;
            kept = g.kept;
            fits = λ rs later. (
              g.fits rs later,
              subst (λ w. AllByRecursion (ExpressionFits w) (map expression ss)) (sym (g.wide rs later)) (expressions_fit h.0 ss h.2),
            );
            wide = λ rs later. length-expressions ss ∙ sym h.3;
          }
      term_fits x (Rel.filter r c) scope d m n tables qs e h f k =
          let g = term_fits x r scope d m n tables qs e h.0 f k in
          record {
            fit = g.fit;
            kept = g.kept;
            fits = λ rs later. (g.fits rs later, subst (λ w. SearchFits w (search c)) (sym (g.wide rs later)) (search_fits n c h.1));
            wide = g.wide;
          }
      term_fits x (Rel.concat p q) scope d m n tables qs e h f k = absurd (true≢false (sym e))
      term_fits x (Rel.join p q ps) scope d m n tables qs e h f k =
          either_term qs (is_linear x p) _ _ m n
          (λ j.
          let s = written_term recursive x p tables qs in
          let a = term_fits x p scope d m h.0 tables qs j h.2 f k in
          let b = written_fits q scope d h.1 tables s.tables (arity_outside x q scope m d h.1 (left_linear x p q e j) h.3) a.fit (λ y i z. a.kept (tables y) i (k y i z)) in
          left_adds qs s (written recursive q tables s.tables) m h.0 h.1 n ps a b h.4 h.5)
          (λ j.
          let s = written recursive p tables qs in
          let i = right_linear x p q e j in
          let a = written_fits p scope d h.0 tables qs (arity_outside x p scope m d h.0 i.0 h.2) f k in
          right_adds qs s (written_term recursive x q tables s.tables) m h.0 h.1 n ps a (term_fits x q scope d m h.1 tables s.tables i.1 h.3 a.fit (known_later scope tables qs s h.0 k a)) h.4 h.5)
      term_fits x (Rel.group r ks as') scope d m n tables qs e h f k = absurd (true≢false (sym e))
      term_fits x (Rel.distinct r) scope d m n tables qs e h f k = absurd (true≢false (sym e))
      term_fits x (Rel.except p q) scope d m n tables qs e h f k = absurd (true≢false (sym e))
      term_fits x (Rel.intersect p q) scope d m n tables qs e h f k = absurd (true≢false (sym e))
      term_fits x (Rel.loop l i y r b) scope d m n tables qs e h f k = absurd (true≢false (sym e))

-- ---- inputs

abbrev arities_of : List Input → List ℕ
arities_of as' = map (λ (a : Input). a.arity) as'

-- a name in scope keeps its arity as inputs are added
kept_arity : (as' : List Input) (scope : Arities) (y : Name) (n : ℕ) → InputsFit scope as' → lookup scope y ≡ Some n → lookup (after_inputs scope as') y ≡ Some n
kept_arity [] scope y n f h = h
kept_arity (a ∷ as') scope y n f h = kept_arity as' (entry a.name a.arity ∷ scope) y n f.2 (by (same_name a.name y) refl)
  where
    by : (b : Bool) → same_name a.name y ≡ b → cond b (Some a.arity) (lookup scope y) ≡ Some n
    by true e = absurd (let q : None ≡ Some n = sym f.0 ∙ subst (λ z. lookup scope z ≡ Some n) (sym ((Decides-same_name a.name y).0 e)) h in cc)
    by false e = h

module _ (recursive : Bool) (given : List ℕ) where
  inputs_known : (as' : List Input) (scope : Arities) (i : ℕ) → InputsFit scope as' → length given ≡ i + length as' → ((j : ℕ) → slice_index_or given (i + j) 0 ≡ slice_index_or (arities_of as') j 0) →
      (y : Name) (n : ℕ) → lookup (after_inputs scope as') y ≡ Some n → (lookup scope y ≡ Some n) ⊎ Good given [] (input_tables as' i y) n
  inputs_known [] scope i f l g y n h = inl h
  inputs_known (a ∷ as') scope i f l g y n h =
      go (same_name a.name y) refl (inputs_known as' (entry a.name a.arity ∷ scope) (suc i) f.2 (omega arith) (λ j. ap (λ k. slice_index_or given k 0) (let e : suc i + j ≡ i + suc j = omega arith in e) ∙ g (suc j)) y n h)
    where
      go : (b : Bool) → same_name a.name y ≡ b → (cond b (Some a.arity) (lookup scope y) ≡ Some n) ⊎ Good given [] (input_tables as' (suc i) y) n → (lookup scope y ≡ Some n) ⊎ Good given [] (cond b (Table.given i) (input_tables as' (suc i) y)) n
      go false e (inl k) = inl k
      go false e (inr k) = inr k
      go true e k = inr (record { readable = (let z : i < length given = omega (arith, l) in z); wide = ap (λ k. slice_index_or given k 0) (let z : i ≡ i + 0 = omega arith in z) ∙ g 0 ∙ arity })
        where
          here : lookup (entry a.name a.arity ∷ scope) y ≡ Some a.arity
          here = ap (λ b. cond b (Some a.arity) (lookup scope y)) e

          arity : a.arity ≡ n
          arity = same_some given a.arity n (sym (kept_arity as' (entry a.name a.arity ∷ scope) y a.arity f.2 here) ∙ h)

  -- a script whose tables fit, and keep what there was
  record Forms (qs : List Query) (s : Script) (ns : List ℕ) : Type 0 where
    fit : TablesFit given s.tables
    kept : (t : Table) (m : ℕ) → Good given qs t m → Good given s.tables t m
    results : ResultsFit (length given) (length s.tables) (widths s.tables given) s.results ns

  outputs_formed : (os : List Output) (scope before : Arities) (ns : List ℕ) (names : Tables) (qs : List Query) → OutputsFit scope before os ns → TablesFit given qs → Known given scope names qs → Forms qs (written_outputs recursive os names qs) ns
  unfolding written_outputs
  outputs_formed [] scope before [] names qs h f known = record { fit = f; kept = λ t m g. g; results = tt }
  outputs_formed [] scope before (n ∷ ns) names qs h f known = absurd h
  outputs_formed (o ∷ os) scope before [] names qs h f known = absurd h
  outputs_formed (o ∷ os) scope before (n ∷ ns) names qs h f known =
      let s = written recursive o.value names qs in
      let a = written_fits given recursive o.value scope 0 n names qs h.0 f known in
      let rest = outputs_formed os scope (entry o.name n ∷ before) ns names s.tables h.2 a.fit (known_later given scope names qs s n known a) in
      let good = rest.kept s.result n a.good in
      record { fit = rest.fit; kept = λ t m g. rest.kept t m (a.kept t m g); results = (good.readable, good.wide, rest.results) }

  rest_formed : (as' : List Let) (os : List Output) (scope : Arities) (ns : List ℕ) (s : Scope) → RestFits scope as' os ns → TablesFit given s.tables → Known given scope s.names s.tables →
      IsWellFormed given (written_outputs recursive os (after_lets recursive as' s).names (after_lets recursive as' s).tables) ns
  unfolding after_lets
  rest_formed [] os scope ns s h f known =
      let forms = outputs_formed os scope [] ns s.names s.tables h f known in
      record { tables = forms.fit; results = forms.results }
  rest_formed (a ∷ as') os scope ns s h f known =
      let w = written recursive a.value s.names s.tables in
      let e = written_fits given recursive a.value scope 0 h.0 s.names s.tables h.1 f known in
      rest_formed as' os (entry a.name h.0 ∷ scope) ns (record { names = stands a.name w.result s.names; tables = w.tables }) h.3 e.fit
      (known_bound given scope s.names w.tables a.name w.result h.0 (known_later given scope s.names s.tables w h.0 known e) e.good)

length-arities : (as' : List Input) → length (arities_of as') ≡ length as'
length-arities [] = refl
length-arities (a ∷ as') = ap suc (length-arities as')

pub script_formed : (recursive : Bool) (p : Program) (ns : List ℕ) → WellTyped p ns → IsWellFormed (map (λ (a : Input). a.arity) p.inputs) (script_of recursive p) ns
unfolding script_of
script_formed recursive p ns t =
    rest_formed recursive (arities_of p.inputs) p.lets p.outputs (after_inputs [] p.inputs) ns (record { names = input_tables p.inputs 0; tables = [] }) t.rest tt known
  where
    known : Known (arities_of p.inputs) (after_inputs [] p.inputs) (input_tables p.inputs 0) []
    known y n h = by (inputs_known recursive (arities_of p.inputs) p.inputs [] 0 t.inputs (omega (arith, length-arities p.inputs)) (λ j. ap (λ k. slice_index_or (arities_of p.inputs) k 0) (let e : 0 + j ≡ j = omega arith in e)) y n h)
      where
        by : (None ≡ Some n) ⊎ Good (arities_of p.inputs) [] (input_tables p.inputs 0 y) n → Good (arities_of p.inputs) [] (input_tables p.inputs 0 y) n
        by (inl e) = absurd (cc)
        by (inr g) = g
