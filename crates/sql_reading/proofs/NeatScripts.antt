-- Of a well-typed program's script each table has at most as many columns as a record has fields, and each number has 64 bits.
use Rattle.std.proofs.Common.{◌≡◌, ℕ, zero, suc, ◌+◌, ◌<◌, ◌≤◌, ◌^◌, Bool, true, false, cond, List, [], ◌∷◌, map, length, slice_index_or, Some, None, refl, sym, ap, subst, ◌∙◌, arith, ne_eqb, inl, inr, ◌⊎◌, FitsSigned, w64}
use Rattle.std.specs.List.{AllByRecursion}
use Rattle.std.proofs.lemmas.Bool.{true≢false}
use Rattle.std.proofs.lemmas.Int.{SFits-int_wrap}
use Rattle.semantics.proofs.NamesAmong.{Decides-same_name}
use Rattle.semantics.specs.Limits.{max_fields}
use Rattle.semantics.specs.Meaning.{same_name, repeated}
use Rattle.semantics.specs.Query.{Scalar, Cond, Name, Pair, Loop, Rel, Input, Let, Output, Program}
use Rattle.semantics.specs.Typing.{ScalarFits, CondFits, lookup, entry, HasArity, InputsFit, after_inputs, OutputsFit, RestFits, WellTyped}
use Rattle.semantics.specs.Typing.{Scope as Arities}
use Rattle.sql_meaning.specs.Script.{Table, Expression, Search, Term, Query, Written}
use Rattle.sql_meaning.specs.WellFormed.{query_width, widths, TablesFit}
use Rattle.sql_meaning.specs.Translation.{expression, search, aggregate_of, Tables, stands, then_query, Finding, finding_first, finding_next, written_loop, is_linear, is_recursion, WrittenTerm, written, written_term, input_tables, Scope, after_lets, written_outputs, script_of}
use Rattle.sql_meaning.proofs.Relations.{self_equal}
use Rattle.sql_meaning.proofs.LinearBodies.{left_linear, right_linear, of_recursion}
use Rattle.sql_meaning.proofs.Formed.{Good, Adds, Known, loop_adds, recursion_adds, arity_outside, written_fits, term_fits}
use Rattle.sql_reading.specs.Readable.{IsShort, IsShortSearch, IsShortPair}

-- ---- numbers

abbrev pub Numbers : Expression → Type 0
Numbers (Expression.column c) = Unit {0}
Numbers (Expression.number z) = FitsSigned w64 z
Numbers (Expression.sum d e) = Numbers d × Numbers e
Numbers (Expression.difference d e) = Numbers d × Numbers e
Numbers (Expression.product d e) = Numbers d × Numbers e
Numbers (Expression.opposite e) = Numbers e
Numbers (Expression.wrapped e) = Numbers e

abbrev pub NumbersOfSearch : Search → Type 0
NumbersOfSearch (Search.compare o d e) = Numbers d × Numbers e
NumbersOfSearch (Search.both c d) = NumbersOfSearch c × NumbersOfSearch d
NumbersOfSearch (Search.either c d) = NumbersOfSearch c × NumbersOfSearch d
NumbersOfSearch (Search.no c) = NumbersOfSearch c

-- the columns and numbers of a recursive term
abbrev pub ShortParts : Term → Type 0
ShortParts Term.latest = Unit {0}
ShortParts (Term.select es m) = AllByRecursion IsShort es × ShortParts m
ShortParts (Term.select_where m c) = ShortParts m × IsShortSearch c
ShortParts (Term.join_left m t ps) = ShortParts m × AllByRecursion IsShortPair ps
ShortParts (Term.join_right t m ps) = ShortParts m × AllByRecursion IsShortPair ps

abbrev pub NumbersOf : Query → Type 0
NumbersOf (Query.select es t) = AllByRecursion Numbers es
NumbersOf (Query.select_where t c) = NumbersOfSearch c
NumbersOf (Query.select_join t u ps) = Unit {0}
NumbersOf (Query.select_group ks as' t) = Unit {0}
NumbersOf (Query.select_distinct t) = Unit {0}
NumbersOf (Query.union_all t u) = Unit {0}
NumbersOf (Query.except t u) = Unit {0}
NumbersOf (Query.intersect t u) = Unit {0}
NumbersOf (Query.recursive n t m) = (n < 2 ^ 64) × ShortParts m

numbers_in : (s : Scalar) → Numbers (expression s)
numbers_in (Scalar.column c) = tt
numbers_in (Scalar.literal z) = SFits-int_wrap w64 z
numbers_in (Scalar.plus s t) = (numbers_in s, numbers_in t)
numbers_in (Scalar.minus s t) = (numbers_in s, numbers_in t)
numbers_in (Scalar.times s t) = (numbers_in s, numbers_in t)
numbers_in (Scalar.negation s) = numbers_in s

numbers_in_all : (ss : List Scalar) → AllByRecursion Numbers (map expression ss)
numbers_in_all [] = tt
numbers_in_all (s ∷ ss) = (numbers_in s, numbers_in_all ss)

numbers_in_search : (c : Cond) → NumbersOfSearch (search c)
numbers_in_search (Cond.compare o s t) = (numbers_in s, numbers_in t)
numbers_in_search (Cond.conjunction c d) = (numbers_in_search c, numbers_in_search d)
numbers_in_search (Cond.disjunction c d) = (numbers_in_search c, numbers_in_search d)
numbers_in_search (Cond.negation c) = numbers_in_search c

-- columns of a relation of few columns
short_scalar : (n : ℕ) (s : Scalar) → n ≤ max_fields → ScalarFits n s → IsShort (expression s)
short_scalar n (Scalar.column c) l f = omega (arith, f)
short_scalar n (Scalar.literal z) l f = SFits-int_wrap w64 z
short_scalar n (Scalar.plus s t) l f = (short_scalar n s l f.0, short_scalar n t l f.1)
short_scalar n (Scalar.minus s t) l f = (short_scalar n s l f.0, short_scalar n t l f.1)
short_scalar n (Scalar.times s t) l f = (short_scalar n s l f.0, short_scalar n t l f.1)
short_scalar n (Scalar.negation s) l f = short_scalar n s l f

short_scalars : (n : ℕ) (ss : List Scalar) → n ≤ max_fields → AllByRecursion (ScalarFits n) ss → AllByRecursion IsShort (map expression ss)
short_scalars n [] l f = tt
short_scalars n (s ∷ ss) l f = (short_scalar n s l f.0, short_scalars n ss l f.1)

short_cond : (n : ℕ) (c : Cond) → n ≤ max_fields → CondFits n c → IsShortSearch (search c)
short_cond n (Cond.compare o s t) l f = (short_scalar n s l f.0, short_scalar n t l f.1)
short_cond n (Cond.conjunction c d) l f = (short_cond n c l f.0, short_cond n d l f.1)
short_cond n (Cond.disjunction c d) l f = (short_cond n c l f.0, short_cond n d l f.1)
short_cond n (Cond.negation c) l f = short_cond n c l f

short_pair : (m n : ℕ) (p : Pair) → m ≤ max_fields → n ≤ max_fields → p.left < m → p.right < n → IsShortPair p
short_pair m n p l k f g = (omega arith, omega arith)

few_pairs : (m n : ℕ) (ps : List Pair) → m ≤ max_fields → n ≤ max_fields → AllByRecursion (λ (x : Pair). (x.left < m) × (x.right < n)) ps → AllByRecursion IsShortPair ps
few_pairs m n [] l k f = tt
few_pairs m n (p ∷ ps) l k f = (short_pair m n p l k f.0.0 f.0.1, few_pairs m n ps l k f.1)

-- ---- arities

abbrev Small : Arities → Type 0
Small scope = (y : Name) (n : ℕ) → lookup scope y ≡ Some n → n ≤ max_fields

some_same : (m n : ℕ) → Some m ≡ Some n → m ≡ n
some_same m n e = cc

small_bound : (scope : Arities) (x : Name) (n : ℕ) → Small scope → n ≤ max_fields → Small (entry x n ∷ scope)
small_bound scope x n s l y m h = by (same_name x y) h
  where
    by : (b : Bool) → cond b (Some n) (lookup scope y) ≡ Some m → m ≤ max_fields
    by true e = subst (λ k. k ≤ max_fields) (some_same n m e) l
    by false e = s y m e

small_arity : (r : Rel) (scope : Arities) (d n : ℕ) → Small scope → HasArity r scope d n → n ≤ max_fields
unfolding HasArity
small_arity (Rel.named x) scope d n s h = s x n h
small_arity (Rel.select r ss) scope d n s h = h.4.1
small_arity (Rel.filter r c) scope d n s h = small_arity r scope d n s h.0
small_arity (Rel.concat p q) scope d n s h = small_arity p scope d n s h.0
small_arity (Rel.join p q ps) scope d n s h = h.6.1
small_arity (Rel.group r ks as') scope d n s h = h.5.1
small_arity (Rel.distinct r) scope d n s h = small_arity r scope d n s h
small_arity (Rel.except p q) scope d n s h = small_arity p scope d n s h.0
small_arity (Rel.intersect p q) scope d n s h = small_arity p scope d n s h.0
small_arity (Rel.loop l m x r b) scope d n s h = small_arity r scope d n s h.2

-- ---- tables

module _ (given : List ℕ) where
  -- each table has few columns, and each number has 64 bits
  abbrev pub Neat : List Query → Type 0
  Neat [] = Unit {0}
  Neat (q ∷ earlier) = (query_width q (widths earlier given) ≤ max_fields) × NumbersOf q × Neat earlier

  latest_width : (rs : List Query) (q : Query) (n : ℕ) → widths (q ∷ rs) given (Table.made (length rs)) ≡ n → query_width q (widths rs given) ≡ n
  latest_width rs q n h =
      sym (ap (λ b. cond b (query_width q (widths rs given)) (widths rs given (Table.made (length rs)))) (self_equal (length rs))) ∙ h

  few : (w n : ℕ) → w ≡ n → n ≤ max_fields → w ≤ max_fields
  few w n e l = subst (λ k. k ≤ max_fields) (sym e) l

  neat_then : (qs rs : List Query) (q : Query) (n : ℕ) → Adds given qs (then_query rs q) n → n ≤ max_fields → NumbersOf q → Neat rs → Neat (q ∷ rs)
  neat_then qs rs q n a l w h = (few (query_width q (widths rs given)) n (latest_width rs q n a.good.wide) l, w, h)

  later : (scope : Arities) (tables : Tables) (qs : List Query) (s : Written) (n : ℕ) → Known given scope tables qs → Adds given qs s n → Known given scope tables s.tables
  later scope tables qs s n k a y m h = a.kept (tables y) m (k y m h)

  bound : (scope : Arities) (tables : Tables) (qs : List Query) (x : Name) (t : Table) (n : ℕ) → Known given scope tables qs → Good given qs t n → Known given (entry x n ∷ scope) (stands x t tables) qs
  bound scope tables qs x t n k g y m h = by (same_name x y) h
    where
      by : (b : Bool) → cond b (Some n) (lookup scope y) ≡ Some m → Good given qs (cond b t (tables y)) m
      by true e = subst (λ z. Good given qs t z) (some_same n m e) g
      by false e = k y m e

  good_later : (q : Query) (rs : List Query) (t : Table) (m : ℕ) → Good given rs t m → Good given (q ∷ rs) t m
  good_later q rs (Table.given i) m g = record { readable = g.readable; wide = g.wide }
  good_later q rs (Table.made k) m g = record {
    readable = (let l : k < length rs = g.readable in let z : k < suc (length rs) = omega arith in z);
    wide = (let l : k < length rs = g.readable in ap (λ b. cond b (query_width q (widths rs given)) (widths rs given (Table.made k))) (ne_eqb k (length rs) (λ e. omega arith))) ∙ g.wide;
  }

  -- a loop of at most m turns, on tables of n columns
  module _ (qs : List Query) (n m : ℕ) (turn : Table → List Query → Written) (a : Written) (small : n ≤ max_fields)
      (turns : (l : Loop) (k : ℕ) → k ≤ m → Adds given qs (written_loop l k turn a) n)
      (adds : (s : Written) → Adds given qs s n → Adds given s.tables (turn s.result s.tables) n)
      (neat : (s : Written) → Adds given qs s n → Neat s.tables → Neat (turn s.result s.tables).tables) (start : Neat a.tables) where
    neat_iterated : (l : Loop) → l ≡ Loop.iterate → (k : ℕ) → k ≤ m → Neat (written_loop Loop.iterate k turn a).tables
    neat_iterated l e zero h = start
    neat_iterated l e (suc k) h = neat (written_loop Loop.iterate k turn a) (turns Loop.iterate k (omega arith)) (neat_iterated l e k (omega arith))

    abbrev state : ℕ → Finding
    state k = repeated (λ (f : Finding). finding_next f (turn f.latest f.tables)) k (finding_first a)

    abbrev found : ℕ → Written
    found k = record { tables = (state k).tables; result = (state k).latest }

    found_adds : (k : ℕ) → k ≤ m → Adds given qs (found k) n
    found_adds zero h = turns Loop.closure 0 h
    found_adds (suc k) h =
        let all = turns Loop.closure (suc k) h in
        let g = state k in
        let t = turn g.latest g.tables in
        let new = then_query t.tables (Query.except t.result g.all) in
        let union = Query.union_all g.all new.result in
        let wide : widths new.tables given new.result ≡ n = sym all.fit.0.2 ∙ latest_width new.tables union n all.good.wide in
        record { fit = all.fit; kept = all.kept; good = good_later union new.tables new.result n (record { readable = all.fit.0.1; wide = wide }) }

    neat_closed : (k : ℕ) → k ≤ m → Neat (state k).tables
    neat_closed zero h = neat_then qs a.tables (Query.select_distinct a.result) n (turns Loop.closure 0 h) small tt start
    neat_closed (suc k) h =
        let all = turns Loop.closure (suc k) h in
        let g = state k in
        let t = turn g.latest g.tables in
        let new = then_query t.tables (Query.except t.result g.all) in
        let union = Query.union_all g.all new.result in
        let before = found_adds k (omega arith) in (
          few (query_width union (widths new.tables given)) n (latest_width new.tables union n all.good.wide) small,
          tt,
          (few (widths t.tables given t.result) n (adds (found k) before).good.wide small, tt, neat (found k) before (neat_closed k (omega arith))),
        )

    neat_loop : (l : Loop) (k : ℕ) → k ≤ m → Neat (written_loop l k turn a).tables
    neat_loop Loop.iterate k h = neat_iterated Loop.iterate refl k h
    neat_loop Loop.closure k h = neat_closed k h

  either_neat : (b : Bool) (s t : Written) → (b ≡ true → Neat s.tables) → Neat t.tables → Neat (cond b s t).tables
  either_neat true s t h k = h refl
  either_neat false s t h k = k

  abbrev NeatTerm : WrittenTerm → Type 0
  NeatTerm w = Neat w.tables × ShortParts w.term

  either_term : (b : Bool) (s t : WrittenTerm) → (b ≡ true → NeatTerm s) → (b ≡ false → NeatTerm t) → NeatTerm (cond b s t)
  either_term true s t h k = h refl
  either_term false s t h k = k refl

  module _ (recursive : Bool) where
    of_loop : (l : Loop) (m : ℕ) (x : Name) (b : Rel) → is_recursion recursive l m x b ≡ true → is_linear x b ≡ true
    of_loop Loop.iterate m x b e = absurd (true≢false (sym e))
    of_loop Loop.closure m x b e = of_recursion recursive m x b e

    mutual
      unfolding HasArity written

      neat_written : (r : Rel) (scope : Arities) (d n : ℕ) (tables : Tables) (qs : List Query) → Small scope → HasArity r scope d n → TablesFit given qs → Known given scope tables qs → Neat qs → Neat (written recursive r tables qs).tables
      neat_written (Rel.named x) scope d n tables qs s h f k e = e
      neat_written (Rel.select r ss) scope d n tables qs s h f k e =
          let a = written recursive r tables qs in
          neat_then qs a.tables (Query.select (map expression ss) a.result) n (written_fits given recursive (Rel.select r ss) scope d n tables qs h f k) (small_arity (Rel.select r ss) scope d n s h) (numbers_in_all ss)
          (neat_written r scope d h.0 tables qs s h.1 f k e)
      neat_written (Rel.filter r c) scope d n tables qs s h f k e =
          let a = written recursive r tables qs in
          neat_then qs a.tables (Query.select_where a.result (search c)) n (written_fits given recursive (Rel.filter r c) scope d n tables qs h f k) (small_arity (Rel.filter r c) scope d n s h) (numbers_in_search c)
          (neat_written r scope d n tables qs s h.0 f k e)
      neat_written (Rel.concat p q) scope d n tables qs s h f k e =
          let a = written recursive p tables qs in
          let b = written recursive q tables a.tables in
          let fa = written_fits given recursive p scope d n tables qs h.0 f k in
          neat_then qs b.tables (Query.union_all a.result b.result) n (written_fits given recursive (Rel.concat p q) scope d n tables qs h f k) (small_arity (Rel.concat p q) scope d n s h) tt
          (neat_written q scope d n tables a.tables s h.1 fa.fit (later scope tables qs a n k fa) (neat_written p scope d n tables qs s h.0 f k e))
      neat_written (Rel.join p q ps) scope d n tables qs s h f k e =
          let a = written recursive p tables qs in
          let b = written recursive q tables a.tables in
          let fa = written_fits given recursive p scope d h.0 tables qs h.2 f k in
          neat_then qs b.tables (Query.select_join a.result b.result ps) n (written_fits given recursive (Rel.join p q ps) scope d n tables qs h f k) (small_arity (Rel.join p q ps) scope d n s h) tt
          (neat_written q scope d h.1 tables a.tables s h.3 fa.fit (later scope tables qs a h.0 k fa) (neat_written p scope d h.0 tables qs s h.2 f k e))
      neat_written (Rel.group r ks as') scope d n tables qs s h f k e =
          let a = written recursive r tables qs in
          neat_then qs a.tables (Query.select_group ks (map aggregate_of as') a.result) n (written_fits given recursive (Rel.group r ks as') scope d n tables qs h f k) (small_arity (Rel.group r ks as') scope d n s h) tt
          (neat_written r scope d h.0 tables qs s h.1 f k e)
      neat_written (Rel.distinct r) scope d n tables qs s h f k e =
          let a = written recursive r tables qs in
          neat_then qs a.tables (Query.select_distinct a.result) n (written_fits given recursive (Rel.distinct r) scope d n tables qs h f k) (small_arity (Rel.distinct r) scope d n s h) tt
          (neat_written r scope d n tables qs s h f k e)
      neat_written (Rel.except p q) scope d n tables qs s h f k e =
          let a = written recursive p tables qs in
          let b = written recursive q tables a.tables in
          let fa = written_fits given recursive p scope d n tables qs h.0 f k in
          neat_then qs b.tables (Query.except a.result b.result) n (written_fits given recursive (Rel.except p q) scope d n tables qs h f k) (small_arity (Rel.except p q) scope d n s h) tt
          (neat_written q scope d n tables a.tables s h.1 fa.fit (later scope tables qs a n k fa) (neat_written p scope d n tables qs s h.0 f k e))
      neat_written (Rel.intersect p q) scope d n tables qs s h f k e =
          let a = written recursive p tables qs in
          let b = written recursive q tables a.tables in
          let fa = written_fits given recursive p scope d n tables qs h.0 f k in
          neat_then qs b.tables (Query.intersect a.result b.result) n (written_fits given recursive (Rel.intersect p q) scope d n tables qs h f k) (small_arity (Rel.intersect p q) scope d n s h) tt
          (neat_written q scope d n tables a.tables s h.1 fa.fit (later scope tables qs a n k fa) (neat_written p scope d n tables qs s h.0 f k e))
      neat_written (Rel.loop l m x r b) scope d n tables qs s h f k e =
          let small : n ≤ max_fields = small_arity r scope d n s h.2 in
          let a = written recursive r tables qs in
          let start = written_fits given recursive r scope d n tables qs h.2 f k in
          let before = neat_written r scope d n tables qs s h.2 f k e in
          let turn : Table → List Query → Written = λ t made. written recursive b (stands x t tables) made in
          let turns : (w : Written) → Adds given qs w n → Adds given w.tables (turn w.result w.tables) n =
          λ w c. written_fits given recursive b (entry x n ∷ scope) (suc d) n (stands x w.result tables) w.tables h.4 c.fit
          (bound scope tables w.tables x w.result n (later scope tables qs w n k c) c.good) in
          either_neat (is_recursion recursive l m x b) _ _
          (λ i.
          let w = written_term recursive x b tables a.tables in
          let linear = of_loop l m x b i in
          let known = later scope tables qs a n k start in
          let g = neat_term x b scope (suc d) n n tables a.tables linear s small h.4 start.fit known before in
          neat_then qs w.tables (Query.recursive m a.result w.term) n
          (recursion_adds given recursive qs x b a n start w (λ z. term_fits given recursive x b scope (suc d) n n tables a.tables z h.4 start.fit known) l m i)
          small (omega (arith, h.0), g.1) g.0)
          (neat_loop qs n m turn a small (λ l' j le. loop_adds given qs n turn turns a start l' j) turns
          (λ w c e'. neat_written b (entry x n ∷ scope) (suc d) n (stands x w.result tables) w.tables (small_bound scope x n s small) h.4 c.fit
          (bound scope tables w.tables x w.result n (later scope tables qs w n k c) c.good) e')
          before l m (omega arith))

      neat_term : (x : Name) (r : Rel) (scope : Arities) (d m n : ℕ) (tables : Tables) (qs : List Query) → is_linear x r ≡ true → Small scope → m ≤ max_fields → HasArity r (entry x m ∷ scope) d n → TablesFit given qs → Known given scope tables qs → Neat qs
          → NeatTerm (written_term recursive x r tables qs)
      neat_term x (Rel.named y) scope d m n tables qs i s l h f k e = (e, tt)
      neat_term x (Rel.select r ss) scope d m n tables qs i s l h f k e =
          let g = neat_term x r scope d m h.0 tables qs i s l h.1 f k e in
          (g.0, (short_scalars h.0 ss (small_arity r (entry x m ∷ scope) d h.0 (small_bound scope x m s l) h.1) h.2, g.1))
      neat_term x (Rel.filter r c) scope d m n tables qs i s l h f k e =
          let g = neat_term x r scope d m n tables qs i s l h.0 f k e in
          (g.0, (g.1, short_cond n c (small_arity r (entry x m ∷ scope) d n (small_bound scope x m s l) h.0) h.1))
      neat_term x (Rel.concat p q) scope d m n tables qs i s l h f k e = absurd (true≢false (sym i))
      neat_term x (Rel.join p q ps) scope d m n tables qs i s l h f k e =
          let inside = small_bound scope x m s l in
          let pairs = few_pairs h.0 h.1 ps (small_arity p (entry x m ∷ scope) d h.0 inside h.2) (small_arity q (entry x m ∷ scope) d h.1 inside h.3) h.4 in
          either_term (is_linear x p) _ _
          (λ j.
          let a = written_term recursive x p tables qs in
          let fa = term_fits given recursive x p scope d m h.0 tables qs j h.2 f k in
          let g = neat_term x p scope d m h.0 tables qs j s l h.2 f k e in
          (neat_written q scope d h.1 tables a.tables s (arity_outside given recursive x q scope m d h.1 (left_linear x p q i j) h.3) fa.fit (λ y u z. fa.kept (tables y) u (k y u z)) g.0, (g.1, pairs)))
          (λ j.
          let a = written recursive p tables qs in
          let side = right_linear x p q i j in
          let outside = arity_outside given recursive x p scope m d h.0 side.0 h.2 in
          let fa = written_fits given recursive p scope d h.0 tables qs outside f k in
          let g = neat_term x q scope d m h.1 tables a.tables side.1 s l h.3 fa.fit (later scope tables qs a h.0 k fa) (neat_written p scope d h.0 tables qs s outside f k e) in
          (g.0, (g.1, pairs)))
      neat_term x (Rel.group r ks as') scope d m n tables qs i s l h f k e = absurd (true≢false (sym i))
      neat_term x (Rel.distinct r) scope d m n tables qs i s l h f k e = absurd (true≢false (sym i))
      neat_term x (Rel.except p q) scope d m n tables qs i s l h f k e = absurd (true≢false (sym i))
      neat_term x (Rel.intersect p q) scope d m n tables qs i s l h f k e = absurd (true≢false (sym i))
      neat_term x (Rel.loop j u y r b) scope d m n tables qs i s l h f k e = absurd (true≢false (sym i))

    neat_outputs : (os : List Output) (scope before : Arities) (ns : List ℕ) (names : Tables) (qs : List Query) → Small scope → OutputsFit scope before os ns → TablesFit given qs → Known given scope names qs → Neat qs
        → Neat (written_outputs recursive os names qs).tables
    unfolding written_outputs
    neat_outputs [] scope before [] names qs s h f k e = e
    neat_outputs [] scope before (n ∷ ns) names qs s h f k e = absurd h
    neat_outputs (o ∷ os) scope before [] names qs s h f k e = absurd h
    neat_outputs (o ∷ os) scope before (n ∷ ns) names qs s h f k e =
        let w = written recursive o.value names qs in
        let a = written_fits given recursive o.value scope 0 n names qs h.0 f k in
        neat_outputs os scope (entry o.name n ∷ before) ns names w.tables s h.2 a.fit (later scope names qs w n k a) (neat_written o.value scope 0 n names qs s h.0 f k e)

    neat_rest : (as' : List Let) (os : List Output) (scope : Arities) (ns : List ℕ) (c : Scope) → Small scope → RestFits scope as' os ns → TablesFit given c.tables → Known given scope c.names c.tables → Neat c.tables
        → Neat (written_outputs recursive os (after_lets recursive as' c).names (after_lets recursive as' c).tables).tables
    unfolding after_lets
    neat_rest [] os scope ns c s h f k e = neat_outputs os scope [] ns c.names c.tables s h f k e
    neat_rest (a ∷ as') os scope ns c s h f k e =
        let w = written recursive a.value c.names c.tables in
        let fits = written_fits given recursive a.value scope 0 h.0 c.names c.tables h.1 f k in
        neat_rest as' os (entry a.name h.0 ∷ scope) ns (record { names = stands a.name w.result c.names; tables = w.tables })
        (small_bound scope a.name h.0 s (small_arity a.value scope 0 h.0 s h.1)) h.3 fits.fit
        (bound scope c.names w.tables a.name w.result h.0 (later scope c.names c.tables w h.0 k fits) fits.good) (neat_written a.value scope 0 h.0 c.names c.tables s h.1 f k e)

-- ---- inputs

abbrev pub arities_of : List Input → List ℕ
arities_of as' = map (λ (a : Input). a.arity) as'

small_inputs : (as' : List Input) (scope : Arities) → Small scope → InputsFit scope as' → Small (after_inputs scope as')
small_inputs [] scope s f = s
small_inputs (a ∷ as') scope s f = small_inputs as' (entry a.name a.arity ∷ scope) (small_bound scope a.name a.arity s f.1.1) f.2

kept_arity : (as' : List Input) (scope : Arities) (y : Name) (n : ℕ) → InputsFit scope as' → lookup scope y ≡ Some n → lookup (after_inputs scope as') y ≡ Some n
kept_arity [] scope y n f h = h
kept_arity (a ∷ as') scope y n f h = kept_arity as' (entry a.name a.arity ∷ scope) y n f.2 (by (same_name a.name y) refl)
  where
    by : (b : Bool) → same_name a.name y ≡ b → cond b (Some a.arity) (lookup scope y) ≡ Some n
    by true e = absurd (let q : None ≡ Some n = sym f.0 ∙ subst (λ z. lookup scope z ≡ Some n) (sym ((Decides-same_name a.name y).0 e)) h in cc)
    by false e = h

module _ (given : List ℕ) where
  inputs_known : (as' : List Input) (scope : Arities) (i : ℕ) → InputsFit scope as' → length given ≡ i + length as' → ((j : ℕ) → slice_index_or given (i + j) 0 ≡ slice_index_or (arities_of as') j 0) →
      (y : Name) (n : ℕ) → lookup (after_inputs scope as') y ≡ Some n → (lookup scope y ≡ Some n) ⊎ Good given [] (input_tables as' i y) n
  inputs_known [] scope i f l g y n h = inl h
  inputs_known (a ∷ as') scope i f l g y n h =
      go (same_name a.name y) refl (inputs_known as' (entry a.name a.arity ∷ scope) (suc i) f.2 (omega arith) (λ j. ap (λ k. slice_index_or given k 0) (let e : suc i + j ≡ i + suc j = omega arith in e) ∙ g (suc j)) y n h)
    where
      go : (b : Bool) → same_name a.name y ≡ b → (cond b (Some a.arity) (lookup scope y) ≡ Some n) ⊎ Good given [] (input_tables as' (suc i) y) n → (lookup scope y ≡ Some n) ⊎ Good given [] (cond b (Table.given i) (input_tables as' (suc i) y)) n
      go false e (inl k) = inl k
      go false e (inr k) = inr k
      go true e k = inr (record { readable = (let z : i < length given = omega (arith, l) in z); wide = ap (λ k. slice_index_or given k 0) (let z : i ≡ i + 0 = omega arith in z) ∙ g 0 ∙ arity })
        where
          here : lookup (entry a.name a.arity ∷ scope) y ≡ Some a.arity
          here = ap (λ b. cond b (Some a.arity) (lookup scope y)) e

          arity : a.arity ≡ n
          arity = some_same a.arity n (sym (kept_arity as' (entry a.name a.arity ∷ scope) y a.arity f.2 here) ∙ h)

pub length-arities : (as' : List Input) → length (arities_of as') ≡ length as'
length-arities [] = refl
length-arities (a ∷ as') = ap suc (length-arities as')

pub neat_script : (recursive : Bool) (p : Program) (ns : List ℕ) → WellTyped p ns → Neat (arities_of p.inputs) (script_of recursive p).tables
unfolding script_of
neat_script recursive p ns t =
    neat_rest (arities_of p.inputs) recursive p.lets p.outputs (after_inputs [] p.inputs) ns (record { names = input_tables p.inputs 0; tables = [] })
    (small_inputs p.inputs [] (λ y n h. absurd (no_name n h)) t.inputs) t.rest tt known tt
  where
    no_name : (n : ℕ) → None ≡ Some n → ⊥
    no_name n e = cc

    known : Known (arities_of p.inputs) (after_inputs [] p.inputs) (input_tables p.inputs 0) []
    known y n h = by (inputs_known (arities_of p.inputs) p.inputs [] 0 t.inputs (omega (arith, length-arities p.inputs)) (λ j. ap (λ k. slice_index_or (arities_of p.inputs) k 0) (let e : 0 + j ≡ j = omega arith in e)) y n h)
      where
        by : (None ≡ Some n) ⊎ Good (arities_of p.inputs) [] (input_tables p.inputs 0 y) n → Good (arities_of p.inputs) [] (input_tables p.inputs 0 y) n
        by (inl e) = absurd (no_name n e)
        by (inr g) = g
