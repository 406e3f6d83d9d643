-- One step of a relation's tables more.
use Rattle.std.proofs.Common.{◌≡◌, ℕ, suc, ◌+◌, Bool, true, false, List, Result, IfOk, refl, sym, ap, subst, ◌∙◌, arith}
use Rattle.expr_tree.specs.Plain.{plain_connective, plain_set_operation}
use Rattle.expr_tree.specs.declared.relation.SetOperator.{SetOperator}
use Rattle.expr_tree.specs.declared.relation.SetOperator.TheVariants as operation
use Rattle.expr_tree.specs.declared.condition.Connective.{Connective}
use Rattle.expr_tree.specs.declared.condition.Connective.TheVariants as connective
use Rattle.semantics.specs.Meaning.{repeated}
use Rattle.semantics.specs.Query.{Cond, Name, Pair, Loop, Rel}
use Rattle.sql_meaning.specs.Script.{Table, Term, Written, Query}
use Rattle.sql_meaning.specs.Translation.{Tables, Finding, finding_first, finding_next, is_linear, is_recursion, search, then_query, WrittenTerm, written, written_loop, written_term}
use Rattle.sql.specs.Shown.{IsWritten, IsWrittenTerm, made_of, shown_operation, shown_table, shown_term, turn_of}
use Rattle.sql.specs.Signs.{connective_text}
use Rattle.sql.specs.Text.{bracketed, search_text}
use Rattle.sql.specs.declared.form.Form.{Form}
use Rattle.sql.specs.declared.table.Query as declared_query
use Rattle.sql.specs.declared.table.Table as declared_table
use Rattle.sql.specs.declared.table.Term as declared_term

pub set_written : (recursive : Bool) (o : SetOperator) (p q : Rel) (names : Tables) (earlier : List Query) →
    written recursive (plain_set_operation o p q) names earlier ≡ then_query (written recursive q names (written recursive p names earlier).tables).tables
    (shown_operation o (written recursive p names earlier).result (written recursive q names (written recursive p names earlier).tables).result)
unfolding written
set_written recursive operation.Concat p q names earlier = refl
set_written recursive operation.Except p q names earlier = refl
set_written recursive operation.Intersect p q names earlier = refl

pub logical_text : (a : Form) (o : Connective) (p q : Cond) →
    search_text a (search (plain_connective o p q)) ≡ bracketed (connective_text o) (search_text a (search p)) (search_text a (search q))
logical_text a connective.And p q = refl
logical_text a connective.Or p q = refl

module _ {A E : Type 0} (r : Result declared_table.Table E) (new : List (declared_query.Query A)) where
  pub one_written : (w : Written) (m : List (declared_query.Query A)) (t : declared_table.Table) (q : Table → Query) → IsWritten w m t →
      IfOk r (IsWritten (then_query (made_of m) (q (shown_table t))) new) → IfOk r (IsWritten (then_query w.tables (q w.result)) new)
  one_written w m t q e h = let P : Written → Type 0 = λ v. IfOk r (IsWritten (then_query v.tables (q v.result)) new) in subst P (sym e) h

  pub two_written : (w : Written) (f : List Query → Written) (m n : List (declared_query.Query A)) (t u : declared_table.Table) (q : Table → Table → Query) → IsWritten w m t → IsWritten (f (made_of m)) n u →
      IfOk r (IsWritten (then_query (made_of n) (q (shown_table t) (shown_table u))) new) → IfOk r (IsWritten (then_query (f w.tables).tables (q w.result (f w.tables).result)) new)
  two_written w f m n t u q e k h =
      let P : Written → Type 0 = λ v. IfOk r (IsWritten (then_query (f v.tables).tables (q v.result (f v.tables).result)) new) in
      subst P (sym e) (one_written (f (made_of m)) n u (q (shown_table t)) k h)

  pub loop_written : (l : Loop) (n : ℕ) (turn : Table → List Query → Written) (w : Written) (m : List (declared_query.Query A)) (t : declared_table.Table) → IsWritten w m t →
      IfOk r (IsWritten (written_loop l n turn (record { tables = made_of m; result = shown_table t })) new) → IfOk r (IsWritten (written_loop l n turn w) new)
  loop_written l n turn w m t e h = let P : Written → Type 0 = λ v. IfOk r (IsWritten (written_loop l n turn v) new) in subst P (sym e) h

-- what a closure has after so many turns
abbrev pub after : (Table → List Query → Written) → Written → ℕ → Finding
after turn start i = repeated (λ (f : Finding). finding_next f (turn f.latest f.tables)) i (finding_first start)

abbrev pub IsFound : {A : Type 0} → Finding → List (declared_query.Query A) → (all latest : declared_table.Table) → Type 0
IsFound f m all latest = f ≡ record { tables = made_of m; all = shown_table all; latest = shown_table latest }

module _ {A : Type 0} (turn : Table → List Query → Written) (start : Written) where
  -- one turn of an iterate more
  pub turn_more : (i : ℕ) (m new : List (declared_query.Query A)) (t gives : declared_table.Table) → IsWritten (written_loop Loop.iterate i turn start) m t → IsWritten (turn (shown_table t) (made_of m)) new gives →
      IsWritten (written_loop Loop.iterate (i + 1) turn start) new gives
  turn_more i m new t gives e h =
      let k : i + 1 ≡ suc i = omega arith in
      ap (λ j. written_loop Loop.iterate j turn start) k ∙ ap (λ (w : Written). turn w.result w.tables) e ∙ h

  pub found_at_first : (new : List (declared_query.Query A)) (t : declared_table.Table) → IsWritten (then_query start.tables (Query.select_distinct start.result)) new t → IsFound (after turn start 0) new t t
  found_at_first new t e = let f : Written → Finding = λ d. record { tables = d.tables; all = d.result; latest = d.result } in ap f e

  pub found_more : (i : ℕ) (m0 m1 m2 m3 : List (declared_query.Query A)) (all latest gives new every : declared_table.Table) → IsFound (after turn start i) m0 all latest →
      IsWritten (turn (shown_table latest) (made_of m0)) m1 gives → IsWritten (then_query (made_of m1) (Query.except (shown_table gives) (shown_table all))) m2 new →
      IsWritten (then_query (made_of m2) (Query.union_all (shown_table all) (shown_table new))) m3 every → IsFound (after turn start (i + 1)) m3 every new
  found_more i m0 m1 m2 m3 all latest gives new every e h1 h2 h3 =
      let k : i + 1 ≡ suc i = omega arith in
      let f : Finding = record { tables = made_of m0; all = shown_table all; latest = shown_table latest } in
      let g : Written → Finding = λ w. record { tables = (then_query w.tables (Query.union_all (shown_table all) w.result)).tables; all = (then_query w.tables (Query.union_all (shown_table all) w.result)).result; latest = w.result } in
      let j : Written → Finding = λ w. record { tables = w.tables; all = w.result; latest = shown_table new } in
      ap (after turn start) k ∙ ap (λ (x : Finding). finding_next x (turn x.latest x.tables)) e ∙ ap (finding_next f) h1 ∙ ap g h2 ∙ ap j h3

-- ---- loops

module _ {A E : Type 0} (r : Result declared_table.Table E) (new : List (declared_query.Query A)) (recursive : Bool) (l : Loop) (n : ℕ) (x : Name) (p b : Rel) (names : Tables) (earlier : List Query) where
  -- one that is written turn by turn
  pub loop_turns : is_recursion recursive l n x b ≡ false → IfOk r (IsWritten (written_loop l n (turn_of recursive x b names) (written recursive p names earlier)) new) → IfOk r (IsWritten (written recursive (Rel.loop l n x p b) names earlier) new)
  unfolding written
  loop_turns e h = rw e h

  -- one that is a recursive table
  pub loop_recursive : is_recursion recursive l n x b ≡ true → (m k : List (declared_query.Query A)) (t : declared_table.Table) (u : declared_term.Term A) → IsWritten (written recursive p names earlier) m t →
      IsWrittenTerm (written_term recursive x b names (made_of m)) k u → IfOk r (IsWritten (then_query (made_of k) (Query.recursive n (shown_table t) (shown_term u))) new) → IfOk r (IsWritten (written recursive (Rel.loop l n x p b) names earlier) new)
  unfolding written
  loop_recursive e m k t u w v h =
      let P : Written → Type 0 = λ a. IfOk r (IsWritten (then_query (written_term recursive x b names a.tables).tables (Query.recursive n a.result (written_term recursive x b names a.tables).term)) new) in
      let Q : WrittenTerm → Type 0 = λ a. IfOk r (IsWritten (then_query a.tables (Query.recursive n (shown_table t) a.term)) new) in
      rw e (subst P (sym w) (subst Q (sym v) h))

-- ---- recursive terms

module _ {A : Type 0} where
  -- a term that is written, and its copy in a box
  pub step_term : (q : Term → Term) (w : WrittenTerm) (m : List (declared_query.Query A)) (u v : declared_term.Term A) → IsWrittenTerm w m u → v ≡ u → (let s : WrittenTerm = record { tables = w.tables; term = q w.term } in s) ≡ record { tables = made_of m; term = q (shown_term v) }
  step_term q w m u v h e =
      let f : WrittenTerm → WrittenTerm = λ a. record { tables = a.tables; term = q a.term } in
      let g : declared_term.Term A → WrittenTerm = λ z. record { tables = made_of m; term = q (shown_term z) } in
      ap f h ∙ ap g (sym e)

  module _ (recursive : Bool) (x : Name) (p q : Rel) (ps : List Pair) (names : Tables) (earlier : List Query) (m n : List (declared_query.Query A)) (u v : declared_term.Term A) (t : declared_table.Table) where
    -- a join whose left side is linear
    pub left_term : is_linear x p ≡ true → IsWrittenTerm (written_term recursive x p names earlier) m u → v ≡ u → IsWritten (written recursive q names (made_of m)) n t →
        written_term recursive x (Rel.join p q ps) names earlier ≡ record { tables = made_of n; term = Term.join_left (shown_term v) (shown_table t) ps }
    unfolding written
    left_term l h e k =
        let f : WrittenTerm → WrittenTerm = λ a. record { tables = (written recursive q names a.tables).tables; term = Term.join_left a.term (written recursive q names a.tables).result ps } in
        let g : Written → WrittenTerm = λ b. record { tables = b.tables; term = Term.join_left (shown_term u) b.result ps } in
        let i : declared_term.Term A → WrittenTerm = λ z. record { tables = made_of n; term = Term.join_left (shown_term z) (shown_table t) ps } in
        rw l (ap f h ∙ ap g k ∙ ap i (sym e))

    -- a join whose right side is
    pub right_term : is_linear x p ≡ false → IsWritten (written recursive p names earlier) m t → IsWrittenTerm (written_term recursive x q names (made_of m)) n u → v ≡ u →
        written_term recursive x (Rel.join p q ps) names earlier ≡ record { tables = made_of n; term = Term.join_right (shown_table t) (shown_term v) ps }
    unfolding written
    right_term l h k e =
        let f : Written → WrittenTerm = λ a. record { tables = (written_term recursive x q names a.tables).tables; term = Term.join_right a.result (written_term recursive x q names a.tables).term ps } in
        let g : WrittenTerm → WrittenTerm = λ b. record { tables = b.tables; term = Term.join_right (shown_table t) b.term ps } in
        let i : declared_term.Term A → WrittenTerm = λ z. record { tables = made_of n; term = Term.join_right (shown_table t) (shown_term z) ps } in
        rw l (ap f h ∙ ap g k ∙ ap i (sym e))
