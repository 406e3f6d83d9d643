-- One let more.
use Rattle.std.proofs.Common.{◌≡◌, ℕ, zero, suc, ◌+◌, ◌<◌, ◌≤◌, Bool, List, [], ◌∷◌, drop, get_or, length, refl, sym, ap, ap₂, ◌∙◌, arith}
use Rattle.std.proofs.Math.Seq.{drop-cons}
use Rattle.expr_tree.specs.Plain.{plain_rel}
use Rattle.expr_tree.specs.PlainLists.{plain_lets}
use Rattle.expr_tree.specs.Views.{rel_tree}
use Rattle.expr_tree.specs.declared.program.Let as declared_let
use Rattle.sql_meaning.specs.Script.{Written, Query}
use Rattle.sql_meaning.specs.Translation.{Tables, Scope, after_lets, stands, written}
use Rattle.sql.specs.Shown.{IsWritten, Known, made_of, names_of, shown_table, with_entry}
use Rattle.sql.specs.declared.table.Query as declared_query
use Rattle.sql.specs.declared.table.Table as declared_table
use Rattle.sql.proofs.Names.{names_bound}

none_left : {A : Type 0} (ls : List A) (i : ℕ) → length ls ≤ i → drop i ls ≡ []
none_left [] zero h = refl
none_left [] (suc i) h = refl
none_left (l ∷ ls) zero h = absurd (omega arith)
none_left (l ∷ ls) (suc i) h = none_left ls i (omega arith)

module _ {A : Type 0} (recursive : Bool) where
  pub no_let : (ls : List (declared_let.Let A)) (i : ℕ) (s : Scope) → length ls ≤ i → after_lets recursive (plain_lets (drop i ls)) s ≡ s
  unfolding after_lets
  no_let ls i s h = ap (λ l. after_lets recursive (plain_lets l) s) (none_left ls i h)

  pub one_let : (ls : List (declared_let.Let A)) (i : ℕ) (l : declared_let.Let A) (k k1 new : Known) (qs : List Query) (m : List (declared_query.Query A)) (t : declared_table.Table) → i < length ls → l ≡ get_or ls i l →
      IsWritten (written recursive (plain_rel (rel_tree l.relation.value)) (names_of k) qs) m t → k1 ≡ k → new ≡ with_entry k1 (record { name = l.name; table = t }) →
      after_lets recursive (plain_lets (drop i ls)) (record { names = names_of k; tables = qs }) ≡ after_lets recursive (plain_lets (drop (i + 1) ls)) (record { names = names_of new; tables = made_of m })
  unfolding after_lets
  one_let ls i l k k1 new qs m t h e w s n =
      let j : suc i ≡ i + 1 = omega arith in
      let next : Written → Scope = λ v. record { names = stands l.name v.result (names_of k); tables = v.tables } in
      let named : names_of new ≡ stands l.name (shown_table t) (names_of k) = ap names_of n ∙ names_bound k1 (record { name = l.name; table = t }) ∙ ap (λ (x : Known). stands l.name (shown_table t) (names_of x)) s in
      ap (λ x. after_lets recursive (plain_lets x) (record { names = names_of k; tables = qs })) (drop-cons ls i l h ∙ ap (λ y. y ∷ drop (suc i) ls) (sym e))
      ∙ ap (λ (v : Written). after_lets recursive (plain_lets (drop (suc i) ls)) (next v)) w
      ∙ ap₂ (λ d (names : Tables). after_lets recursive (plain_lets (drop d ls)) (record { names = names; tables = made_of m })) j (sym named)
