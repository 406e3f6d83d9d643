-- One table's columns more.
use Rattle.std.proofs.Common.{◌≡◌, ℕ, zero, suc, ◌+◌, ◌<◌, ◌≤◌, nat_eq, cond, List, [], ◌∷◌, ◌++◌, take, get_or, length, slice_index_or, refl, sym, subst, ap, ap₂, ◌∙◌, arith, ne_eqb}
use Rattle.std.proofs.Math.Seq.{take-length}
use Rattle.std.proofs.lemmas.Bool.Decides.{nat_tests}
use mathlib.Core.Path.{fun_ext}
use Rattle.semantics.specs.Query.{Input}
use Rattle.sql_meaning.specs.Script.{Table, Query}
use Rattle.sql_meaning.specs.WellFormed.{Widths, query_width}
use Rattle.sql.specs.Shown.{made_of, shown_query}
use Rattle.sql.specs.Text.{widths_of}
use Rattle.sql.specs.Widths.{AreWidths, width_in}
use Rattle.sql.specs.declared.table.Query as declared_query
use Rattle.sql.proofs.Made.{made_more}

both_more : (m n : ℕ) → nat_eq m n ≡ nat_eq (suc m) (suc n)
both_more m n = grind (arith, nat_tests)

at_end : (ws : List ℕ) (w m : ℕ) → slice_index_or (ws ++ (w ∷ [])) m 0 ≡ cond (nat_eq m (length ws)) w (slice_index_or ws m 0)
at_end [] w zero = refl
at_end [] w (suc m) = sym (ap (λ b. cond b w 0) (ne_eqb (suc m) 0 (λ e. omega arith)))
at_end (x ∷ ws) w zero = sym (ap (λ b. cond b w x) (ne_eqb 0 (suc (length ws)) (λ e. omega arith)))
at_end (x ∷ ws) w (suc m) = at_end ws w m ∙ ap (λ b. cond b w (slice_index_or ws m 0)) (both_more m (length ws))

no_widths : (inputs : List Input) (ws : List ℕ) → ws ≡ [] → AreWidths inputs ws []
no_widths inputs ws e = (ap length e, ap (width_in inputs) e ∙ fun_ext at)
  where
    at : (t : Table) → width_in inputs [] t ≡ widths_of inputs [] t
    at (Table.given i) = refl
    at (Table.made n) = refl

one_width : (inputs : List Input) (ws new : List ℕ) (w : ℕ) (q : Query) (qs : List Query) → AreWidths inputs ws qs → w ≡ query_width q (width_in inputs ws) → new ≡ ws ++ (w ∷ []) → AreWidths inputs new (q ∷ qs)
one_width inputs ws new w q qs a e n = (ap length n ∙ longer ws ∙ ap suc a.0, ap (width_in inputs) n ∙ fun_ext at)
  where
    longer : (xs : List ℕ) → length (xs ++ (w ∷ [])) ≡ suc (length xs)
    longer [] = refl
    longer (x ∷ xs) = ap suc (longer xs)

    width : w ≡ query_width q (widths_of inputs qs)
    width = e ∙ ap (query_width q) a.1

    at : (t : Table) → width_in inputs (ws ++ (w ∷ [])) t ≡ widths_of inputs (q ∷ qs) t
    at (Table.given i) = ap (λ (f : Widths). f (Table.given i)) a.1
    at (Table.made m) =
        at_end ws w m ∙ ap (λ k. cond (nat_eq m k) w (slice_index_or ws m 0)) a.0
        ∙ ap₂ (λ x y. cond (nat_eq m (length qs)) x y) width (ap (λ (f : Widths). f (Table.made m)) a.1)

module _ {A : Type 0} (inputs : List Input) (qs : List (declared_query.Query A)) where
  -- the columns of the first i tables are counted
  abbrev pub AreCounted : ℕ → List ℕ → Type 0
  AreCounted i ws = AreWidths inputs ws (made_of (take i qs))

  pub none_counted : (ws : List ℕ) → ws ≡ [] → AreCounted 0 ws
  none_counted ws e = no_widths inputs ws e

  pub one_counted : (i : ℕ) (ws new : List ℕ) (q : declared_query.Query A) (w : ℕ) → i < length qs → q ≡ get_or qs i q → AreCounted i ws → w ≡ query_width (shown_query q) (width_in inputs ws) →
      new ≡ ws ++ (w ∷ []) → AreCounted (i + 1) new
  one_counted i ws new q w h e d width n =
      let j : i + 1 ≡ suc i = omega arith in
      let more : made_of (take (i + 1) qs) ≡ shown_query q ∷ made_of (take i qs) = ap (λ k. made_of (take k qs)) j ∙ made_more qs i q h e in
      let P : List Query → Type 0 = λ z. AreWidths inputs new z in
      subst P (sym more) (one_width inputs ws new w (shown_query q) (made_of (take i qs)) d width n)

  pub all_counted : (i : ℕ) (ws : List ℕ) → length qs ≤ i → i ≤ length qs → AreCounted i ws → AreWidths inputs ws (made_of qs)
  all_counted i ws h k d =
      let j : i ≡ length qs = omega arith in
      let e : take i qs ≡ qs = ap (λ n. take n qs) j ∙ take-length qs in
      let P : List (declared_query.Query A) → Type 0 = λ z. AreWidths inputs ws (made_of z) in
      subst P e d
