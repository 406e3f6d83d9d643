-- One output more.
use Rattle.std.proofs.Common.{◌≡◌, ◌<◌, Bool, List, [], ◌∷◌, ◌++◌, map, length, refl, sym, ap, ◌∙◌, arith, append-nil}
use Rattle.expr_tree.specs.Plain.{plain_rel}
use Rattle.expr_tree.specs.PlainLists.{plain_outputs}
use Rattle.expr_tree.specs.Views.{rel_tree}
use Rattle.expr_tree.specs.declared.program.Output as declared_output
use Rattle.sql_meaning.specs.Script.{Table, Written, Query}
use Rattle.sql_meaning.specs.Translation.{Tables, written, written_outputs}
use Rattle.sql.specs.Shown.{IsWritten, made_of, shown_table}
use Rattle.sql.specs.declared.table.Query as declared_query
use Rattle.sql.specs.declared.table.Table as declared_table

module _ {A : Type 0} (recursive : Bool) where
  pub no_output : (os : List (declared_output.Output A)) (names : Tables) (qs : List Query) → length os < 1 → (written_outputs recursive (plain_outputs os) names qs).tables ≡ qs
  unfolding written_outputs
  no_output [] names qs h = refl
  no_output (o ∷ os) names qs h = absurd (omega arith)

  pub no_result : (os : List (declared_output.Output A)) (names : Tables) (qs : List Query) (ts : List Table) → length os < 1 → ts ≡ ts ++ (written_outputs recursive (plain_outputs os) names qs).results
  unfolding written_outputs
  no_result [] names qs ts h = sym (append-nil ts)
  no_result (o ∷ os) names qs ts h = absurd (omega arith)

  pub one_output : (os rest : List (declared_output.Output A)) (o : declared_output.Output A) (names : Tables) (qs : List Query) (m : List (declared_query.Query A)) (t : declared_table.Table) (after : List Query) → os ≡ o ∷ rest →
      IsWritten (written recursive (plain_rel (rel_tree o.relation.value)) names qs) m t → (written_outputs recursive (plain_outputs rest) names (made_of m)).tables ≡ after → (written_outputs recursive (plain_outputs os) names qs).tables ≡ after
  unfolding written_outputs
  one_output os rest o names qs m t after e w h =
      ap (λ l. (written_outputs recursive (plain_outputs l) names qs).tables) e ∙ ap (λ (v : Written). (written_outputs recursive (plain_outputs rest) names v.tables).tables) w ∙ h

  pub one_result : (os rest : List (declared_output.Output A)) (o : declared_output.Output A) (names : Tables) (qs : List Query) (m : List (declared_query.Query A)) (t : declared_table.Table) (before pushed : List declared_table.Table) (after : List Table) → os ≡ o ∷ rest →
      IsWritten (written recursive (plain_rel (rel_tree o.relation.value)) names qs) m t → pushed ≡ before ++ (t ∷ []) → after ≡ map shown_table pushed ++ (written_outputs recursive (plain_outputs rest) names (made_of m)).results →
      after ≡ map shown_table before ++ (written_outputs recursive (plain_outputs os) names qs).results
  unfolding written_outputs
  one_result os rest o names qs m t before pushed after e w p h =
      h ∙ ap (λ l. map shown_table l ++ (written_outputs recursive (plain_outputs rest) names (made_of m)).results) p ∙ mapped before
      ∙ sym (ap (λ l. map shown_table before ++ (written_outputs recursive (plain_outputs l) names qs).results) e ∙ ap (λ (v : Written). map shown_table before ++ (v.result ∷ (written_outputs recursive (plain_outputs rest) names v.tables).results)) w)
    where
      mapped : (b : List declared_table.Table) → map shown_table (b ++ (t ∷ [])) ++ (written_outputs recursive (plain_outputs rest) names (made_of m)).results ≡ map shown_table b ++ (shown_table t ∷ (written_outputs recursive (plain_outputs rest) names (made_of m)).results)
      mapped [] = refl
      mapped (x ∷ b) = ap (λ l. shown_table x ∷ l) (mapped b)
