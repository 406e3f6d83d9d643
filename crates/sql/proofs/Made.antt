-- One table more.
use Rattle.std.proofs.Common.{◌≡◌, ℕ, suc, ◌+◌, ◌<◌, List, [], ◌∷◌, ◌++◌, length, get_or, take, refl, sym, ap, ap₂, ◌∙◌, arith}
use Rattle.std.proofs.Math.Seq.{take-suc}
use Rattle.sql_meaning.specs.Script.{Table, Written, Query}
use Rattle.sql_meaning.specs.Translation.{then_query}
use Rattle.sql.specs.Shown.{IsWritten, made_of, made_onto, shown_query}
use Rattle.sql.specs.declared.table.Query as declared_query
use Rattle.sql.specs.declared.table.Table.TheVariants.{Made}

module _ {A : Type 0} where
  onto_append : (e : List Query) (qs : List (declared_query.Query A)) (q : declared_query.Query A) → made_onto e (qs ++ (q ∷ [])) ≡ shown_query q ∷ made_onto e qs
  onto_append e [] q = refl
  onto_append e (x ∷ qs) q = onto_append (shown_query x ∷ e) qs q

  onto_length : (e : List Query) (qs : List (declared_query.Query A)) → length (made_onto e qs) ≡ length e + length qs
  onto_length e [] = omega arith
  onto_length e (x ∷ qs) = omega (arith, onto_length (shown_query x ∷ e) qs)

  pub made_length : (qs : List (declared_query.Query A)) → length (made_of qs) ≡ length qs
  made_length qs = omega (arith, onto_length [] qs)

  pub one_made : (qs new : List (declared_query.Query A)) (q : declared_query.Query A) (n : ℕ) → new ≡ qs ++ (q ∷ []) → n ≡ length qs → IsWritten (then_query (made_of qs) (shown_query q)) new (Made n)
  one_made qs new q n e l =
      let w : List Query → ℕ → Written = λ ts m. record { tables = ts; result = Table.made m } in
      ap₂ w (sym (ap made_of e ∙ onto_append [] qs q)) (made_length qs ∙ sym l)

  pub made_more : (qs : List (declared_query.Query A)) (i : ℕ) (q : declared_query.Query A) → i < length qs → q ≡ get_or qs i q → made_of (take (suc i) qs) ≡ shown_query q ∷ made_of (take i qs)
  made_more qs i q h e = ap made_of (take-suc qs i q h ∙ ap (λ x. take i qs ++ (x ∷ [])) (sym e)) ∙ onto_append [] (take i qs) q
