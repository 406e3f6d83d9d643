-- One table more, if it is wanted.
use Rattle.std.proofs.Common.{◌≡◌, ℕ, zero, suc, ◌<◌, ◌≤◌, true, false, cond, List, [], ◌∷◌, ◌++◌, take, get_or, length, refl, sym, ap, ◌∙◌, arith, append-nil, append_assoc, length-take}
use Rattle.std.proofs.Math.Seq.{take-length}
use Rattle.semantics.specs.Query.{Input}
use Rattle.sql_meaning.specs.Script.{Table, Query}
use Rattle.sql_meaning.specs.Wanted.{is_in, reads}
use Rattle.sql_meaning.specs.WellFormed.{Widths}
use Rattle.sql.specs.Shown.{made_of, shown_query}
use Rattle.sql.specs.Text.{create_text, tables_text}
use Rattle.sql.specs.declared.form.Epochs.{Epochs}
use Rattle.sql.specs.declared.form.Form.{Form}
use Rattle.sql.specs.declared.form.Making.{Making}
use Rattle.sql.specs.declared.table.Query as declared_query
use Rattle.sql.proofs.Made.{made_length, made_more}

module _ {A : Type 0} where
  some_at : (qs : List (declared_query.Query A)) (i : ℕ) → i < length qs → (q : declared_query.Query A) × (q ≡ get_or qs i q)
  some_at [] i h = absurd (omega arith)
  some_at (x ∷ qs) zero h = (x, refl)
  some_at (x ∷ qs) (suc i) h = some_at qs i (omega arith)

  taken : (qs : List (declared_query.Query A)) (i : ℕ) → i < length qs → length (made_of (take i qs)) ≡ i
  taken qs i h =
      let n : length (take i qs) ≡ i = grind (arith, length-take) in
      made_length (take i qs) ∙ n

  module _ (form : Form) (epochs : Epochs) (making : Making) (inputs : List Input) (width : Widths) (qs : List (declared_query.Query A)) where
    pub no_table : (text : List ℕ) (wanted : List ℕ) (count : ℕ) → count ≡ 0 → text ≡ text ++ tables_text form epochs making inputs width wanted (made_of (take count qs))
    no_table text wanted count e = sym (ap (λ k. text ++ tables_text form epochs making inputs width wanted (made_of (take k qs))) e ∙ append-nil text)

    one_step : (wanted : List ℕ) (i : ℕ) (q : declared_query.Query A) → i < length qs → q ≡ get_or qs i q →
        tables_text form epochs making inputs width wanted (made_of (take (suc i) qs))
        ≡ cond (is_in i wanted) (tables_text form epochs making inputs width (wanted ++ reads (shown_query q)) (made_of (take i qs)) ++ create_text form epochs making inputs width i (shown_query q)) (tables_text form epochs making inputs width wanted (made_of (take i qs)))
    one_step wanted i q h e =
        let done : List Query = made_of (take i qs) in
        ap (tables_text form epochs making inputs width wanted) (made_more qs i q h e)
        ∙ ap (λ n. cond (is_in n wanted) (tables_text form epochs making inputs width (wanted ++ reads (shown_query q)) done ++ create_text form epochs making inputs width n (shown_query q)) (tables_text form epochs making inputs width wanted done)) (taken qs i h)

    pub left_out : (text new : List ℕ) (wanted : List ℕ) (count i : ℕ) → count ≡ suc i → count ≤ length qs → is_in i wanted ≡ false →
        new ≡ text ++ tables_text form epochs making inputs width wanted (made_of (take i qs)) → new ≡ text ++ tables_text form epochs making inputs width wanted (made_of (take count qs))
    left_out text new wanted count i c h w n =
        let s = some_at qs i (omega (arith, c, h)) in
        n ∙ ap (λ x. text ++ x)
        (sym (ap (λ b. cond b (tables_text form epochs making inputs width (wanted ++ reads (shown_query s.0)) (made_of (take i qs)) ++ create_text form epochs making inputs width i (shown_query s.0)) (tables_text form epochs making inputs width wanted (made_of (take i qs)))) w)
        ∙ sym (one_step wanted i s.0 (omega (arith, c, h)) s.1) ∙ ap (λ k. tables_text form epochs making inputs width wanted (made_of (take k qs))) (sym c))

    pub put_in : (t0 t1 t2 : List ℕ) (wanted more : List ℕ) (count i : ℕ) (q : declared_query.Query A) → count ≡ suc i → count ≤ length qs → is_in i wanted ≡ true → q ≡ get_or qs i q → more ≡ wanted ++ reads (shown_query q) →
        t1 ≡ t0 ++ tables_text form epochs making inputs width more (made_of (take i qs)) → t2 ≡ t1 ++ create_text form epochs making inputs width i (shown_query q) →
        t2 ≡ t0 ++ tables_text form epochs making inputs width wanted (made_of (take count qs))
    put_in t0 t1 t2 wanted more count i q c h w e m n o =
        let before : List ℕ = tables_text form epochs making inputs width (wanted ++ reads (shown_query q)) (made_of (take i qs)) in
        let this : List ℕ = create_text form epochs making inputs width i (shown_query q) in
        o ∙ ap (λ x. x ++ this) (n ∙ ap (λ x. t0 ++ tables_text form epochs making inputs width x (made_of (take i qs))) m) ∙ append_assoc t0 before this
        ∙ ap (λ x. t0 ++ x)
        (sym (ap (λ b. cond b (before ++ this) (tables_text form epochs making inputs width wanted (made_of (take i qs)))) w)
        ∙ sym (one_step wanted i q (omega (arith, c, h)) e) ∙ ap (λ k. tables_text form epochs making inputs width wanted (made_of (take k qs))) (sym c))

    pub all_tables : (t1 t2 : List ℕ) (wanted : List ℕ) (n : ℕ) → n ≡ length qs → t2 ≡ t1 ++ tables_text form epochs making inputs width wanted (made_of (take n qs)) → t2 ≡ t1 ++ tables_text form epochs making inputs width wanted (made_of qs)
    all_tables t1 t2 wanted n e h = h ∙ ap (λ z. t1 ++ tables_text form epochs making inputs width wanted (made_of z)) (ap (λ k. take k qs) e ∙ take-length qs)
