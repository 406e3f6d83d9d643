-- The parts of a program make its script.
use Rattle.std.proofs.Common.{◌≡◌, ℕ, Bool, List, [], ◌++◌, map, ap, ap₂, sym, ◌∙◌, append_assoc}
use Rattle.expr_tree.specs.Plain.{plain_input, plain_program}
use Rattle.expr_tree.specs.PlainLists.{plain_lets, plain_outputs}
use Rattle.expr_tree.specs.Views.{program_tree}
use Rattle.expr_tree.specs.declared.program.Program as declared_program
use Rattle.sql_meaning.specs.Script.{Script, Table, Query}
use Rattle.sql_meaning.specs.Translation.{Tables, Scope, after_lets, input_tables, script_of, written_outputs}
use Rattle.sql_meaning.specs.WellFormed.{Widths}
use Rattle.sql.specs.Shown.{Known, made_of, names_of, shown_script, shown_table}
use Rattle.sql.specs.Dialects.{dialect_of}
use Rattle.sql.specs.Asked.{Asked, asked_tables, layout_of}
use Rattle.sql.specs.Text.{asked_script, body_text, closing_text, head_text, making_of, results_text, script_text, tables_text, titles_text, with_text}
use Rattle.sql.specs.Widths.{AreWidths, width_in}
use Rattle.sql.specs.declared.form.Layout.{Layout}
use Rattle.sql.specs.declared.table.Script as declared_script
use Rattle.sql.proofs.Texts.{six_texts}
use Rattle.sql.specs.declared.table.Query as declared_query
use Rattle.sql.specs.declared.table.Table as declared_table

pub whole_script : {A : Type 0} (recursive : Bool) (p : declared_program.Program A) (k l : Known) (m n : List (declared_query.Query A)) (rs : List declared_table.Table) →
    names_of k ≡ input_tables (map plain_input p.inputs.items) 0 →
    after_lets recursive (plain_lets p.lets.items) (record { names = names_of k; tables = [] }) ≡ record { names = names_of l; tables = made_of m } →
    (written_outputs recursive (plain_outputs p.outputs.items) (names_of l) (made_of m)).tables ≡ made_of n →
    map shown_table rs ≡ (written_outputs recursive (plain_outputs p.outputs.items) (names_of l) (made_of m)).results →
    (let s : Script = record { tables = made_of n; results = map shown_table rs } in s) ≡ script_of recursive (plain_program (program_tree p))
unfolding script_of
whole_script recursive p k l m n rs i e t r =
    let script : List Query → List Table → Script = λ ts us. record { tables = ts; results = us } in
    let outputs : Scope → Script = λ s. written_outputs recursive (plain_outputs p.outputs.items) s.names s.tables in
    let lets : Tables → Scope = λ names. after_lets recursive (plain_lets p.lets.items) (record { names = names; tables = [] }) in
    ap₂ script (sym t) r ∙ ap outputs (sym e) ∙ ap (λ names. outputs (lets names)) i

four_before : (a b c d e : List ℕ) → a ++ (b ++ (c ++ (d ++ e))) ≡ (a ++ (b ++ (c ++ d))) ++ e
four_before a b c d e = simp append_assoc

-- the texts of the parts make the text of the script
pub whole_text : {A : Type 0} (p : declared_program.Program A) (a : Asked) (s : declared_script.Script A) (ws wanted t1 t2 t3 t4 t5 t6 : List ℕ) → shown_script s ≡ asked_script a (plain_program (program_tree p)) →
    AreWidths (map plain_input p.inputs.items) ws (made_of s.made.items) → wanted ≡ asked_tables a.output (map shown_table s.results.items) (plain_outputs p.outputs.items) →
    t1 ≡ head_text a.form (layout_of a) a.epochs (map plain_input p.inputs.items) →
    t2 ≡ t1 ++ titles_text (layout_of a) a.output (map shown_table s.results.items) (plain_outputs p.outputs.items) →
    t3 ≡ t2 ++ with_text (making_of (layout_of a) wanted) →
    t4 ≡ t3 ++ tables_text a.form a.epochs (making_of (layout_of a) wanted) (map plain_input p.inputs.items) (width_in (map plain_input p.inputs.items) ws) wanted (made_of s.made.items) →
    t5 ≡ t4 ++ results_text (layout_of a) (dialect_of a.form) a.epochs (map plain_input p.inputs.items) (width_in (map plain_input p.inputs.items) ws) a.output (map shown_table s.results.items) (plain_outputs p.outputs.items) →
    t6 ≡ t5 ++ closing_text (layout_of a) (dialect_of a.form) → t6 ≡ script_text a (plain_program (program_tree p))
whole_text p a s ws wanted t1 t2 t3 t4 t5 t6 e w v h1 h2 h3 h4 h5 h6 =
    let inputs = map plain_input p.inputs.items in
    let outputs = plain_outputs p.outputs.items in
    let l : Layout = layout_of a in
    let head : List ℕ = head_text a.form l a.epochs inputs in
    let end : List ℕ = closing_text l (dialect_of a.form) in
    let titles : Script → List ℕ = λ z. titles_text l a.output z.results outputs in
    let tables : Script → List ℕ → Widths → List ℕ = λ z ns f. tables_text a.form a.epochs (making_of l ns) inputs f ns z.tables in
    let rows : Script → Widths → List ℕ = λ z f. results_text l (dialect_of a.form) a.epochs inputs f a.output z.results outputs in
    let body : Script → List ℕ → Widths → List ℕ = λ z ns f. titles z ++ (with_text (making_of l ns) ++ (tables z ns f ++ rows z f)) in
    six_texts [] t1 t2 t3 t4 t5 t6 head _ _ _ _ _ h1 h2 h3 h4 h5 h6
    ∙ ap (λ x. head ++ x) (four_before (titles (shown_script s)) (with_text (making_of l wanted)) (tables (shown_script s) wanted (width_in inputs ws)) (rows (shown_script s) (width_in inputs ws)) end)
    ∙ ap₂ (λ ns f. head ++ (body (shown_script s) ns f ++ end)) v w.1
    ∙ ap (λ (z : Script). head ++ (body_text a l (asked_tables a.output z.results outputs) (plain_program (program_tree p)) z ++ end)) e
