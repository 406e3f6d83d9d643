-- A text is that of one script, or of one statement.
use Rattle.std.proofs.Common.{◌≡◌, ℕ, ◌<◌, ◌^◌, List, [], ◌∷◌, ◌++◌, map, length, refl, sym, ap, ap₂, subst, ◌∙◌, append_assoc, codes}
use Rattle.std.specs.List.{AllByRecursion}
use Rattle.record_core.specs.Names.{IsName}
use Rattle.semantics.specs.Query.{Input, Program}
use Rattle.sql_meaning.specs.WellFormed.{Widths}
use Rattle.sql.specs.Asked.{Asked, layout_of, asked_tables}
use Rattle.sql.specs.Dialects.{dialect_of, arithmetic_of, database_name, promise_text}
use Rattle.sql.specs.Epochs.{reads_text, places}
use Rattle.sql_reading.specs.Readable.{IsThere, IsShortQuery, IsReadable}
use Rattle.sql_reading.specs.Said.{Made, Result, Said, asked_results, said}
use Rattle.sql.specs.Text.{asked_script, inputs_text, tables_text, titles_text, with_text, making_of, opening_text, closing_text, results_text, widths_of, script_text}
use Rattle.sql.specs.declared.form.Arithmetic.{Arithmetic}
use Rattle.sql.specs.declared.form.Epochs.{Epochs}
use Rattle.sql.specs.declared.form.Form.{Form}
use Rattle.sql.specs.declared.form.Layout.{Layout}
use Rattle.sql.specs.declared.form.Layout.TheVariants.{Script, Statement}
use Rattle.sql.specs.declared.form.Making.{Making}
use Rattle.sql_reading.proofs.PrefixWords.{Text, cancel}
use Rattle.sql_reading.proofs.ScriptsReadBack.{short_query, form_with, form_told, opening, read_opening, said_made, entries, made_are, tables_are, results_are, names_are}
use Rattle.sql_reading.proofs.LayoutsReadBack.{titles_of, opened, body_of, read_body}

module _ (a : Asked) (p : Program) where
  abbrev widths' : Widths
  widths' = widths_of p.inputs (asked_script a p).tables

  abbrev pub of_script : List Made
  of_script = entries widths' (asked_tables a.output (asked_script a p).results p.outputs) (asked_script a p).tables

  abbrev pub rows_of : List Result
  rows_of = asked_results widths' a.output (asked_script a p).results p.outputs

  abbrev pub wanted_of : List ℕ
  wanted_of = asked_tables a.output (asked_script a p).results p.outputs

  abbrev pub making : Making
  making = making_of (layout_of a) wanted_of

  abbrev pub body : Text
  body = body_of a.form a.epochs p.inputs (layout_of a) making widths' of_script rows_of

  text_assoc : (k n o i m b h w t r e : Text) → (k ++ (n ++ (o ++ (i ++ (m ++ b))))) ++ ((h ++ (w ++ (t ++ r))) ++ e) ≡ k ++ (n ++ (o ++ (i ++ (m ++ (b ++ (h ++ (w ++ (t ++ (r ++ e)))))))))
  text_assoc k n o i m b h w t r e = simp append_assoc

  titles_are : (l : Layout) → titles_text l a.output (asked_script a p).results p.outputs ≡ titles_of l rows_of
  titles_are Script = refl
  titles_are Statement = names_are widths' a.output (asked_script a p).results p.outputs

  pub text_is : script_text a p ≡ codes "-- A query as SQL, for " ++ opening (dialect_of a.form) a.epochs p.inputs (arithmetic_of a.form) body
  text_is =
      let l : Layout = layout_of a in
      let H : Text = titles_text l a.output (asked_script a p).results p.outputs in
      let W : Text = with_text making in
      let T : Text = tables_text a.form a.epochs making p.inputs widths' wanted_of (asked_script a p).tables in
      let R : Text = results_text l (dialect_of a.form) a.epochs p.inputs widths' a.output (asked_script a p).results p.outputs in
      let E : Text = closing_text l (dialect_of a.form) in
      let O : Text = opening_text l (dialect_of a.form) in
      let whole : Text → Text = λ t. codes "-- A query as SQL, for " ++ opening (dialect_of a.form) a.epochs p.inputs (arithmetic_of a.form) (O ++ t) in
      text_assoc (codes "-- A query as SQL, for ") (database_name (dialect_of a.form)) (reads_text a.epochs) (inputs_text (dialect_of a.form) a.epochs p.inputs)
      (promise_text (arithmetic_of a.form)) O H W T R E
      ∙ ap (λ (h : Text). whole (h ++ (W ++ (T ++ (R ++ E))))) (titles_are l)
      ∙ ap₂ (λ (t u : Text). whole (titles_of l rows_of ++ (W ++ (t ++ (u ++ E)))))
      (tables_are a.form a.epochs making p.inputs widths' wanted_of (asked_script a p).tables)
      (results_are l (dialect_of a.form) a.epochs p.inputs widths' a.output (asked_script a p).results p.outputs)

  fine_from : (m : Arithmetic) (given : ℕ) (ms : List Made) → AllByRecursion (λ (x : Made). (x.number < 2 ^ 64) × (x.width < 2 ^ 64) × IsShortQuery given x.query) (map (said_made m) ms)
      → AllByRecursion (λ (x : Made). (x.number < 2 ^ 64) × (x.width < 2 ^ 64) × IsShortQuery given x.query) ms
  fine_from m given [] h = tt
  fine_from m given (x ∷ xs) h = ((h.0.0, h.0.1, short_query m given x.query h.0.2), fine_from m given xs h.1)

  pub fine_entries : IsReadable (said a p) → AllByRecursion (λ (x : Made). (x.number < 2 ^ 64) × (x.width < 2 ^ 64) × IsShortQuery (length p.inputs) x.query) of_script
  fine_entries h =
      fine_from (arithmetic_of a.form) (length p.inputs) of_script
      (subst (AllByRecursion (λ (x : Made). (x.number < 2 ^ 64) × (x.width < 2 ^ 64) × IsShortQuery (length p.inputs) x.query))
      (made_are (arithmetic_of a.form) widths' (asked_tables a.output (asked_script a p).results p.outputs) (asked_script a p).tables) h.made)

abbrev saying : Form → Layout → Epochs → List Input → List Made → List Result → Said
saying f t z i ms rs = record { form = f; layout = t; epochs = z; inputs = i; made = ms; results = rs }

said_same : (f g : Form) (t u : Layout) (z v : Epochs) (i j : List Input) (ms ns : List Made) (rs ss : List Result) → f ≡ g → t ≡ u → z ≡ v → i ≡ j → ms ≡ ns → rs ≡ ss
    → saying f t z i ms rs ≡ saying g u v j ns ss
said_same f g t u z v i j ms ns rs ss e y o h k l =
    ap₂ (λ (x : Form) (y : List Input). saying x t z y ms rs) e h ∙ ap₂ (λ (x : List Made) (y : List Result). saying g t z j x y) k l
    ∙ ap₂ (λ (w : Layout) (x : Epochs). saying g w x j ns ss) y o

pub reads_back : (a b : Asked) (p q : Program) → IsReadable (said a p) → IsReadable (said b q) → script_text a p ≡ script_text b q → said a p ≡ said b q
reads_back a b p q r s e =
    let k : Text = codes "-- A query as SQL, for " in
    let first = opening (dialect_of a.form) a.epochs p.inputs (arithmetic_of a.form) (body a p) in
    let second = opening (dialect_of b.form) b.epochs q.inputs (arithmetic_of b.form) (body b q) in
    let begun = read_opening (dialect_of a.form) (dialect_of b.form) a.epochs b.epochs p.inputs q.inputs (arithmetic_of a.form) (arithmetic_of b.form) (body a p) (body b q) r.inputs.names s.inputs.names
    (cancel k first second (sym (text_is a p) ∙ e ∙ text_is b q)) in
    let forms : a.form ≡ b.form = sym (form_told a.form) ∙ ap₂ form_with begun.0 begun.3 ∙ form_told b.form in
    let given : length q.inputs ≡ length p.inputs = ap (λ (i : List Input). length i) (sym begun.2) in
    let same : body_of a.form a.epochs p.inputs (layout_of a) (making a p) (widths' a p) (of_script a p) (rows_of a p) ≡ body_of a.form a.epochs p.inputs (layout_of b) (making b q) (widths' b q) (of_script b q) (rows_of b q) =
    begun.4 ∙ ap₂ (λ (f : Form) (i : List Input). body_of f b.epochs i (layout_of b) (making b q) (widths' b q) (of_script b q) (rows_of b q)) (sym forms) (sym begun.2)
    ∙ ap (λ (z : Epochs). body_of a.form z p.inputs (layout_of b) (making b q) (widths' b q) (of_script b q) (rows_of b q)) (sym begun.1) in
    let fine_made = subst (λ n. AllByRecursion (λ (x : Made). (x.number < 2 ^ 64) × (x.width < 2 ^ 64) × IsShortQuery n x.query) (of_script b q)) given (fine_entries b q s) in
    let fine_rows =
    subst (λ z. AllByRecursion (λ (x : Result). IsName x.name × (places z x.width < 2 ^ 64) × IsThere (length p.inputs) x.table) (rows_of b q)) (sym begun.1)
    (subst (λ n. AllByRecursion (λ (x : Result). IsName x.name × (places b.epochs x.width < 2 ^ 64) × IsThere n x.table) (rows_of b q)) given s.results) in
    let read = read_body a.form a.epochs p.inputs r.inputs (widths' a p) (widths' b q) (of_script a p) (of_script b q) (rows_of a p) (rows_of b q) (fine_entries a p r) fine_made r.results fine_rows (layout_of a) (layout_of b)
    (making a p) (making b q) (opened (layout_of a) (wanted_of a p) (widths' a p) (asked_script a p).tables) (opened (layout_of b) (wanted_of b q) (widths' b q) (asked_script b q).tables) same in
    let made = made_are (arithmetic_of a.form) (widths' a p) (wanted_of a p) (asked_script a p).tables ∙ read.1
    ∙ ap (λ (m : Arithmetic). map (said_made m) (of_script b q)) begun.3
    ∙ sym (made_are (arithmetic_of b.form) (widths' b q) (wanted_of b q) (asked_script b q).tables) in
    said_same a.form b.form (layout_of a) (layout_of b) a.epochs b.epochs p.inputs q.inputs (said a p).made (said b q).made (rows_of a p) (rows_of b q) forms read.0 begun.1 begun.2 made read.2
