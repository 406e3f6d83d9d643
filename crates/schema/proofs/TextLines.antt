-- The text of a schema is its lines.
use Rattle.std.proofs.Common.{◌≡◌, ℕ, List, [], ◌∷◌, ◌++◌, codes, map, refl, sym, ◌∙◌, ap, subst}
use Rattle.std.specs.List.{AllByRecursion}
use Rattle.std.proofs.lemmas.List.{append_assoc}
use Rattle.csv_cells.specs.declared.column.Column.{Column}
use Rattle.schema_lines.specs.Lines.{Event, epoched_text}
use Rattle.schema.specs.Schemas.{parts_of, said, said_constant}
use Rattle.schema.specs.Steps.{AreLines, column_events, constant_events, epoched_of, events_of, input_event, output_event, table_events}
use Rattle.schema_lines.specs.Words.{kind_text}
use Rattle.schema.specs.Text.{AreColumnsText, AreTablesText, IsSchemaText, constants_text, epochs_text, names_of}
use Rattle.schema.specs.declared.tables.Constant.{Constant}
use Rattle.schema.specs.declared.tables.Epochs.{Epochs}
use Rattle.schema.specs.declared.tables.Epochs.TheVariants.{One, By, Every}
use Rattle.schema.specs.declared.tables.Schema.{Schema}
use Rattle.schema.specs.declared.tables.Table.{Table}
use Rattle.schema_lines.proofs.LineBytes.{line-same}

lines-append : (a b : List Event) (s t : List ℕ) → AreLines a s → AreLines b t → AreLines (a ++ b) (s ++ t)
unfolding AreLines
lines-append [] b s t e more = rw e more
lines-append (x ∷ xs) b s t (line, rest, is, more, whole) others =
    (line, rest ++ t, is, lines-append xs b rest t more others, ap (λ u. u ++ t) whole ∙ append_assoc line (10 ∷ rest) t)

column-split : (n k rest lines : List ℕ) → (codes "  " ++ (n ++ (codes " " ++ (k ++ (rest ++ codes "\n"))))) ++ lines
    ≡ (codes "  " ++ (n ++ (codes " " ++ (k ++ rest)))) ++ 10 ∷ lines
column-split n k rest lines = simp append_assoc refl

column-lines : (names : List (List ℕ)) (columns : List Column) (text : List ℕ) → AreColumnsText names columns text
    → AreLines (column_events names columns) text
unfolding AreColumnsText AreLines column_events
column-lines [] [] text e = e
column-lines [] (c ∷ cs) text e = absurd e
column-lines (n ∷ ns) [] text e = absurd e
column-lines (n ∷ ns) (c ∷ cs) text (line, lines, (rest, empty, is), more, whole) =
    let words = n ++ (codes " " ++ (kind_text c.kind ++ rest)) in (
      codes "  " ++ words,
      lines,
      (words, (rest, empty, refl), refl),
      column-lines ns cs lines more,
      whole ∙ ap (λ l. l ++ lines) is
          ∙ column-split n (kind_text c.kind) rest lines,
    )

words-same : (epochs : Epochs) (names : List (List ℕ)) → epochs_text epochs names ≡ epoched_text (epoched_of epochs names)
words-same One names = refl
words-same (By place) names = refl
words-same Every names = refl

input-split : (name words lines rest : List ℕ) → ((codes "input " ++ (name ++ (words ++ codes "\n"))) ++ lines) ++ rest
    ≡ (codes "input " ++ (name ++ words)) ++ 10 ∷ (lines ++ rest)
input-split name words lines rest = simp append_assoc refl

output-split : (name lines rest : List ℕ) → ((codes "output " ++ (name ++ codes "\n")) ++ lines) ++ rest ≡ (codes "output " ++ name) ++ 10
    ∷ (lines ++ rest)
output-split name lines rest = simp append_assoc refl

input-lines : (tables : List Table) (text : List ℕ) → AreTablesText (codes "input ") tables text
    → AreLines (table_events input_event (map said tables)) text
unfolding AreTablesText AreLines table_events
input-lines [] text e = e
input-lines (t ∷ ts) text (first, rest, (lines, columns, is), more, whole) =
    let words = epoched_text (epoched_of t.epochs (names_of t)) in
    let named = ap (λ w. (codes "input " ++ (t.name.items ++ (w ++ codes "\n"))) ++ lines) (words-same t.epochs (names_of t)) in (
      codes "input " ++ (t.name.items ++ words),
      lines ++ rest,
      refl,
      lines-append (column_events (names_of t) t.columns.items) (table_events input_event (map said ts)) lines rest
          (column-lines (names_of t) t.columns.items lines columns) (input-lines ts rest more),
      whole ∙ ap (λ f. f ++ rest) (is ∙ named) ∙ input-split t.name.items words lines rest,
    )

output-lines : (tables : List Table) (text : List ℕ) → AllByRecursion (λ t. t.epochs ≡ One) (map said tables)
    → AreTablesText (codes "output ") tables text → AreLines (table_events output_event (map said tables)) text
unfolding AreTablesText AreLines table_events
output-lines [] text ones e = e
output-lines (t ∷ ts) text ones (first, rest, (lines, columns, is), more, whole) =
    let named = ap (λ e. (codes "output " ++ (t.name.items ++ (epochs_text e (names_of t) ++ codes "\n"))) ++ lines) ones.0 in (
      codes "output " ++ t.name.items,
      lines ++ rest,
      refl,
      lines-append (column_events (names_of t) t.columns.items) (table_events output_event (map said ts)) lines rest
          (column-lines (names_of t) t.columns.items lines columns) (output-lines ts rest ones.1 more),
      whole ∙ ap (λ f. f ++ rest) (is ∙ named) ∙ output-split t.name.items lines rest,
    )

constant-split : (name text rest : List ℕ) → (codes "constant " ++ (name ++ (codes " = \"" ++ (text ++ codes "\"\n")))) ++ rest
    ≡ (codes "constant " ++ (name ++ (codes " = \"" ++ (text ++ codes "\"")))) ++ 10 ∷ rest
constant-split name text rest = simp append_assoc refl

constant-lines : (constants : List Constant) → AreLines (constant_events (map said_constant constants)) (constants_text constants)
unfolding constants_text AreLines constant_events
constant-lines [] = refl
constant-lines (c ∷ cs) = (
  codes "constant " ++ (c.name.items
      ++ (codes " = \"" ++ (c.text.items ++ codes "\""))),
  constants_text cs,
  refl,
  constant-lines cs,
  constant-split c.name.items
      c.text.items (constants_text cs),
)

pub schema-lines : (s : Schema) (text : List ℕ) → AllByRecursion (λ t. t.epochs ≡ One) (map said s.outputs.items) → IsSchemaText s text
    → AreLines (events_of (parts_of s)) text
schema-lines s text ones (inputs, outputs, ins, outs, whole) =
    let first = table_events input_event (map said s.inputs.items) in
    let second = table_events output_event (map said s.outputs.items) in
    let last = constant_events (map said_constant s.constants.items) in
    let L : List ℕ → Type 0 = λ t. AreLines (first ++ (second ++ last)) t in
    subst L (sym whole) (lines-append first (second ++ last) inputs (outputs ++ constants_text s.constants.items)
    (input-lines s.inputs.items inputs ins)
    (lines-append second last outputs (constants_text s.constants.items) (output-lines s.outputs.items outputs ones outs)
    (constant-lines s.constants.items)))

-- what lines say decides them
pub lines-same : (events : List Event) (s t : List ℕ) → AreLines events s → AreLines events t → s ≡ t
unfolding AreLines
lines-same [] s t e f = e ∙ sym f
lines-same (x ∷ xs) s t (line, rest, is, more, whole) (line', rest', is', more', whole') =
    whole ∙ ap (λ l. l ++ 10 ∷ rest) (line-same x line line' is is') ∙ ap (λ r. line' ++ 10 ∷ r) (lines-same xs rest rest' more more') ∙ sym whole'
