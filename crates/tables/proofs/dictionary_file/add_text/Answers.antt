use Rattle.std.proofs.Common.{◌≡◌, ◌∙◌, ◌<◌, ◌≤◌, ℕ, List, Some, slice_get, length, sym, ap, subst, arith}
use Rattle.csv.specs.Records.{fields_of}
use Rattle.csv_cells.specs.Texts.{HasText, texts_of}
use Rattle.csv_cells.proofs.Rows.{field-same, no-field, some-once}
use Rattle.tables.proofs.Cells.{last-added, not-added, one-cell}
use Rattle.tables.proofs.dictionary_file.add_text.Goals as goal

pub returns-then-len-count-clause-added : goal.returns-then-len-count-clause-added
returns-then-len-count-clause-added c = λ added.
    let fields : List (List ℕ) = fields_of c.args.row.now in
    let text : List ℕ = c.in-Some.text.now in
    let there : slice_get fields 0 ≡ Some text = sym (field-same fields 0) ∙ sym c.in-Some.ensures.value in
    let one : length fields ≡ 1 = omega arith in
    let less : length (texts_of c.args.dictionary.now) < length (texts_of c.number.new.self) = omega arith in (
      text,
      one-cell fields text one there,
      last-added text (texts_of c.args.dictionary.now) (texts_of c.number.new.self) c.in_ok-number.ensures.added less,
    )

pub returns-in_default-clause-other : goal.returns-in_default-clause-other
returns-in_default-clause-other c = λ e text same.
    let fields : List (List ℕ) = fields_of c.args.row.now in
    let one : length fields ≡ 1 = ap length same in
    absurd (no-field fields 0 (omega (arith, one)) (sym (field-same fields 0) ∙ sym c.in_default.ensures.value))

pub returns-else-len-count-clause-other : goal.returns-else-len-count-clause-other
returns-else-len-count-clause-other c = λ e text same.
    let fields : List (List ℕ) = fields_of c.args.row.now in
    let found : List ℕ = c.in-Some.text.now in
    let old : List (List ℕ) = texts_of c.args.dictionary.now in
    let there : slice_get fields 0 ≡ Some found = sym (field-same fields 0) ∙ sym c.in-Some.ensures.value in
    let it : found ≡ text = some-once found text (sym there ∙ ap (λ (fs : List (List ℕ)). slice_get fs 0) same) in
    let less : length (texts_of c.number.new.self) ≤ length old = omega arith in
    subst (λ (t : List ℕ). HasText t old) it (not-added found old (texts_of c.number.new.self) c.in_ok-number.ensures.added less)
