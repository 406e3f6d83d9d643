use Rattle.std.proofs.Common.{◌∙◌, ◌∷◌, [], ℕ, List, map, refl, sym, subst}
use Rattle.std.proofs.lemmas.Bool.{false≢true}
use Rattle.csv.specs.Records.{fields_of}
use Rattle.tables.specs.Tables.{HasRead}
use Rattle.tables.proofs.Readers.{no-header, other-header}
use Rattle.tables.proofs.header.read_header.Goals as goal

pub returns-clause-found : goal.returns-clause-found
returns-clause-found c = λ text h.
    subst (λ (names : List (List ℕ)). HasRead text (names ∷ []) c.read_record.new.reader) (c.has_cells.ensures.0 c.if-not-has_cells.false)
    (c.in-Ok-true.ensures.more c.in-Ok-true.field-0-test text [] h)

pub returns-then-not-has_cells-clause-refused : goal.returns-then-not-has_cells-clause-refused
returns-then-not-has_cells-clause-refused c = λ text h. (
  refl,
  other-header text (map (λ v. v.items) c.args.names.now) (fields_of c.read_record.new.row) c.read_record.new.reader (c.in-Ok-true.ensures.more c.in-Ok-true.field-0-test text [] h)
      (λ same. absurd (false≢true (sym c.if-not-has_cells.true ∙ c.has_cells.ensures.1 same))),
)

pub returns-in-Ok-false-clause-refused : goal.returns-in-Ok-false-clause-refused
returns-in-Ok-false-clause-refused c = λ text h. (
  refl,
  no-header text (map (λ v. v.items) c.args.names.now) (c.in-Ok-false.ensures.end c.in-Ok-false.field-0-test text [] h),
)
