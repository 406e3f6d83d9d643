use Rattle.std.proofs.Common.{◌∷◌, [], ℕ, List, map}
use Rattle.csv_cells.specs.Texts.{texts_of}
use Rattle.tables.specs.Blocks.{ReadsOn}
use Rattle.tables.specs.Tables.{HasRead}
use Rattle.tables.proofs.Faulty.{at-ok, header-refused, rows-refused}
use Rattle.tables.proofs.records.encode_first.Goals as goal

pub returns-in-Err-clause-refused : goal.returns-in-Err-clause-refused
returns-in-Err-clause-refused g c =
    header-refused (map (λ v. v.items) c.args.names.now) c.args.columns.now c.args.target.epochs c.args.text.now (texts_of c.args.dictionary.now) c.in-Err.fault
    (c.in-Err.ensures.refused c.args.text.now c.new_reader-reader.ensures)

pub returns-in-Ok-append_rows-clause-encoded : goal.returns-in-Ok-append_rows-clause-encoded
returns-in-Ok-append_rows-clause-encoded g c =
    let names : List (List ℕ) = map (λ v. v.items) c.args.names.now in
    let read : HasRead c.args.text.now (names ∷ []) c.read_header.new.reader = at-ok c.read_header.result c.in-Ok.is c.read_header.ensures.found c.args.text.now c.new_reader-reader.ensures in
    let (rows, lines, appended, all, has) = c.in-Ok-append_rows.ensures.encoded in
    (rows, lines, appended, all c.args.text.now (names ∷ []) read, has)

pub returns-clause-refused : goal.returns-clause-refused
returns-clause-refused g c =
    let names : List (List ℕ) = map (λ v. v.items) c.args.names.now in
    let read : HasRead c.args.text.now (names ∷ []) c.read_header.new.reader = at-ok c.read_header.result c.in-Ok.is c.read_header.ensures.found c.args.text.now c.new_reader-reader.ensures in
    rows-refused names c.args.columns.now c.args.target.epochs c.args.text.now (texts_of c.append_rows.new.dictionary)
    (ReadsOn c.read_header.new.reader)
    c.in-Err-append_rows.refusal.fault (λ rows h. h c.args.text.now (names ∷ []) read) c.in-Err-append_rows.ensures.refused
