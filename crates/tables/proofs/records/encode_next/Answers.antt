use Rattle.std.proofs.Common.{[]}
use Rattle.csv_cells.specs.Texts.{texts_of}
use Rattle.tables.specs.Blocks.{ReadsOn}
use Rattle.tables.specs.Tables.{BeginsWith}
use Rattle.tables.proofs.Faulty.{err-else, ok-else, reads-else}
use Rattle.tables.proofs.records.encode_next.Goals as goal

pub returns-clause-encoded : goal.returns-clause-encoded
returns-clause-encoded g c =
    ok-else c.append_rows.result _ _ (λ latest (rows, lines, appended, all, has). (rows, lines, appended, all c.args.text.now [] c.new_reader-reader.ensures, has)) c.append_rows.ensures.encoded

pub returns-clause-refused : goal.returns-clause-refused
returns-clause-refused g c =
    err-else c.append_rows.result _ _
    (λ r stops. reads-else c.args.columns.now c.args.target.epochs (texts_of c.append_rows.new.dictionary) c.args.last
    (ReadsOn c.new_reader-reader.result)
    (BeginsWith c.args.text.now) r.fault (λ rows h. h c.args.text.now [] c.new_reader-reader.ensures) stops)
    c.append_rows.ensures.refused
