use Rattle.csv.specs.Records.{fields_of}
use Rattle.tables.proofs.Readers.{all-read, one-read}
use Rattle.tables.proofs.header.read_record.Goals as goal

pub returns-clause-more : goal.returns-clause-more
returns-clause-more c = λ on text rows h.
    one-read text rows (fields_of c.read_byte_record.new.row) c.args.reader.now c.read_byte_record.new.self c.in-Ok.more on h (c.in-Ok.ensures.reads h.trim h.ready) (c.in-Ok.ensures.ready h.trim)

pub returns-clause-end : goal.returns-clause-end
returns-clause-end c = λ off text rows h.
    all-read text rows (fields_of c.read_byte_record.new.row) c.args.reader.now c.read_byte_record.new.self c.in-Ok.more off h (c.in-Ok.ensures.reads h.trim h.ready)
