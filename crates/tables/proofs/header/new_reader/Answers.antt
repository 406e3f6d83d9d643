use Rattle.std.proofs.Common.{◌∙◌}
use Rattle.tables.proofs.Readers.{none-read}
use Rattle.tables.proofs.header.new_reader.Goals as goal

pub returns : goal.returns
returns c =
    let e = c.has_headers.ensures in
    let f = c.flexible.ensures in
    let r = c.from_reader.ensures in
    none-read c.args.text.now c.from_reader.result (rw (f, e) at r.trim ∙ c.new.ensures.trim) (rw (f, e) at r.has_headers) r.headers (rw (f, e) at r.config ∙ c.new.ensures.config) r.source r.state
