use Rattle.std.proofs.Common.{◌∙◌, refl}
use Rattle.csv_answers.proofs.Written.{no-records}
use Rattle.csv_answers.proofs.writing.new_file.Goals as goal

pub returns : goal.returns
returns c =
    let e = c.from_writer.ensures in
    no-records c.from_writer.result (record { setup = e.cfg ∙ c.new.ensures; fields = e.fields; nothing = e.wrote }) (rw (e.wtr, e.empty, c.new-2.ensures.items) refl)
