use Rattle.std.proofs.Common.{◌++◌, ◌∙◌}
use Rattle.std.proofs.KnownBytes.{Appends-trans}
use Rattle.csv_cells.specs.Encoded.{line_text}
use Rattle.table_commands.proofs.Results.{on-ok}
use Rattle.table_commands.proofs.Streamed.{more-given}
use Rattle.table_commands.proofs.input_writer.InputWriterLineSink.append_row.Goals as goal

pub returns-clause-taken : goal.returns-clause-taken
returns-clause-taken g c = λ first taken (name, given, has, all).
    on-ok c.write_many.result (λ (more, same, now_has, split). (
      same ∙ name,
      given ++ more,
      Appends-trans _ _ _ given more has now_has,
      more-given first.lines.items taken (line_text c.args.name.now c.args.numbers.now) given c.args.self.now.lines.items c.append_line.new.out.items more c.write_many.new.self.lines.items all
          c.in_ok-append_line.ensures split,
    )) c.write_many.ensures.taken
