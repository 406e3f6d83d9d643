use Rattle.std.proofs.Common.{◌++◌, ◌∙◌}
use Rattle.std.proofs.KnownBytes.{Appends-trans}
use Rattle.table_commands.proofs.Results.{on-ok}
use Rattle.table_commands.proofs.Streamed.{more-given}
use Rattle.table_commands.proofs.input_writer.InputWriterLineSink.append.Goals as goal

pub returns-clause-taken : goal.returns-clause-taken
returns-clause-taken g c = λ first taken (name, given, has, all).
    on-ok c.write_many.result (λ (more, same, now_has, split). (
      same ∙ name,
      given ++ more,
      Appends-trans _ _ _ given more has now_has,
      more-given first.lines.items taken c.args.lines.now given c.args.self.now.lines.items c.extend_from_slice.new.self.items more c.write_many.new.self.lines.items all
          c.in_ok-extend_from_slice.ensures.items split,
    )) c.write_many.ensures.taken
