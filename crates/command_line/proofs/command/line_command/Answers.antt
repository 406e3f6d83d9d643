use Rattle.std.proofs.Common.{ap, ◌∙◌}
use Rattle.std.proofs.lemmas.Result.{IfOk-weaker}
use Rattle.command_line.specs.Line.{with_commands}
use Rattle.command_line.proofs.command.line_command.Goals as goal

pub returns : goal.returns
returns c = IfOk-weaker c.with_usages.result _ _ (λ r h. h ∙ ap with_commands c.program.ensures) c.with_usages.ensures
