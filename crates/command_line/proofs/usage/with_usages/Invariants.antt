use Rattle.std.specs.Prelude.{◌≡◌, take}
use Rattle.clap.specs.Words.{app_of}
use Rattle.command_line.specs.Usages.{with_usages}
use Rattle.command_line.proofs.usage.with_usages.Given as goal

abbrev pub invariant-loop-usage : goal.invariant-loop-usage
invariant-loop-usage l = app_of l.line ≡ with_usages (app_of l.initial.line) (take l.usage-index l.usages)
