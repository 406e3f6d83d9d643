use Rattle.std.proofs.lemmas.Result.{IfOk-weaker}
use Rattle.clap.specs.Words.{found_of, rows_of}
use Rattle.command_line.proofs.Holding.{holds}
use Rattle.command_line.proofs.command.held_options.Goals as goal

pub returns-clause-held : goal.returns-clause-held
returns-clause-held c = IfOk-weaker c.line_options.result _ _ (holds _ _ _ c.in-Some.name.now (rows_of (found_of c.in-Some.matches.now)) c.in-Ok.ensures c.in-Ok-try_get_matches_from.ensures.matches c.in-Some.ensures.name c.in-Some.ensures.rows) c.line_options.ensures.held
