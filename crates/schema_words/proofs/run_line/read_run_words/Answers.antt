use Rattle.std.proofs.Common.{List, map, refl}
use Rattle.clap.specs.Words.{Text, found_of, rows_of}
use Rattle.schema_words.proofs.Holding.{holds, if-some}
use Rattle.schema_words.proofs.run_line.read_run_words.Goals as goal

pub returns-then-is_command : goal.returns-then-is_command
returns-then-is_command c =
    let words : List Text = map (λ s. s.now) c.args.words.now in
    let rows = rows_of (found_of c.in-Some.matches.now) in
    if-some c.in_ok-asked.field-0
    (holds words c.in_ok-found.found c.in-Some.name.now rows c.in_ok-found.ensures c.in-Some.ensures.name c.in-Some.ensures.rows (c.if-is_command.ensures refl))
    c.in_ok-asked.ensures
