use Rattle.std.proofs.Common.{◌≡◌, ◌∙◌, length, map, rules}
use Rattle.std.proofs.lemmas.List.{length-map}
use Rattle.table_commands.proofs.Files.{texts_of_files}
use Rattle.table_commands.proofs.encoding.append_input.Goals as goal

pub returns-in-Ok-clause-input : goal.returns-in-Ok-clause-input
returns-in-Ok-clause-input g c =
    let sized : length c.args.paths.now ≡ length c.args.schema.now.inputs.items = search rules in
    let names = map (λ s. s.now) c.args.paths.now in
    let (files, input, long, known, is, took) = c.in-Ok.ensures.input in
    (input, (files, texts_of_files (g.S.Sources.content c.args.sources.now) names files c.args.schema.now.inputs.items (length-map c.args.paths.now (λ s. s.now) ∙ sized) long known, is), took)
