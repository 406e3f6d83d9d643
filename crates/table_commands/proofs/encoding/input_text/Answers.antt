use Rattle.std.proofs.Common.{◌++◌, ◌∙◌, [], ℕ, List, ap, map, sym, subst}
use Rattle.std.proofs.lemmas.List.{append-nil}
use Rattle.csv_cells.specs.Texts.{texts_of}
use Rattle.table_commands.specs.Read.{IsInputOf}
use Rattle.table_commands.proofs.encoding.input_text.Goals as goal

pub returns-in-Ok-clause-input : goal.returns-in-Ok-clause-input
returns-in-Ok-clause-input g c =
    let (input, is, took) = c.in-Ok.ensures.input in
    let out = took c.new-text.result [] (sym (append-nil c.new-text.result.items)) ∙ ap (λ (t : List ℕ). t ++ input) c.new-text.ensures.items in
    subst (λ (o : List ℕ). IsInputOf (g.S.Sources.content c.args.sources.now) c.args.schema.now (map (λ s. s.now) c.args.paths.now) (texts_of c.append_input.new.dictionary) o) (sym out) is
