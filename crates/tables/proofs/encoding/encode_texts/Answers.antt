use Rattle.std.proofs.Common.{◌≡◌, ◌++◌, ◌∙◌, ℕ, List, [], ap, map, sym, subst}
use Rattle.std.proofs.lemmas.List.{append-nil}
use Rattle.csv_cells.specs.Texts.{texts_of}
use Rattle.tables.specs.Inputs.{IsInput}
use Rattle.tables.proofs.Joined.{held-input}
use Rattle.tables.proofs.encoding.encode_texts.Goals as goal

pub returns-in-Ok-clause-input : goal.returns-in-Ok-clause-input
returns-in-Ok-clause-input c =
    let files : List (List ℕ) = map (λ v. v.items) c.args.files.now in
    let dictionary = texts_of c.encode.new.dictionary in
    let (texts, input, long, known, is, took) = c.in-Ok.ensures.input in
    let out : c.encode.new.out.items ≡ input = took c.new-out.result [] (sym (append-nil c.new-out.result.items)) ∙ ap (λ (t : List ℕ). t ++ input) c.new-out.ensures.items in
    subst (λ (o : List ℕ). IsInput c.args.schema.now files dictionary o) (sym out) (held-input c.args.schema.now files texts dictionary input known is)

pub returns-in-Err-clause-refused : goal.returns-in-Err-clause-refused
returns-in-Err-clause-refused c =
    c.refusal_of.ensures c.args.schema.now.inputs.items (map (λ v. v.items) c.args.files.now) (texts_of c.encode.new.dictionary) c.in-Err.ensures.refused
