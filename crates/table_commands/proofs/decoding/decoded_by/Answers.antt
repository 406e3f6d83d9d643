use Rattle.std.proofs.Common.{List, ◌∙◌, ap, subst}
use Rattle.std.specs.List.{list_any}
use Rattle.csv_cells.specs.Texts.{texts_of}
use Rattle.schema.specs.declared.tables.Table.{Table}
use Rattle.tables.specs.Answers.{IsDecoded}
use Rattle.tables.specs.Inputs.{has_own}
use Rattle.table_commands.proofs.decoding.decoded_by.Goals as goal

pub returns-in-Ok : goal.returns-in-Ok
returns-in-Ok g c =
    let table = c.in-Some.table.now in
    let texts = texts_of c.in_ok-dictionary.dictionary in
    let file = c.in-Ok.text.items in
    record {
      table = table;
      texts = texts;
      text = c.in_ok-answer.answer.items;
      asked = c.in-Some.ensures;
      numbered = c.in_ok-dictionary.ensures;
      read = c.in_ok-answer.ensures;
      decoded = subst (λ own. IsDecoded table own texts c.in_ok-answer.answer.items file)
          (c.has_epochs.ensures ∙ ap (λ (ts : List Table). list_any (λ t. has_own t.epochs) ts) c.as_slice.ensures.value)
          (subst (λ text. IsDecoded table c.has_epochs.result texts text file) c.as_slice-2.ensures.value c.in-Ok.ensures.decoded);
    }
