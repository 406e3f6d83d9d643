use Rattle.std.proofs.Common.{ℕ, List, sym, subst}
use Rattle.tables.specs.Dictionaries.{dictionary_rows}
use Rattle.tables.specs.Tables.{HasRead}
use Rattle.tables.proofs.dictionary_file.read_texts.Goals as goal

pub add_texts-requires-clause-read : goal.add_texts-requires-clause-read
add_texts-requires-clause-read c =
    subst (λ (texts : List (List ℕ)). HasRead c.args.text.now (dictionary_rows texts) c.read_names.new.reader) (sym c.new-dictionary.ensures) c.in_ok-read_names.ensures.read
