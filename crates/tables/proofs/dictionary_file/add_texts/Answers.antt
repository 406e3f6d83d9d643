use Rattle.std.proofs.Common.{◌≡◌, ◌∙◌, ◌∷◌, ◌++◌, [], ℕ, List, sym, ap, refl, subst, inr}
use Rattle.csv.specs.Records.{fields_of}
use Rattle.csv_cells.specs.Texts.{texts_of}
use Rattle.tables.specs.Dictionaries.{dictionary_rows}
use Rattle.tables.specs.Tables.{HasRead, IsFaultyText}
use Rattle.tables.proofs.Cells.{dictionary-push}
use Rattle.tables.proofs.Readers.{begins}
use Rattle.tables.proofs.dictionary_file.add_texts.Goals as goal

pub loop-count-init : goal.loop-count-init
loop-count-init c = record { read = c.requires.read }

pub loop-count-preserved : goal.loop-count-preserved
loop-count-preserved c =
    let old : List (List ℕ) = texts_of c.loop-count.dictionary in
    let new : List (List ℕ) = texts_of c.add_text.new.dictionary in
    let fields : List (List ℕ) = fields_of c.read_record.new.row in
    let read = c.in_ok-read_record.ensures.more c.if-not-branch.false c.args.text.now (dictionary_rows old) c.loop-count.invariant.read in
    let added = c.in_ok-add_text.ensures.added c.if-not-branch-2.false in
    let path : dictionary_rows old ++ fields ∷ [] ≡ dictionary_rows new =
    ap (λ (f : List (List ℕ)). dictionary_rows old ++ f ∷ []) added.1 ∙ sym (dictionary-push old added.0) ∙ ap dictionary_rows (sym added.2) in
    record { read = subst (λ (rows : List (List (List ℕ))). HasRead c.args.text.now rows c.read_record.new.reader) path read }

pub returns-then-not-branch-clause-read : goal.returns-then-not-branch-clause-read
returns-then-not-branch-clause-read c =
    inr (c.in_ok-read_record.ensures.end c.if-not-branch.true c.args.text.now (dictionary_rows (texts_of c.loop-count.dictionary)) c.loop-count.invariant.read)

pub returns-then-not-branch-2-clause-refused : goal.returns-then-not-branch-2-clause-refused
returns-then-not-branch-2-clause-refused c =
    let old : List (List ℕ) = texts_of c.loop-count.dictionary in
    let fields : List (List ℕ) = fields_of c.read_record.new.row in
    let read = c.in_ok-read_record.ensures.more c.if-not-branch.false c.args.text.now (dictionary_rows old) c.loop-count.invariant.read in
    let why : IsFaultyText c.args.text.now = record {
      texts = old;
      cells = fields;
      read = begins c.args.text.now (dictionary_rows old ++ fields ∷ []) c.read_record.new.reader read;
      faulty = c.in_ok-add_text.ensures.other c.if-not-branch-2.true;
    } in
    (c.requires.some, inr (c.requires.strict, inr (refl, why)))
