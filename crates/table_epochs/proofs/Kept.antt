-- What stays while a file is followed, and an epoch's answer.
use Rattle.std.proofs.Common.{◌≡◌, ◌++◌, ◌∙◌, ℕ, zero, suc, true, List, [], ◌∷◌, set, refl, sym, ap}
use Rattle.csv_cells.specs.Texts.{Grows}
use Rattle.csv_epochs.specs.Epochs.{cell_of}
use Rattle.csv_epochs.specs.declared.epoch.Epoch.{Epoch}
use Rattle.tables.specs.Answers.{header_of}
use Rattle.tables.specs.Files.{csv_text}
use Rattle.tables.specs.Inputs.{IsInput}
use Rattle.tables.specs.Tables.{IsLate}
use Rattle.table_epochs.specs.Followed.{Followed, IsAnswered, IsValue, Reached, csv_file}
use Rattle.table_epochs.specs.Going.{HasHeader, IsFileUnder, Keeps}
use Rattle.table_epochs.specs.declared.epoch_answer.Following.{Following}
use Rattle.table_epochs.proofs.Answered.{csv-append}

pub keeps-none : (a : Following) → Keeps a a
keeps-none a = record { followed = refl; header = refl }

pub keeps-then : (a b c : Following) → Keeps a b → Keeps b c → Keeps a c
keeps-then a b c p q = record { followed = q.followed ∙ p.followed; header = q.header ∙ p.header }

abbrev pub with-files : Followed → List (List ℕ) → Followed
with-files f files = record {
  schema = f.schema;
  table = f.table;
  query = f.query;
  place = f.place;
  column = f.column;
  cells = f.cells;
  files = files;
}

pub header-kept : (a b : Following) → Keeps a b → HasHeader a → HasHeader b
header-kept a b k h =
    ap (λ v. v.items) k.header ∙ (h ∙ ap (λ (f : Followed). csv_text (header_of f.table true ∷ [])) (sym k.followed))

-- an epoch's answer, and its file
pub answer-of : (f : Followed) (old new : Reached) (epoch : Epoch) (input file : List ℕ) → new.count ≡ suc old.count → (met : List (List ℕ))
    → Grows old.texts met
    → Grows met new.texts → IsValue f.cells met (cell_of epoch) new.last → (IsLate old.last new.last → ⊥) → IsInput f.schema
    (set f.files f.place epoch.text.items) new.texts input
    → IsFileUnder f.table f.query old.count new.texts input file → (rows : List (List (List ℕ))) × IsAnswered f old new epoch rows ×
    (file ≡ csv_file f.table rows)
answer-of f old new epoch input file counted met first grows value ordered encoded h =
    let (rows, decoded, is) = h.decoded in (
      rows,
      record {
        counted = counted;
        met = met;
        first = first;
        value = value;
        grows = grows;
        ordered = ordered;
        input = input;
        answer = h.answer;
        text = h.text;
        encoded = encoded;
        run = h.run;
        numbered = h.numbered;
        decoded = decoded;
      },
      is,
    )

-- the rows of a file stand behind its header row
pub under-header : (f : Following) (file : List ℕ) (rows : List (List (List ℕ))) → HasHeader f → file ≡ csv_file f.job.table.now rows
    → file ≡ f.header.items ++ csv_text rows
under-header f file rows h is =
    is ∙ (csv-append (header_of f.job.table.now true ∷ []) rows ∙ ap (λ (t : List ℕ). t ++ csv_text rows) (sym h))

-- the text at a place is put there twice
pub set-set : (texts : List (List ℕ)) (i : ℕ) (a b : List ℕ) → set (set texts i a) i b ≡ set texts i b
set-set [] i a b = refl
set-set (t ∷ texts) zero a b = refl
set-set (t ∷ texts) (suc i) a b = ap (λ (ts : List (List ℕ)). t ∷ ts) (set-set texts i a b)
