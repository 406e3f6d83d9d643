-- What a writer of CSV has written, cell by cell and record by record.
use Rattle.std.proofs.Common.{◌≡◌, ◌≢◌, ◌++◌, ◌∙◌, ◌≤◌, ◌+◌, ◌-◌, ◌^◌, ◌==◌, ℕ, List, [], ◌∷◌, true, false, not, Option, Some, None, length, refl, sym, ap, subst, min, arith}
use Rattle.std.proofs.lemmas.List.{append-nil, append_assoc, length-append}
use Rattle.std.specs.Global.{Vec}
use Rattle.std.specs.Io.KnownBytes.{Appends, Keeps}
use Rattle.csv.specs.Writing.{default_writer, field_text, fields_written, has_written, is_blank, next_sep, row_body, row_text, tail_text, writer_setup}
use Rattle.csv.specs.declared.writer.QuoteStyle.TheVariants as style
use Rattle.csv.specs.declared.writer.Writer.{Writer}
use Rattle.csv.proofs.WriteFacts.{appends-more, appends-none, blank-more, row-final, row-more}
use Rattle.csv_answers.specs.Files.{HasBegun, IsBetween, IsFile, csv_text, labelled, written_of}

-- nothing of a record
pub none-begun : (w : Writer (Vec ℕ)) → IsBetween w → HasBegun w w []
unfolding is_blank
none-begun w b = record { setup = b.setup; appended = appends-none (written_of w); fields = b.fields; blank = rw b.nothing refl }

-- one more cell
pub one-begun : (old mid new : Writer (Vec ℕ)) (cells : List (List ℕ)) (cell : List ℕ) → HasBegun old mid cells → length cells + 1 ≤ 2 ^ 64 - 1
    → ((writer_setup mid).style ≢ style.NonNumeric → Appends (written_of mid) (written_of new) (next_sep (writer_setup mid) (fields_written mid) ++ field_text (writer_setup mid) cell))
    → writer_setup new ≡ writer_setup mid
    → fields_written new ≡ min (fields_written mid + 1) (2 ^ 64 - 1)
    → (has_written mid ≡ false → (writer_setup mid).style ≢ style.NonNumeric → has_written new ≡ not (length (field_text (writer_setup mid) cell) == 0))
    → (has_written mid ≡ true → has_written new ≡ true)
    → HasBegun old new (cells ++ cell ∷ [])
one-begun old mid new cells cell b fits text same count wrote stays =
    let plain : (writer_setup mid).style ≢ style.NonNumeric = rw b.setup (λ e. cc e) in
    let one = rw (b.setup, b.fields) at (text plain) in
    let whole = appends-more (written_of old) (written_of mid) (written_of new) (row_body default_writer cells) (next_sep default_writer (length cells) ++ field_text default_writer cell) b.appended one in
    let size : length (cells ++ cell ∷ []) ≡ length cells + 1 = length-append cells (cell ∷ []) in
    record {
      setup = same ∙ b.setup;
      appended = subst (λ (t : List ℕ). Appends (written_of old) (written_of new) t) (sym (row-more default_writer cells cell)) whole;
      fields = count ∙ rw b.fields (omega (arith, size));
      blank = rw size (blank-more default_writer cells cell (has_written mid) (has_written new) b.blank (λ w. rw b.setup at (wrote w plain)) stays);
    }

appended : (a b : Option (List ℕ)) (x bs : List ℕ) → a ≡ Some x → Appends a b bs → b ≡ Some (x ++ bs)
appended None b x bs e f = cc e
appended (Some y) None x bs e f = absurd f
appended (Some y) (Some z) x bs e f = cc

-- one more record
csv-push : (rows : List (List (List ℕ))) (row : List (List ℕ)) → csv_text (rows ++ row ∷ []) ≡ csv_text rows ++ row_text default_writer row
unfolding csv_text
csv-push [] row = append-nil (row_text default_writer row)
csv-push (r ∷ rows) row = ap (λ (t : List ℕ). row_text default_writer r ++ t) (csv-push rows row) ∙ sym (append_assoc (row_text default_writer r) (csv_text rows) (row_text default_writer row))

-- the end of a record
pub one-written : (old mid new : Writer (Vec ℕ)) (rows : List (List (List ℕ))) (cells : List (List ℕ)) → HasBegun old mid cells → IsFile old rows
    → Appends (written_of mid) (written_of new) (tail_text (writer_setup mid) (has_written mid) (fields_written mid))
    → fields_written new ≡ 0 → has_written new ≡ false → writer_setup new ≡ writer_setup mid
    → IsFile new (rows ++ cells ∷ [])
one-written old mid new rows cells b f tail fields wrote setup =
    let all = row-final (written_of old) (written_of mid) (written_of new) default_writer cells (has_written mid) (fields_written mid) b.appended (rw (← b.fields) at b.blank) (rw b.setup at tail) in
    record {
      between = record { setup = setup ∙ b.setup; fields = fields; nothing = wrote };
      written = appended _ _ _ _ f.written all ∙ ap Some (sym (csv-push rows cells));
    }

-- no record
pub no-records : (w : Writer (Vec ℕ)) → IsBetween w → written_of w ≡ Some [] → IsFile w []
unfolding csv_text
no-records w b e = record { between = b; written = e }

-- a first cell, and then others
pub labelled-on : (first : Option (List ℕ)) (cells : List (List ℕ)) → labelled first [] ++ cells ≡ labelled first cells
labelled-on None cells = refl
labelled-on (Some f) cells = refl

pub labelled-size : (first : Option (List ℕ)) (cells : List (List ℕ)) → length (labelled first [] ++ cells) ≤ length cells + 1
labelled-size None cells = omega arith
labelled-size (Some f) cells = omega arith

pub kept : (a b : Option (List ℕ)) (x y : List ℕ) → a ≡ Some x → b ≡ Some y → Keeps a b → y ≡ x
kept (Some u) (Some v) x y e f k = cc
kept None b x y e f k = cc e
kept (Some u) None x y e f k = cc f
