use Rattle.std.proofs.Common.{◌≡◌, ◌≢◌, ◌≤◌, ◌<◌, ◌∙◌, ◌++◌, length, ℕ, List, [], ◌∷◌, false, true, Some, refl, sym, ap, take, inl, inr}
use Rattle.csv_strict.specs.declared.state.State.TheVariants.{Record}
use Rattle.std.proofs.lemmas.List.{append-nil}
use Rattle.csv.specs.Reading.{strip_bom}
use Rattle.csv_strict.specs.Strict.{run}
use Rattle.csv_epochs.specs.Cells.{Reading, after}
use Rattle.csv_epochs.specs.Epochs.{IsHeader}
use Rattle.csv_epochs.specs.Opened.{IsBegun, IsStuckAt, text_in}
use Rattle.csv_epochs.specs.Rows.{IsStuckRow, reading_of, row_cell}
use Rattle.csv_epochs.specs.declared.open.Open.{Open}
use Rattle.csv_epochs.specs.declared.row.RowStop.{RowStop}
use Rattle.csv_epochs.specs.declared.row.RowStop.TheVariants.{NoMemory, Refused}
use Rattle.csv_epochs.proofs.Beginnings.{front-part, front-same, header-ends, header-marked, header-more, header-stuck, whole-part}
use Rattle.csv_epochs.proofs.Readings.{no-byte}
use Rattle.csv_epochs.proofs.Taking.{begun}
use Rattle.csv_epochs.proofs.open.Open.take_header.Goals.{then-is_mark, else-is_mark}
use Rattle.csv_epochs.proofs.open.Open.take_header.Goals as goal

pub returns-in_ok-extend_from_slice-in-Ok-Some-clause-kept : goal.returns-in_ok-extend_from_slice-in-Ok-Some-clause-kept
returns-in_ok-extend_from_slice-in-Ok-Some-clause-kept c =
    let o = c.args.self.now in
    let b = begun o c.requires.kept c.requires.stage in
    let column = o.row.column in
    let h : List ℕ = o.header.items in
    let piece : List ℕ = c.args.piece.now in
    let part : List ℕ = c.header_part-part.result.now in
    let count = c.in-Ok-Some.count in
    let few = c.header_part-part.ensures.few in
    let more = c.header_part-part.ensures.more in
    let reads = rw c.in-Ok-Some.field-0-is at c.in-Ok-Some.ensures.reads in
    let same : c.restart.new.self.column ≡ column = c.restart.ensures.column ∙ reads.0 in
    let header : c.extend_from_slice.new.self.items ≡ h ++ take count part =
    c.in_ok-extend_from_slice-in-Ok-Some.ensures.items ∙ ap (λ (t : List ℕ). h ++ t) (front-same h piece part count few more reads.2 reads.1) in
    let head : IsHeader column (h ++ take count part) =
    header-ends column h (take count part) (reading_of o.row) (row_cell c.read_on.new.self) (front-part h piece part count few more reads.2 reads.1) b.row reads.3 in
    inr (record {
      stage = refl;
      head = rw (same, header) head;
      whole = inl b.body;
      row = rw (same, b.tail) (no-byte column (Some (after column [])) ∙ sym (ap (λ (t : Reading). Some t) (c.restart.ensures.reading ∙ ap (λ (k : ℕ). after k []) reads.0)));
    })

pub returns-after-is_mark-clause-kept : goal.returns-after-is_mark-clause-kept
returns-after-is_mark-clause-kept c =
    let o = c.args.self.now in
    let b = begun o c.requires.kept c.requires.stage in
    let column = o.row.column in
    let h : List ℕ = o.header.items in
    let part : List ℕ = c.header_part-part.result.now in
    let few = c.header_part-part.ensures.few in
    let more = c.header_part-part.ensures.more in
    let reads = rw c.in-Ok-None.field-0-is at c.in-Ok-None.ensures.reads in
    let header : c.extend_from_slice-in-Ok-None.new.self.items ≡ h ++ part = c.in_ok-extend_from_slice-in-Ok-None.ensures.items in
    let value : c.as_slice.result.now ≡ c.extend_from_slice-in-Ok-None.new.self.items = c.as_slice.ensures.value in
    elim c.if-is_mark.branch [
      | then-is_mark w ↦
          let marked : c.as_slice.result.now ≡ 239 ∷ 187 ∷ 191 ∷ [] = c.is_mark.ensures.0 w.if-is_mark.true in
          let same : w.restart-then-is_mark.new.self.column ≡ column = w.restart-then-is_mark.ensures.column ∙ reads.0 in
          let fresh : reading_of w.restart-then-is_mark.new.self ≡ after column [] = w.restart-then-is_mark.ensures.reading ∙ ap (λ (k : ℕ). after k []) reads.0 in
          rw w.self-is (inl (record {
            stage = b.stage;
            body = b.body;
            tail = b.tail;
            row = rw same (header-marked column c.extend_from_slice-in-Ok-None.new.self.items (reading_of w.restart-then-is_mark.new.self) (sym value ∙ marked) fresh);
          }))
      | else-is_mark w ↦
          let other : h ++ part ≢ 239 ∷ 187 ∷ 191 ∷ [] = λ e.
          let is : c.as_slice.result.now ≡ 239 ∷ 187 ∷ 191 ∷ [] = value ∙ (header ∙ e) in
          let true_is : false ≡ true = sym w.if-is_mark.false ∙ c.is_mark.ensures.1 is in
          cc true_is in
          rw w.self-is (inl (record {
            stage = b.stage;
            body = b.body;
            tail = b.tail;
            row = rw (reads.0, header)
                (header-more column h part (reading_of o.row) (reading_of c.read_on.new.self) (whole-part h c.args.piece.now part c.requires.some few more) other b.row reads.1);
          }))
    ]

stuck : (o n : Open) (piece part : List ℕ) (stop : RowStop) → IsBegun o → 0 < length piece → (length o.header.items < 3 → part ≡ take 1 piece)
    → (3 ≤ length o.header.items → part ≡ piece) → IsStuckRow o.row part stop → text_in n ≡ text_in o → n.lines ≡ o.lines → IsStuckAt o n piece stop
stuck o n piece part NoMemory b some few more e same lines = tt
stuck o n piece part Refused b some few more e same lines =
    let all : text_in o ≡ o.header.items = rw (b.body, b.tail) (append-nil o.header.items) in (
      same,
      lines,
      ap (λ (t : List ℕ). run (Some Record) (strip_bom (t ++ piece))) all
          ∙ header-stuck o.row.column o.header.items piece part (reading_of o.row) some few more b.row e,
    )

pub returns-in-Err-clause-refused : goal.returns-in-Err-clause-refused
returns-in-Err-clause-refused c =
    stuck c.args.self.now (record c.args.self.now { row = c.read_on.new.self }) c.args.piece.now c.header_part-part.result.now c.in-Err.stop
    (begun c.args.self.now c.requires.kept c.requires.stage) c.requires.some c.header_part-part.ensures.few c.header_part-part.ensures.more c.in-Err.ensures.refused refl refl
