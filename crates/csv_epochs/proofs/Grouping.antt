-- Records that are put to an epoch, and epochs that are handed out.
use Rattle.std.proofs.Common.{◌≡◌, ◌≢◌, ◌++◌, ◌∙◌, ◌+◌, ◌<◌, ℕ, List, [], ◌∷◌, true, false, Option, Some, None, refl, sym, ap, arith, length, append_assoc, inl, inr}
use Rattle.std.specs.Prelude.{◌⊎◌, All}
use Rattle.std.proofs.lemmas.List.{append-nil}
use Rattle.std.proofs.lemmas.List.Elements.{All-append, All-cons, All-nil}
use Rattle.csv_strict.specs.Strict.{ends_text, run}
use Rattle.csv_strict.specs.declared.state.State.{State}
use Rattle.csv_strict.specs.declared.state.State.TheVariants.{Record}
use Rattle.csv_strict.proofs.Runs.{run-append}
use Rattle.csv_epochs.specs.Cells.{Reading, after, cells}
use Rattle.csv_epochs.specs.Epochs.{AreOne, Differs, HandsOut, IsEpoch, KeepsHeader, cell_of, lines, plus}
use Rattle.csv_epochs.specs.Opened.{AreWhole, EndsRow, HandsBody, IsEnded, IsKept, IsSame, KeepsRow, bytes_in, cell_in, held_of, text_in}
use Rattle.csv_epochs.specs.Rows.{row_cell}
use Rattle.csv_epochs.specs.declared.epoch.Epoch.{Epoch}
use Rattle.csv_epochs.specs.declared.open.Open.{Open}
use Rattle.csv_epochs.proofs.Readings.{cells-append, no-byte}
use Rattle.csv_epochs.proofs.Taking.{whole-ends}

just : (cell other : List ℕ) → other ≡ cell → All (λ (c : Option (List ℕ)). c ≡ Some cell) (Some other ∷ [])
just cell other e = All-cons (λ (c : Option (List ℕ)). c ≡ Some cell) (Some other) [] (ap (λ (c : List ℕ). Some c) e) (All-nil (λ (c : Option (List ℕ)). c ≡ Some cell))

pub one-alone : (cell : Option (List ℕ)) → AreOne cell (cell ∷ [])
one-alone None = refl
one-alone (Some cell) = (λ e. cc e, just cell cell refl)

not-empty : (found : List (Option (List ℕ))) (cell : Option (List ℕ)) → found ++ (cell ∷ []) ≢ []
not-empty [] cell e = cc e
not-empty (x ∷ found) cell e = cc e

one-more : (old next : Option (List ℕ)) (found : List (Option (List ℕ))) → AreOne old found → IsSame old next → AreOne old (found ++ (next ∷ []))
one-more None next found one same = absurd same
one-more (Some cell) None found one same = absurd same
one-more (Some cell) (Some other) found one same =
    (not-empty found (Some other), All-append (λ (c : Option (List ℕ)). c ≡ Some cell) found (Some other ∷ []) one.1 (just cell other (sym same)))

-- a record is put to the records of its epoch
pub joined-one : (column : ℕ) (body tail : List ℕ) (old new next : Option (List ℕ)) (s : State) → AreWhole column old body → run (Some Record) tail ≡ Some s
    → cells column tail ≡ next ∷ [] → (body ≡ [] → new ≡ next) → (0 < length body → new ≡ old) → ((body ≡ []) ⊎ IsSame old next)
    → AreOne new (cells column (body ++ tail))
joined-one column [] tail old new next s whole ends one first later how = rw (first refl, one) (one-alone next)
joined-one column (b ∷ body) tail old new next s (inl e) ends one first later how = let bad : b ∷ body ≡ [] = e in cc bad
joined-one column (b ∷ body) tail old new next s (inr w) ends one first later (inl e) = let bad : b ∷ body ≡ [] = e in cc bad
joined-one column (b ∷ body) tail old new next s (inr w) ends one first later (inr same) =
    let all : cells column ((b ∷ body) ++ tail) ≡ cells column (b ∷ body) ++ (next ∷ []) =
    cells-append column (b ∷ body) tail s w.0 ends ∙ ap (λ (t : List (Option (List ℕ))). cells column (b ∷ body) ++ t) one in
    let now : new ≡ old = later (omega arith) in
    rw (now, all) (one-more old next (cells column (b ∷ body)) w.1 same)

pub joined-run : (column : ℕ) (cell : Option (List ℕ)) (body tail : List ℕ) (s : State) → AreWhole column cell body → run (Some Record) tail ≡ Some s
    → run (Some Record) (body ++ tail) ≡ Some s
joined-run column cell body tail s whole ends =
    run-append (Some Record) body tail ∙ (ap (λ (o : Option State). run o tail) (whole-ends column cell body whole) ∙ ends)

-- after a record that was put to its epoch
pub goes-on : (o n : Open) → IsEnded o → EndsRow o n None → IsKept n
goes-on o n e r =
    let k = r.0 in
    let header : n.header.items ≡ o.header.items = ap (λ v. v.items) k.header in
    let one : AreOne (cell_in n) (cells o.row.column (o.body.items ++ o.tail.items)) =
    joined-one o.row.column o.body.items o.tail.items (cell_in o) (cell_in n) (row_cell o.row) Record e.whole e.ends e.row k.first k.later r.1 in
    inr (record {
      stage = k.stage ∙ e.stage;
      head = rw (k.column, header) e.head;
      whole = rw (k.column, k.body) (inr (joined-run o.row.column (cell_in o) o.body.items o.tail.items Record e.whole e.ends, one));
      row = rw (k.column, k.tail) (no-byte o.row.column (Some (after o.row.column [])) ∙ ap (λ (t : Reading). Some t) (sym k.row));
    })

-- the record behind an epoch is of another one
pub differs-of : (cell next : Option (List ℕ)) → (IsSame cell next → ⊥) → Differs cell (next ∷ [])
differs-of None next other = tt
differs-of (Some cell) None other = λ e. cc e
differs-of (Some cell) (Some next) other = λ e. let same : next ≡ cell = cc e in other (sym same)

-- an epoch with its records
pub epoch-of : (column before : ℕ) (header body : List ℕ) (cell : Option (List ℕ)) (s : State) (epoch : Epoch) → epoch.text.items ≡ header ++ body
    → cell_of epoch ≡ cell → run (Some Record) body ≡ Some s → ends_text s ≡ true → AreOne cell (cells column body) → epoch.header_lines ≡ lines header
    → epoch.first_line ≡ plus before (lines header + 1) → IsEpoch column header before body epoch
epoch-of column before header body cell s epoch text is reached ends one header_lines first_line = record {
  text = text;
  strict = (s, reached, ends);
  one = rw is one;
  header_lines = header_lines;
  first_line = first_line;
}

-- the records that are held are one epoch
pub whole-one : (column : ℕ) (cell : Option (List ℕ)) (body : List ℕ) → AreWhole column cell body → 0 < length body → AreOne cell (cells column body)
whole-one column cell body (inl e) some = let none : length body ≡ 0 = ap length e in absurd (omega arith)
whole-one column cell body (inr w) some = w.1

parts : (header body tail rest : List ℕ) → (header ++ (body ++ tail)) ++ rest ≡ header ++ (body ++ (tail ++ rest))
parts header body tail rest = append_assoc header (body ++ tail) rest ∙ ap (λ (t : List ℕ). header ++ t) (append_assoc body tail rest)

-- what is held after an epoch was handed out
pub begun-bytes : (o amid n : Open) (epoch : Epoch) → HandsBody o amid epoch → KeepsRow amid n → (n.body.items ≡ o.tail.items) × (bytes_in n ≡ o.tail.items)
begun-bytes o amid n epoch h k =
    let tail : amid.tail.items ≡ o.tail.items = ap (λ v. v.items) h.tail in
    let body : n.body.items ≡ o.tail.items = k.body ∙ (rw (h.body, tail) refl) in
    (body, rw (body, k.tail) (append-nil o.tail.items))

pub begins-anew : (o n : Open) (epoch : Epoch) → IsEnded o → EndsRow o n (Some epoch) → IsKept n
begins-anew o n epoch e r =
    let amid : Open = r.0 in
    let h : HandsBody o amid epoch = r.1 in
    let k : KeepsRow amid n = r.2 in
    let header : n.header.items ≡ o.header.items = ap (λ v. v.items) (k.header ∙ h.header) in
    let column : n.row.column ≡ o.row.column = k.column ∙ ap (λ w. w.column) h.row in
    let amid_column : amid.row.column ≡ o.row.column = ap (λ w. w.column) h.row in
    let b = begun-bytes o amid n epoch h k in
    let cell : cell_in n ≡ row_cell o.row = k.first h.body ∙ ap row_cell h.row in
    let one : AreOne (cell_in n) (cells o.row.column o.tail.items) = rw (cell, e.row) (one-alone (row_cell o.row)) in
    inr (record {
      stage = k.stage ∙ (h.stage ∙ e.stage);
      head = rw (column, header) e.head;
      whole = rw (column, b.0) (inr (e.ends, one));
      row = rw (column, k.tail) (no-byte o.row.column (Some (after o.row.column []))
          ∙ ap (λ (t : Reading). Some t) (sym (k.row ∙ ap (λ (c : ℕ). after c []) amid_column)));
    })

pub hands-out : (start o n : Open) (piece rest : List ℕ) (epoch : Epoch) → IsEnded o → EndsRow o n (Some epoch) → text_in start ++ piece ≡ text_in o ++ rest
    → o.row.column ≡ start.row.column → o.lines ≡ start.lines → KeepsHeader (held_of start false) (held_of o false) → length rest < length piece
    → HandsOut (held_of start false) (held_of n false) piece epoch rest
hands-out start o n piece rest epoch e r all same_column same_lines keeps shorter =
    let amid : Open = r.0 in
    let h : HandsBody o amid epoch = r.1 in
    let k : KeepsRow amid n = r.2 in
    let header : n.header.items ≡ o.header.items = ap (λ v. v.items) (k.header ∙ h.header) in
    let column : n.row.column ≡ o.row.column = k.column ∙ ap (λ w. w.column) h.row in
    let b = begun-bytes o amid n epoch h k in
    let whole_lines : n.lines ≡ plus o.lines (lines o.body.items) = k.lines ∙ h.lines in
    let one : AreOne (cell_in o) (cells o.row.column o.body.items) = whole-one o.row.column (cell_in o) o.body.items e.whole r.3 in
    record {
      goes_on = (column ∙ same_column, refl, refl);
      shorter = shorter;
      has_header = k.stage ∙ (h.stage ∙ e.stage);
      header = λ has. (k.stage ∙ (h.stage ∙ e.stage), header ∙ (keeps has).1);
      is_header = rw (column, header) e.head;
      body = o.body.items;
      all = rw (header, b.1) (all ∙ parts o.header.items o.body.items o.tail.items rest);
      is_epoch = rw (column, header, ← same_lines)
          (epoch-of o.row.column o.lines o.header.items o.body.items (cell_in o) Record epoch h.text h.cell
          (whole-ends o.row.column (cell_in o) o.body.items e.whole) refl one h.header_lines h.first_line);
      ends = whole-ends o.row.column (cell_in o) o.body.items e.whole;
      next = row_cell o.row;
      next_ends = rw b.1 e.ends;
      next_is = rw (column, b.1) e.row;
      differs = rw h.cell (differs-of (cell_in o) (row_cell o.row) r.4);
      before = rw (← same_lines) whole_lines;
    }

-- a row that is put to the records stays where it was
pub keeps-text : (o n : Open) → KeepsRow o n → text_in n ≡ text_in o
keeps-text o n k =
    let header : n.header.items ≡ o.header.items = ap (λ v. v.items) k.header in
    rw (header, k.body, k.tail) (ap (λ (t : List ℕ). o.header.items ++ t) (append-nil (o.body.items ++ o.tail.items)))
