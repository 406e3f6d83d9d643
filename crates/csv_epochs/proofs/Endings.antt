-- The end of a text.
use Rattle.std.proofs.Common.{◌≡◌, ◌++◌, ◌∙◌, ◌+◌, ◌<◌, ℕ, List, [], ◌∷◌, true, false, Option, Some, None, refl, sym, ap, arith, length, length-append, inl, inr, subst}
use Rattle.std.proofs.lemmas.List.{append-nil}
use Rattle.csv.specs.Reading.{strip_bom}
use Rattle.csv_strict.specs.Strict.{IsStrict, ends_text, run}
use Rattle.csv_strict.specs.declared.state.State.TheVariants.{Record}
use Rattle.csv_epochs.specs.Cells.{after, cells, cells_of}
use Rattle.csv_epochs.specs.Epochs.{AreEpochs, AreOne, Differs, EndsRecord, IsEpoch, cell_of, lines, plus}
use Rattle.csv_epochs.specs.Opened.{EndsBody, EndsRow, EndsTail, HandsBody, HasHeader, IsAmid, IsBegun, IsKept, KeepsRow, bytes_in, cell_in, listed, text_in}
use Rattle.csv_epochs.specs.Rows.{reading_of, row_cell}
use Rattle.csv_epochs.specs.declared.epoch.Epoch.{Epoch}
use Rattle.csv_epochs.specs.declared.open.Open.{Open}
use Rattle.csv_epochs.proofs.Grouping.{begun-bytes, differs-of, epoch-of, joined-one, joined-run, one-alone, whole-one}
use Rattle.csv_epochs.proofs.Readings.{cells-amid, no-byte}
use Rattle.csv_epochs.proofs.Taking.{run-amid, state-behind, whole-ends}

differs-none : (cell : Option (List ℕ)) → Differs cell []
differs-none None = tt
differs-none (Some cell) = tt

-- no byte, no record
pub no-cells : (column : ℕ) → cells column [] ≡ []
no-cells column = ap cells_of (no-byte column (Some (after column [])))

-- one epoch is the last
single : (column before : ℕ) (header body : List ℕ) (epoch : Epoch) → IsEpoch column header before body epoch → AreEpochs column header before body (epoch ∷ [])
single column before header body epoch e =
    (body, [], sym (append-nil body), e, inr refl, subst (λ (c : List (Option (List ℕ))). Differs (cell_of epoch) c) (sym (no-cells column)) (differs-none (cell_of epoch)), refl)

-- an epoch, and then the last one
double : (column before : ℕ) (header body tail : List ℕ) (first last : Epoch) → IsEpoch column header before body first → EndsRecord body
    → Differs (cell_of first) (cells column tail) → IsEpoch column header (plus before (lines body)) tail last
    → AreEpochs column header before (body ++ tail) (first ∷ last ∷ [])
double column before header body tail first last one ends differs two =
    (body, tail, refl, one, inl ends, differs, single column (plus before (lines body)) header tail last two)

-- no record has begun
last-begun : (o m n : Open) (first last : Option Epoch) → IsBegun o → EndsTail o m first → EndsBody m n last
    → AreEpochs o.row.column o.header.items o.lines (bytes_in o) (listed first last)
last-begun o m n first None b (inl t) body = rw (t.2, b.body, b.tail) refl
last-begun o m n first (Some last) b (inl t) body =
    let same : m.body.items ≡ [] = ap (λ (w : Open). w.body.items) t.1 ∙ b.body in
    let none : length m.body.items ≡ 0 = ap length same in
    absurd (omega (arith, body.0, none))
last-begun o m n first last b (inr t) body = let none : length o.tail.items ≡ 0 = ap length b.tail in absurd (omega (arith, t.0, none))

-- the last record has a line feed
last-whole : (o n : Open) (last : Option Epoch) → IsAmid o → o.tail.items ≡ [] → EndsBody o n last
    → AreEpochs o.row.column o.header.items o.lines (bytes_in o) (listed None last)
last-whole o n None a tail body = rw (body.0, tail) refl
last-whole o n (Some last) a tail body =
    let h : HandsBody o n last = body.1 in
    let bytes : bytes_in o ≡ o.body.items = rw tail (append-nil o.body.items) in
    rw bytes (single o.row.column o.lines o.header.items o.body.items last
    (epoch-of o.row.column o.lines o.header.items o.body.items (cell_in o) Record last h.text h.cell
    (whole-ends o.row.column (cell_in o) o.body.items a.whole) refl (whole-one o.row.column (cell_in o) o.body.items a.whole body.0) h.header_lines h.first_line))

-- the last record has none, and is of the open epoch
last-joined : (o m n : Open) (last : Option Epoch) → IsAmid o → ends_text o.row.state ≡ true → 0 < length o.tail.items → EndsRow o m None → EndsBody m n last
    → AreEpochs o.row.column o.header.items o.lines (bytes_in o) (listed None last)
last-joined o m n None a ends some r body =
    let k = r.0 in
    let none : length m.body.items ≡ 0 = ap length body.0 in
    let all : length m.body.items ≡ length (o.body.items ++ o.tail.items) = ap length k.body in
    absurd (omega (arith, none, all, length-append o.body.items o.tail.items))
last-joined o m n (Some last) a ends some r body =
    let k = r.0 in
    let h : HandsBody m n last = body.1 in
    let column = o.row.column in
    let state : run (Some Record) o.tail.items ≡ Some o.row.state = state-behind column o.tail.items (reading_of o.row) a.row in
    let cell : cells column o.tail.items ≡ row_cell o.row ∷ [] = cells-amid column o.tail.items o.row.state o.row.place o.row.cell.items some a.row in
    let one : AreOne (cell_in m) (cells column (o.body.items ++ o.tail.items)) =
    joined-one column o.body.items o.tail.items (cell_in o) (cell_in m) (row_cell o.row) o.row.state a.whole state cell k.first k.later r.1 in
    let header : m.header.items ≡ o.header.items = ap (λ v. v.items) k.header in
    let text : last.text.items ≡ o.header.items ++ (o.body.items ++ o.tail.items) = h.text ∙ (rw (header, k.body) refl) in
    let header_lines : last.header_lines ≡ lines o.header.items = h.header_lines ∙ ap lines header in
    let first_line : last.first_line ≡ plus o.lines (lines o.header.items + 1) = h.first_line ∙ (rw (header, k.lines) refl) in
    single column o.lines o.header.items (bytes_in o) last
    (epoch-of column o.lines o.header.items (o.body.items ++ o.tail.items) (cell_in m) o.row.state last text h.cell
    (joined-run column (cell_in o) o.body.items o.tail.items o.row.state a.whole state) ends one header_lines first_line)

-- the last record has none, and is of another epoch
last-other : (o m n : Open) (first : Epoch) (last : Option Epoch) → IsAmid o → ends_text o.row.state ≡ true → 0 < length o.tail.items → EndsRow o m (Some first)
    → EndsBody m n last → AreEpochs o.row.column o.header.items o.lines (bytes_in o) (listed (Some first) last)
last-other o m n first None a ends some r body =
    let amid : Open = r.0 in
    let b = begun-bytes o amid m first r.1 r.2 in
    let none : length o.tail.items ≡ 0 = ap length (sym b.0 ∙ body.0) in
    absurd (omega (arith, none, some))
last-other o m n first (Some last) a ends some r body =
    let amid : Open = r.0 in
    let h : HandsBody o amid first = r.1 in
    let k : KeepsRow amid m = r.2 in
    let g : HandsBody m n last = body.1 in
    let column = o.row.column in
    let b = begun-bytes o amid m first h k in
    let state : run (Some Record) o.tail.items ≡ Some o.row.state = state-behind column o.tail.items (reading_of o.row) a.row in
    let cell : cells column o.tail.items ≡ row_cell o.row ∷ [] = cells-amid column o.tail.items o.row.state o.row.place o.row.cell.items some a.row in
    let header : m.header.items ≡ o.header.items = ap (λ v. v.items) (k.header ∙ h.header) in
    let begins : cell_in m ≡ row_cell o.row = k.first h.body ∙ ap row_cell h.row in
    let counted : m.lines ≡ plus o.lines (lines o.body.items) = k.lines ∙ h.lines in
    let one : AreOne (row_cell o.row) (cells column o.tail.items) = rw cell (one-alone (row_cell o.row)) in
    let text : last.text.items ≡ o.header.items ++ o.tail.items = g.text ∙ (rw (header, b.0) refl) in
    let header_lines : last.header_lines ≡ lines o.header.items = g.header_lines ∙ ap lines header in
    let first_line : last.first_line ≡ plus (plus o.lines (lines o.body.items)) (lines o.header.items + 1) = g.first_line ∙ (rw (header, counted) refl) in
    let differs : Differs (cell_of first) (cells column o.tail.items) = rw (cell, h.cell) (differs-of (cell_in o) (row_cell o.row) r.4) in
    double column o.lines o.header.items o.body.items o.tail.items first last
    (epoch-of column o.lines o.header.items o.body.items (cell_in o) Record first h.text h.cell (whole-ends column (cell_in o) o.body.items a.whole) refl
    (whole-one column (cell_in o) o.body.items a.whole r.3) h.header_lines h.first_line)
    (whole-ends column (cell_in o) o.body.items a.whole) differs
    (epoch-of column (plus o.lines (lines o.body.items)) o.header.items o.tail.items (row_cell o.row) o.row.state last text (g.cell ∙ begins) state ends one header_lines first_line)

last-row : (o m n : Open) (first last : Option Epoch) → IsAmid o → ends_text o.row.state ≡ true → 0 < length o.tail.items → EndsRow o m first → EndsBody m n last
    → AreEpochs o.row.column o.header.items o.lines (bytes_in o) (listed first last)
last-row o m n None last a ends some r body = last-joined o m n last a ends some r body
last-row o m n (Some first) last a ends some r body = last-other o m n first last a ends some r body

-- the last epochs
pub last-epochs : (o m n : Open) (first last : Option Epoch) → IsKept o → ends_text o.row.state ≡ true → EndsTail o m first → EndsBody m n last
    → AreEpochs o.row.column o.header.items o.lines (bytes_in o) (listed first last)
last-epochs o m n first last (inl b) ends tail body = last-begun o m n first last b tail body
last-epochs o m n first last (inr a) ends (inl t) body =
    rw t.2 (last-whole o n last a t.0 (subst (λ (w : Open). EndsBody w n last) t.1 body))
last-epochs o m n first last (inr a) ends (inr t) body = last-row o m n first last a ends t.0 t.1 body

held-state : (o : Open) → IsKept o → run (Some Record) (strip_bom (text_in o ++ [])) ≡ Some o.row.state
unfolding run
held-state o (inl b) =
    let all : text_in o ++ [] ≡ o.header.items = append-nil (text_in o) ∙ (rw (b.body, b.tail) (append-nil o.header.items)) in
    ap (λ (t : List ℕ). run (Some Record) (strip_bom t)) all ∙ state-behind o.row.column (strip_bom o.header.items) (reading_of o.row) b.row
held-state o (inr a) = run-amid o [] a

-- what is held may be a whole text
pub held-strict : (o : Open) → IsKept o → ends_text o.row.state ≡ true → IsStrict (strip_bom (text_in o))
held-strict o k ends = (o.row.state, ap (λ (t : List ℕ). run (Some Record) (strip_bom t)) (sym (append-nil (text_in o))) ∙ held-state o k, ends)

pub has-header : (o : Open) → IsKept o → HasHeader o
has-header o (inl b) = inr (rw (b.body, b.tail) refl)
has-header o (inr a) = inl a.head

-- a text that may not end here isn't strict
pub not-strict : (o : Open) → IsKept o → ends_text o.row.state ≡ false → IsStrict (strip_bom (text_in o ++ [])) → ⊥
not-strict o k ends strict =
    let same : Some strict.0 ≡ Some o.row.state = sym strict.1 ∙ held-state o k in
    let state : strict.0 ≡ o.row.state = cc same in
    let both : true ≡ false = sym strict.2 ∙ (ap ends_text state ∙ ends) in
    cc both

-- nor is one that can't go on
pub stuck-not-strict : (text : List ℕ) → run (Some Record) text ≡ None → IsStrict text → ⊥
stuck-not-strict text stuck strict = let both : None ≡ Some strict.0 = sym stuck ∙ strict.1 in cc both
