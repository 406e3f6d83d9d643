-- Bytes that are taken behind what is held.
use Rattle.std.proofs.Common.{◌≡◌, ◌++◌, ◌∙◌, ℕ, List, [], ◌∷◌, true, false, Option, Some, refl, sym, ap, append_assoc, inl, inr}
use Rattle.csv.specs.Reading.{strip_bom}
use Rattle.csv_strict.specs.Strict.{run}
use Rattle.csv_strict.specs.declared.state.State.{State}
use Rattle.csv_strict.specs.declared.state.State.TheVariants.{Record}
use Rattle.csv_strict.proofs.Runs.{run-append}
use Rattle.csv_epochs.specs.Cells.{Reading, after, cells, cells_of, read, read_all}
use Rattle.csv_epochs.specs.Epochs.{EndsRecord, IsHeader}
use Rattle.csv_epochs.specs.Opened.{AreWhole, IsAmid, IsBegun, IsKept, IsStuckAt, cell_in, text_in}
use Rattle.csv_epochs.specs.Rows.{IsStuckRow, reading_of}
use Rattle.csv_epochs.specs.declared.open.Open.{Open}
use Rattle.csv_epochs.specs.declared.row.RowStop.{RowStop}
use Rattle.csv_epochs.specs.declared.row.RowStop.TheVariants.{NoMemory, Refused}
use Rattle.csv_epochs.proofs.Heads.{head-strip}
use Rattle.csv_epochs.proofs.Readings.{read-append, read-run, state_in}

-- more of a record
pub tail-more : (column : ℕ) (tail part : List ℕ) (r : Reading) (new : Option Reading) → read_all column tail ≡ Some r → read column (Some r) part ≡ new
    → read_all column (tail ++ part) ≡ new
tail-more column tail part r new e more = read-append column (Some (after column [])) tail part ∙ (ap (λ (o : Option Reading). read column o part) e ∙ more)

-- the state behind some bytes
pub state-behind : (column : ℕ) (bytes : List ℕ) (r : Reading) → read_all column bytes ≡ Some r → run (Some Record) bytes ≡ Some r.state
state-behind column bytes r e = sym (read-run column (Some (after column [])) bytes) ∙ ap state_in e

-- a record that has ended
pub tail-ends : (column : ℕ) (bytes : List ℕ) (cell : Option (List ℕ)) → read_all column bytes ≡ Some (after column (cell ∷ [])) → EndsRecord bytes
tail-ends column bytes cell e = state-behind column bytes (after column (cell ∷ [])) e

pub tail-cells : (column : ℕ) (bytes : List ℕ) (cell : Option (List ℕ)) → read_all column bytes ≡ Some (after column (cell ∷ [])) → cells column bytes ≡ cell ∷ []
tail-cells column bytes cell e = ap cells_of e

-- whole records end where a record begins
pub whole-ends : (column : ℕ) (cell : Option (List ℕ)) (body : List ℕ) → AreWhole column cell body → EndsRecord body
unfolding run
whole-ends column cell body (inl e) = rw e refl
whole-ends column cell body (inr w) = w.0

-- the state behind all that is held
pub run-behind : (column : ℕ) (header body tail piece : List ℕ) (s : State) → IsHeader column header → EndsRecord body → run (Some Record) tail ≡ Some s
    → run (Some Record) (strip_bom ((header ++ (body ++ tail)) ++ piece)) ≡ run (Some s) piece
run-behind column header body tail piece s head ends e =
    let parts : (header ++ (body ++ tail)) ++ piece ≡ header ++ (body ++ (tail ++ piece)) =
    append_assoc header (body ++ tail) piece ∙ ap (λ (xs : List ℕ). header ++ xs) (append_assoc body tail piece) in
    ap (λ (xs : List ℕ). run (Some Record) (strip_bom xs)) parts
    ∙ (ap (λ (xs : List ℕ). run (Some Record) xs) (head-strip column header (body ++ (tail ++ piece)) head)
    ∙ (run-append (Some Record) (strip_bom header) (body ++ (tail ++ piece))
    ∙ (ap (λ (o : Option State). run o (body ++ (tail ++ piece))) head.ends
    ∙ (run-append (Some Record) body (tail ++ piece)
    ∙ (ap (λ (o : Option State). run o (tail ++ piece)) ends
    ∙ (run-append (Some Record) tail piece
    ∙ ap (λ (o : Option State). run o piece) e))))))

-- behind the header row
pub amid : (o : Open) → IsKept o → o.has_header ≡ true → IsAmid o
amid o (inl begun) stage = let e : false ≡ true = sym begun.stage ∙ stage in cc e
amid o (inr a) stage = a

-- in it
pub begun : (o : Open) → IsKept o → o.has_header ≡ false → IsBegun o
begun o (inl b) stage = b
begun o (inr a) stage = let e : true ≡ false = sym a.stage ∙ stage in cc e

pub run-amid : (o : Open) (piece : List ℕ) → IsAmid o → run (Some Record) (strip_bom (text_in o ++ piece)) ≡ run (Some o.row.state) piece
run-amid o piece a =
    run-behind o.row.column o.header.items o.body.items o.tail.items piece o.row.state a.head (whole-ends o.row.column (cell_in o) o.body.items a.whole)
    (state-behind o.row.column o.tail.items (reading_of o.row) a.row)

-- a record that may not go on
pub row-stuck : (o n : Open) (piece : List ℕ) (stop : RowStop) → IsAmid o → IsStuckRow o.row piece stop → text_in n ≡ text_in o → n.lines ≡ o.lines
    → IsStuckAt o n piece stop
row-stuck o n piece NoMemory a stuck same lines = tt
row-stuck o n piece Refused a stuck same lines =
    (same, lines, run-amid o piece a ∙ (sym (read-run o.row.column (Some (reading_of o.row)) piece) ∙ ap state_in stuck))
