-- Why a table's text has no lines.
use Rattle.std.proofs.Common.{◌≡◌, ◌⊎◌, ◌++◌, ◌∙◌, ℕ, ℤ, List, [], ◌∷◌, Option, None, ap, inl, inr}
use Rattle.std.specs.Prelude.{Result, Ok, Err, IfErr, IfOk, OnOk}
use Rattle.csv_cells.specs.Cells.{IsRefusedRow, Spells}
use Rattle.csv_cells.specs.Encoded.{SpellsAll}
use Rattle.csv_cells.specs.Texts.{Grows}
use Rattle.csv_cells.specs.declared.column.Column.{Column}
use Rattle.csv_cells.specs.declared.row.RowFault.{RowFault}
use Rattle.csv_cells.specs.declared.row.RowFault.TheVariants as row
use Rattle.csv_cells.proofs.Rows.{grown-twice, spells-kept}
use Rattle.schema.specs.declared.tables.Epochs.{Epochs}
use Rattle.schema.specs.declared.tables.Epochs.TheVariants.{By}
use Rattle.tables.specs.Blocks.{NeedsNoReason, Stops}
use Rattle.tables.specs.Tables.{AreInOrder, AreRefused, BeginsWith, IsRefusedHeader, fault_of_row}
use Rattle.csv_answers.specs.declared.refusal.Fault.TheVariants as fault
use Rattle.tables.specs.declared.refusal.RecordFault.{RecordFault}
use Rattle.tables.specs.declared.refusal.RecordFault.TheVariants.{NoMemory, Stopped, Fault as InRecord}

-- what a call says of its success
pub at-ok : {P T E : Type 0} {x : T} (r : Result T E) → r ≡ Ok x → OnOk r P → P
at-ok (Ok x) e h = h
at-ok (Err x) e h = cc e

-- the same in other words
pub ok-else : {T E : Type 0} (r : Result T E) (p q : T → Type 0) → ((x : T) → p x → q x) → IfOk r p → IfOk r q
ok-else (Ok x) p q turn h = turn x h
ok-else (Err e) p q turn h = h

pub err-else : {T E : Type 0} (r : Result T E) (p q : E → Type 0) → ((e : E) → p e → q e) → IfErr r p → IfErr r q
err-else (Ok x) p q turn h = h
err-else (Err e) p q turn h = turn e h

pub ok-both : {P T E : Type 0} (r : Result T E) (p q : T → Type 0) → ((t : T) → P → p t → q t) → OnOk r P → IfOk r p → IfOk r q
ok-both (Ok t) p q turn h k = turn t h k
ok-both (Err e) p q turn h k = k

pub err-both : {T E : Type 0} (r : Result T E) (p q s : E → Type 0) → ((e : E) → p e → q e → s e) → IfErr r p → IfErr r q → IfErr r s
err-both (Ok t) p q s turn h k = k
err-both (Err e) p q s turn h k = turn e h k

-- rows that are spelled stay so as the dictionary grows
pub all-kept : (columns : List Column) (old more : List (List ℕ)) (rows : List (List (List ℕ))) (numbers : List (List ℤ)) → SpellsAll columns old rows numbers → SpellsAll columns (old ++ more) rows numbers
unfolding SpellsAll
all-kept columns old more [] [] h = tt
all-kept columns old more [] (n ∷ numbers) h = absurd h
all-kept columns old more (r ∷ rows) [] h = absurd h
all-kept columns old more (r ∷ rows) (n ∷ numbers) h = (spells-kept columns old more r n h.0, all-kept columns old more rows numbers h.1)

-- by the header row
pub header-refused : (names : List (List ℕ)) (columns : List Column) (epochs : Epochs) (source : List ℕ) (texts : List (List ℕ)) (f : RecordFault)
    → IsRefusedHeader names source f → AreRefused names columns epochs source texts f
header-refused names columns epochs source texts (InRecord f) h = inl h
header-refused names columns epochs source texts NoMemory h = tt
header-refused names columns epochs source texts Stopped h = tt

-- by a record that has no numbers
row-stopped : (columns : List Column) (epochs : Epochs) (texts : List (List ℕ)) (last : Option ℤ) (reads : List (List (List ℕ)) → Type 0) (rows : List (List (List ℕ))) (numbers : List (List ℤ)) (cells : List (List ℕ))
    → reads (rows ++ cells ∷ []) → SpellsAll columns texts rows numbers → AreInOrder epochs last numbers
    → (f : RowFault) → IsRefusedRow columns texts cells f → Stops columns epochs texts last reads (fault_of_row f)
row-stopped columns epochs texts last reads rows numbers cells read spelled ordered row.Length why =
    (record { rows = rows; numbers = numbers; cells = cells; spelled = spelled; ordered = ordered; why = why }, read)
row-stopped columns epochs texts last reads rows numbers cells read spelled ordered (row.Cell i) why =
    (record { rows = rows; numbers = numbers; cells = cells; spelled = spelled; ordered = ordered; why = why }, read)
row-stopped columns epochs texts last reads rows numbers cells read spelled ordered row.NoMemory why = tt

-- the same, as the dictionary grew
pub row-stops : (columns : List Column) (epochs : Epochs) (old new : List (List ℕ)) (last : Option ℤ) (reads : List (List (List ℕ)) → Type 0) (rows : List (List (List ℕ))) (numbers : List (List ℤ)) (cells : List (List ℕ))
    → reads (rows ++ cells ∷ []) → SpellsAll columns old rows numbers → AreInOrder epochs last numbers
    → (f : RowFault) (r : RecordFault) → r ≡ fault_of_row f → IsRefusedRow columns new cells f → (f ≡ row.NoMemory) ⊎ Grows old new → Stops columns epochs new last reads r
row-stops columns epochs old new last reads rows numbers cells read spelled ordered f r is why (inl lack) = let none : r ≡ NoMemory = is ∙ ap fault_of_row lack in rw none tt
row-stops columns epochs old new last reads rows numbers cells read spelled ordered f r is why (inr grows) =
    let all : SpellsAll columns new rows numbers = rw grows.1 (all-kept columns old grows.0 rows numbers spelled) in
    rw is (row-stopped columns epochs new last reads rows numbers cells read all ordered f why)

-- by one that is late
pub late-stops : (columns : List Column) (epochs : Epochs) (texts : List (List ℕ)) (last : Option ℤ) (reads : List (List (List ℕ)) → Type 0) (rows : List (List (List ℕ))) (numbers : List (List ℤ)) (cells : List (List ℕ))
    → reads (rows ++ cells ∷ []) → SpellsAll columns texts rows numbers → AreInOrder epochs last numbers
    → (i : ℕ) (zs : List ℤ) → epochs ≡ By i → Spells columns texts cells zs → (AreInOrder epochs last (numbers ++ zs ∷ []) → ⊥)
    → Stops columns epochs texts last reads (InRecord (fault.Order i))
late-stops columns epochs texts last reads rows numbers cells read spelled ordered i zs by says late =
    (record { rows = rows; numbers = numbers; cells = cells; spelled = spelled; ordered = ordered; why = (by, zs, says, late) }, read)

-- by what takes the lines, or for lack of memory
pub unexplained : (columns : List Column) (epochs : Epochs) (texts : List (List ℕ)) (last : Option ℤ) (reads : List (List (List ℕ)) → Type 0) (r : RecordFault) → NeedsNoReason r → Stops columns epochs texts last reads r
unexplained columns epochs texts last reads (InRecord f) none = absurd none
unexplained columns epochs texts last reads NoMemory none = tt
unexplained columns epochs texts last reads Stopped none = tt

-- a row's fault, where the dictionary may not have grown
pub row-kept : (old between new : List (List ℕ)) (f : RowFault) (r : RecordFault) → r ≡ fault_of_row f → Grows old between → (f ≡ row.NoMemory) ⊎ Grows between new → NeedsNoReason r ⊎ Grows old new
row-kept old between new f r is grown (inl lack) = let none : r ≡ NoMemory = is ∙ ap fault_of_row lack in inl (rw none tt)
row-kept old between new f r is grown (inr grows) = inr (grown-twice old between new grown grows)

-- a record that stops those behind a header row
stopped-under : (names : List (List ℕ)) (columns : List Column) (epochs : Epochs) (source : List ℕ) (texts : List (List ℕ)) (f : RecordFault)
    → Stops columns epochs texts None (λ rows. BeginsWith source (names ∷ rows)) f → AreRefused names columns epochs source texts f
stopped-under names columns epochs source texts (InRecord f) (s, read) =
    inr (record { rows = s.rows; numbers = s.numbers; cells = s.cells; read = read; spelled = s.spelled; ordered = s.ordered; why = s.why })
stopped-under names columns epochs source texts NoMemory h = tt
stopped-under names columns epochs source texts Stopped h = tt

-- records that stop are read so, or so
pub reads-else : (columns : List Column) (epochs : Epochs) (texts : List (List ℕ)) (last : Option ℤ) (p q : List (List (List ℕ)) → Type 0) (f : RecordFault)
    → ((rows : List (List (List ℕ))) → p rows → q rows) → Stops columns epochs texts last p f → Stops columns epochs texts last q f
reads-else columns epochs texts last p q (InRecord f) turn (s, read) = (s, turn (s.rows ++ s.cells ∷ []) read)
reads-else columns epochs texts last p q NoMemory turn h = tt
reads-else columns epochs texts last p q Stopped turn h = tt

pub rows-refused : (names : List (List ℕ)) (columns : List Column) (epochs : Epochs) (source : List ℕ) (texts : List (List ℕ)) (p : List (List (List ℕ)) → Type 0) (f : RecordFault)
    → ((rows : List (List (List ℕ))) → p rows → BeginsWith source (names ∷ rows)) → Stops columns epochs texts None p f → AreRefused names columns epochs source texts f
rows-refused names columns epochs source texts p f turn h =
    stopped-under names columns epochs source texts f (reads-else columns epochs texts None p (λ rows. BeginsWith source (names ∷ rows)) f turn h)
