-- A text that a splitter takes, and the epochs that it has handed out.
use Rattle.std.specs.Prelude.{◌≡◌, ◌++◌, ◌⊎◌, ℕ, true, false, List, [], ◌∷◌}
use Rattle.csv_epochs.specs.Cells.{cells}
use Rattle.csv_epochs.specs.Epochs.{AreEpochs, Differs, EndsRecord, Held, IsEpoch, IsHeader, cell_of, lines, plus, text_of}
use Rattle.csv_epochs.specs.declared.epoch.Epoch.{Epoch}

-- the first epochs of bytes behind a header row and so many lines, and the bytes behind them after so many lines
unfoldable pub AreFirst : (column : ℕ) (header : List ℕ) (before : ℕ) (bytes : List ℕ) → List Epoch → (after : ℕ) (behind : List ℕ) → Type 0
AreFirst column header before bytes [] after behind = (after ≡ before) × (behind ≡ bytes)
AreFirst column header before bytes (epoch ∷ more) after behind =
    (body rest : List ℕ) × (bytes ≡ body ++ rest) × IsEpoch column header before body epoch × (EndsRecord body ⊎ (rest ≡ []))
    × Differs (cell_of epoch) (cells column rest) × AreFirst column header (plus before (lines body)) rest more after behind

-- the header row isn't whole
pub record IsInHeader (held : Held) (text left : List ℕ) (epochs : List Epoch) : Type 0 where
  pub has_header : held.has_header ≡ false
  pub none : epochs ≡ []
  pub all : text ≡ text_of held ++ left
  pub before : held.before ≡ 0

-- these are the first epochs behind the header row, whatever more comes
pub record IsBehind (held : Held) (text left : List ℕ) (epochs : List Epoch) : Type 0 where
  pub has_header : held.has_header ≡ true
  pub is_header : IsHeader held.column held.header ⊎ (epochs ≡ [])
  pub records : List ℕ
  pub all : text ≡ held.header ++ records
  pub first : (more : List ℕ) → AreFirst held.column held.header 0 (records ++ more) epochs held.before (held.bytes ++ (left ++ more))

-- of a text all was taken but what is left, and these epochs were handed out
abbrev pub IsTaken : Held → (text left : List ℕ) → List Epoch → Type 0
IsTaken held text left epochs = IsInHeader held text left epochs ⊎ IsBehind held text left epochs

-- the header row of a text, which is whole or has nothing behind it, and its epochs
pub record AreEpochsOf (column : ℕ) (text header : List ℕ) (epochs : List Epoch) : Type 0 where
  pub records : List ℕ
  pub cut : text ≡ header ++ records
  pub is_header : IsHeader column header ⊎ (records ≡ [])
  pub split : AreEpochs column header 0 records epochs

-- the header row of a text, which is whole if there is an epoch, and its first epochs
pub record AreFirstOf (column : ℕ) (text : List ℕ) (epochs : List Epoch) : Type 0 where
  pub header : List ℕ
  pub records : List ℕ
  pub cut : text ≡ header ++ records
  pub is_header : IsHeader column header ⊎ (epochs ≡ [])
  pub after : ℕ
  pub behind : List ℕ
  pub first : AreFirst column header 0 records epochs after behind
