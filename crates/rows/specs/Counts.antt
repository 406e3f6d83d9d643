-- Records with repeats, as different rows with counts.
use Rattle.std.specs.Prelude.{◌≡◌, ℕ, zero, suc, ◌*◌, ◌≤◌, ◌<◌, Bool, true, cond, List, [], ◌∷◌, ◌++◌, map, length, min, slice_index_or, Option, Some, None}
use Rattle.semantics.specs.Multiset.{Record, same, count}
use Rattle.rows.specs.FlatRows.{arity_of}
use Rattle.rows.specs.Indexes.{AreDifferent}

-- the greatest count
abbrev pub most : ℕ
most = 9223372036854775807

-- a row, that many times
pub record Run : Type 0 where
  pub row : Record
  pub count : ℕ

-- a row n times
abbrev pub repeated : ℕ → Record → List Record
repeated zero r = []
repeated (suc n) r = r ∷ repeated n r

-- the records of runs
abbrev pub expanded : List Run → List Record
expanded [] = []
expanded (c ∷ cs) = repeated c.count c.row ++ expanded cs

-- one record before runs
abbrev pub before_runs : Record → List Run → List Run
before_runs x [] = record { row = x; count = 1 } ∷ []
before_runs x (c ∷ cs) = cond (same x c.row) (record { row = c.row; count = suc c.count } ∷ cs) (record { row = x; count = 1 } ∷ c ∷ cs)

-- equal records side by side, taken together
abbrev pub runs : List Record → List Run
runs [] = []
runs (x ∷ xs) = before_runs x (runs xs)

-- the run beyond the last
abbrev pub no_run : Run
no_run = record { row = []; count = 1 }

-- the rows
abbrev pub rows_of : List Run → List Record
rows_of cs = map (λ (c : Run). c.row) cs

-- rows with counts; a row beyond the counts occurs once
abbrev pub with_counts : List Record → List ℕ → List Run
with_counts [] ns = []
with_counts (r ∷ rs) [] = record { row = r; count = 1 } ∷ with_counts rs []
with_counts (r ∷ rs) (n ∷ ns) = record { row = r; count = n } ∷ with_counts rs ns

-- numbers that may be counts
abbrev pub AreCounts : List ℕ → Type 0
AreCounts ns = (k : ℕ) → (1 ≤ slice_index_or ns k 1) × (slice_index_or ns k 1 ≤ most)

-- the same of runs
abbrev pub AreRunCounts : List Run → Type 0
AreRunCounts cs = (k : ℕ) → (1 ≤ (slice_index_or cs k no_run).count) × ((slice_index_or cs k no_run).count ≤ most)

-- different rows, whose counts are counts
pub record AreRuns (cs : List Run) : Type 0 where
  pub different : AreDifferent (rows_of cs)
  pub counts : AreRunCounts cs

-- rows of `arity` numbers, with counts
pub record RunList : Type 0 where
  pub arity : ℕ
  pub runs : List Run

-- the runs of a batch, one or more, and its weight: how many records they are, or the greatest usize if they are more
abbrev pub IsWeighedBatch : RunList → (weight : ℕ) → Type 0
IsWeighedBatch rows weight =
    (0 < length rows.runs) × AreRuns rows.runs × (arity_of (expanded rows.runs) ≡ rows.arity)
    × (weight ≡ min (length (expanded rows.runs)) 18446744073709551615)

-- no record occurs more often than a count may be
abbrev pub AllFit : List Record → Type 0
AllFit xs = (r : Record) → count r xs ≤ most

-- some record occurs more often
abbrev pub IsOver : List Record → Type 0
IsOver xs = (r : Record) × (most < count r xs)

-- the records of a batch, if there is one
abbrev pub records_in : Option (List Record) → List Record
records_in None = []
records_in (Some b) = b

-- a row behind an item that occurs n times
abbrev pub behind : Record → ℕ → Run → Run
behind item n c = record { row = item ++ c.row; count = n * c.count }

-- a row before an item that occurs n times
abbrev pub in_front : Record → ℕ → Run → Run
in_front item n c = record { row = c.row ++ item; count = n * c.count }

-- a row with something before and after it, which occurs n times
abbrev pub around : Record → Record → ℕ → Run → Run
around before after n c = record { row = (before ++ c.row) ++ after; count = n * c.count }

-- what f makes of the runs below k that pass, newest first
abbrev pub newest_runs : (Run → Bool) → (Run → Run) → List Run → ℕ → List Run
newest_runs p f cs zero = []
newest_runs p f cs (suc k) = cond (p (slice_index_or cs k no_run)) (f (slice_index_or cs k no_run) ∷ newest_runs p f cs k) (newest_runs p f cs k)

-- a run that agrees with an item that occurs n times, and with it occurs too often
abbrev pub MeetsOver : (Run → Bool) → ℕ → List Run → Type 0
MeetsOver p n cs = (k : ℕ) × (k < length cs) × (p (slice_index_or cs k no_run) ≡ true) × (most < n * (slice_index_or cs k no_run).count)
