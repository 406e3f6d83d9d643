-- What epochs show once they are read.
use Rattle.std.specs.Prelude.{ℕ, ℤ, List, [], slice_index_or}
use Rattle.collector.specs.declared.epochs.Epochs.{Epochs}

-- how many there are
abbrev pub epoch_count : Epochs → ℕ
epoch_count e = e.count

-- the records of an input in an epoch; none if there is no such input or epoch
abbrev pub records_at : Epochs → ℕ → ℕ → List (List ℤ)
records_at e epoch input = slice_index_or (slice_index_or e.tracks.items input []) epoch []
