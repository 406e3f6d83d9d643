-- What epochs hold while they are read.
use Rattle.std.specs.Prelude.{◌≡◌, ℕ, ℤ, List, [], slice_index_or}
use Rattle.semantics.specs.Multiset.{◌≈◌}
use Rattle.collector.specs.ReadEpochs.{records_at}
use Rattle.collector.specs.declared.draft.Draft.{Draft}
use Rattle.collector.specs.declared.epochs.Epochs.{Epochs}

-- how many there are
abbrev pub draft_count : Draft → ℕ
draft_count e = e.count

-- the records of an input in an epoch; none if there is no such input or epoch
abbrev pub draft_records : Draft → ℕ → ℕ → List (List ℤ)
draft_records e epoch input = slice_index_or (slice_index_or e.tracks.items input []) epoch []

-- nothing is lost or gained; the records of an epoch may be in another order
pub record IsKept (d : Draft) (e : Epochs) : Type 0 where
  pub count : e.count ≡ d.count
  pub records : (epoch input : ℕ) → records_at e epoch input ≈ draft_records d epoch input
