-- How epochs grow, line by line.
use Rattle.std.specs.Prelude.{◌≡◌, ◌<◌, ◌+◌, ℕ, ℤ, List, [], ◌∷◌, ◌++◌, length, ◌==◌, ◌&&◌, if◌then◌else◌, slice_index_or}
use Rattle.record_core.specs.Records.{IsRecord}
use Rattle.collector.specs.Lines.{Item, max_epochs}
use Rattle.collector.specs.declared.draft.Draft.{Draft}
use Rattle.collector.specs.Drafts.{draft_count, draft_records}

-- every input has as many epochs as there are
abbrev pub IsEven : Draft → Type 0
IsEven e = (i : ℕ) → i < length e.tracks.items → length (slice_index_or e.tracks.items i []) ≡ e.count

-- no epoch has begun
pub record HasNone (e : Draft) : Type 0 where
  pub count : draft_count e ≡ 0
  pub records : (epoch input : ℕ) → draft_records e epoch input ≡ []
  pub even : IsEven e

-- one more epoch has begun
pub record Begins (e f : Draft) : Type 0 where
  pub count : draft_count f ≡ draft_count e + 1
  pub inputs : length f.tracks.items ≡ length e.tracks.items
  pub records : (epoch input : ℕ) → draft_records f epoch input ≡ draft_records e epoch input
  pub even : IsEven f

-- an input has gained a record in the last epoch
pub record Gains (e f : Draft) (input : ℕ) (row : List ℤ) : Type 0 where
  pub count : draft_count f ≡ draft_count e
  pub inputs : length f.tracks.items ≡ length e.tracks.items
  pub records : (epoch i : ℕ)
      → draft_records f epoch i ≡ (if (i == input) && (epoch + 1 == draft_count e) then draft_records e epoch i ++ row ∷ [] else draft_records e epoch i)
  pub even : IsEven f

-- the epochs can take what a line says
abbrev pub CanTake : Draft → Item → Type 0
CanTake e Item.epoch = draft_count e < max_epochs
CanTake e (Item.row i zs) = (0 < draft_count e) × (i < length e.tracks.items) × IsRecord zs

-- the epochs have taken what a line says
abbrev pub Takes : Draft → Draft → Item → Type 0
Takes e f Item.epoch = Begins e f
Takes e f (Item.row i zs) = Gains e f i zs
