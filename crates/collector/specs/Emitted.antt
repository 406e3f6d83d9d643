-- What the outputs emitted that are to be written.
use Rattle.std.specs.Prelude.{ℕ, ℤ, List, [], map, slice_index_or}
use Rattle.rows.specs.FlatRows.{joined}
use Rattle.collector.specs.declared.output.OutputEpochs.{OutputEpochs}

-- their names
abbrev pub names_of : List OutputEpochs → List (List ℕ)
names_of outputs = map (λ (o : OutputEpochs). o.name.now) outputs

-- the records of an output, by epoch
abbrev pub epochs_of : OutputEpochs → List (List (List ℤ))
epochs_of o = map (λ v. joined v.now) o.epochs.items

-- the records of an output in an epoch, by their places; none beyond the last
abbrev pub records_of : List OutputEpochs → (output epoch : ℕ) → List (List ℤ)
records_of outputs output epoch = slice_index_or (slice_index_or (map epochs_of outputs) output []) epoch []
