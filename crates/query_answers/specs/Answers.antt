-- What a query answers.
use Rattle.std.specs.Prelude.{◌<◌, ℕ, List, length}
use Rattle.semantics.specs.Multiset.{Record, ◌≈◌}
use Rattle.semantics.specs.Query.{Program}
use Rattle.semantics.specs.Meaning.{program_meaning}
use Rattle.collector.specs.OutputText.{IsTextFrom}
use Rattle.compile.specs.Queries.{output_names}

-- the text has, for each of that many epochs and each output, the multiset that the program means there on the records of its inputs
pub record IsAnswer (p : Program) (count : ℕ) (records : ℕ → ℕ → List Record) (text : List ℕ) : Type 0 where
  pub emitted : (output epoch : ℕ) → List Record
  pub meant : (output epoch : ℕ) → output < length p.outputs → epoch < count → emitted output epoch ≈ program_meaning p output (records epoch)
  pub is_text : IsTextFrom (output_names p) emitted 0 count text
