-- A list of batches as it is kept.
use Rattle.std.specs.Prelude.{List, [], ◌∷◌}
use Rattle.semantics.specs.Multiset.{Record}
use Rattle.board.specs.declared.epochs.Listed.{Listed}
use Rattle.board.specs.declared.epochs.Listed.TheVariants.{One, Many}

-- the batches, in order
abbrev pub batches_in : Listed → List (List Record)
batches_in (One batch) = batch ∷ []
batches_in (Many batches) = batches.items
