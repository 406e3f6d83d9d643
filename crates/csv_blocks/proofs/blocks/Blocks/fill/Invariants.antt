use Rattle.std.proofs.Common.{◌++◌, ◌-◌, ◌^◌, ℕ, List, Option}
use Rattle.std.specs.Io.KnownBytes.{Consumes}
use Rattle.collector.specs.Watching.{handed, inner_of}
use Rattle.csv_blocks.specs.Blocks.{IsAt, block_of}
use Rattle.csv_blocks.specs.Moves.{size_of}
use Rattle.csv_blocks.proofs.blocks.Blocks.fill.Given as goal

-- the text so far; what was handed over is what the reader lost
abbrev pub invariant-pieces : goal.invariant-pieces
invariant-pieces g l = record {
  is_at : (done : List ℕ) → IsAt done l.fn.self (handed l.fn.source) → IsAt (done ++ block_of l.fn.self) l.self (handed l.source);
  consumed :
      (start : Option (List ℕ)) → Consumes start (g.R.Read.remaining (inner_of l.fn.source)) (handed l.fn.source)
      → Consumes start (g.R.Read.remaining (inner_of l.source)) (handed l.source);
}

abbrev pub decreases-pieces : goal.decreases-pieces
decreases-pieces g l = 2 ^ 65 - size_of l.self
