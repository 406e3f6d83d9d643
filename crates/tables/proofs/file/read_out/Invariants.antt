use Rattle.std.proofs.Common.{◌≡◌, ◌++◌, [], List, Option, true, ℕ}
use Rattle.std.specs.Io.KnownBytes.{Consumes, IsAtEnd}
use Rattle.collector.specs.Watching.{handed, inner_of}
use Rattle.csv_blocks.specs.Blocks.{IsFilled, block_of}
use Rattle.tables.proofs.file.read_out.Given as goal

abbrev pub invariant-loop-block : goal.invariant-loop-block
invariant-loop-block g l = record {
  filled : (done : List ℕ) → IsFilled l.last done l.fn.blocks (handed l.fn.source) → (front tail : List ℕ) × IsFilled l.ended front l.blocks (handed l.source)
      × (front ++ block_of l.blocks ≡ (done ++ block_of l.fn.blocks) ++ tail) × (l.last ≡ true → tail ≡ []);
  stays : l.last ≡ true → l.ended ≡ true;
  ends : (l.last ≡ true → IsAtEnd (g.R.Read.remaining (inner_of l.fn.source))) → l.ended ≡ true → IsAtEnd (g.R.Read.remaining (inner_of l.source));
  consumed : (start : Option (List ℕ)) → Consumes start (g.R.Read.remaining (inner_of l.fn.source)) (handed l.fn.source)
      → Consumes start (g.R.Read.remaining (inner_of l.source)) (handed l.source);
}
