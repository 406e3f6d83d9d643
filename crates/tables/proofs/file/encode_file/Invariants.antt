use Rattle.std.proofs.Common.{◌≡◌, ◌++◌, List, ℕ}
use Rattle.std.specs.Io.KnownBytes.{Consumes}
use Rattle.collector.specs.Watching.{handed, inner_of}
use Rattle.csv_blocks.specs.Blocks.{IsAt, block_of}
use Rattle.csv_blocks.specs.Texts.{AreWhole}
use Rattle.csv_cells.specs.Texts.{Grows, texts_of}
use Rattle.tables.specs.Blocks.{HaveGone}
use Rattle.tables.proofs.file.encode_file.Given as goal

abbrev pub invariant-loop-block : goal.invariant-loop-block
invariant-loop-block g l = record {
  epochs : l.target.epochs ≡ l.table.epochs;
  named : l.target.name.now ≡ l.table.name.items;
  joined : l.target.shared.now ≡ l.shared;
  done : List ℕ;
  is_at : IsAt done l.blocks (handed l.source);
  whole : AreWhole (done ++ block_of l.blocks);
  lines : List ℕ;
  gone : HaveGone l.table l.target (texts_of l.dictionary) l.progress (done ++ block_of l.blocks) lines;
  took : (first : g.row.O.Denot) (taken : List ℕ) → g.O.LineSink.took first l.fn.out taken → g.O.LineSink.took first l.out (taken ++ lines);
  stays : (first : g.row.O.Denot) → g.O.LineSink.stays first l.fn.out → g.O.LineSink.stays first l.out;
  grown : Grows (texts_of l.fn.dictionary) (texts_of l.dictionary);
  consumed : Consumes (g.R.Read.remaining l.fn.file) (g.R.Read.remaining (inner_of l.source)) (handed l.source);
}
