use Rattle.std.proofs.Common.{refl}
use Rattle.csv_blocks.proofs.Holding.{at-first}
use Rattle.csv_blocks.proofs.blocks.Blocks.new.Goals as goal

pub returns : goal.returns
returns c = at-first _ c.in_ok-from_slice.ensures.items c.new.ensures.items refl refl
