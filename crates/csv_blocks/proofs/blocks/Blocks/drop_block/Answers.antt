use Rattle.std.proofs.Common.{◌∙◌, List, ℕ, ap, drop, refl}
use Rattle.csv_blocks.proofs.Holding.{at-dropped, many-dropped, only-feed}
use Rattle.csv_blocks.proofs.blocks.Blocks.drop_block.Goals as goal

pub returns-clause-dropped : goal.returns-clause-dropped
returns-clause-dropped c =
    λ done text at.
    at-dropped done text c.args.self.now _ at (ap (λ (xs : List ℕ). drop 1 xs) c.truncate.ensures.items ∙ only-feed c.args.self.now.block.items) refl refl c.in-Some.ensures.some

pub returns-in_default-clause-stuck : goal.returns-in_default-clause-stuck
returns-in_default-clause-stuck c = λ done text at. many-dropped done text c.args.self.now at c.in_default.ensures.none
