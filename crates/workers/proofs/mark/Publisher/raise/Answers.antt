use Rattle.std.proofs.Common.{sym, arith}
use Rattle.workers.proofs.Moves.{raises}
use Rattle.workers.proofs.mark.Publisher.raise.Goals as goal

pub fetch_max-found-requires : goal.fetch_max-found-requires
fetch_max-found-requires c =
    rw c.deref-table.ensures (
      sym c.self.invariant.1,
      omega (arith, c.self.invariant.2),
      raises _ _ _ c.self.inside.published c.args.count c.self.invariant.0,
    )
