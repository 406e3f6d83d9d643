use Rattle.std.proofs.Common.{sym, ap, ◌∙◌, arith}
use Rattle.workers.specs.Tokens.{Token}
use Rattle.workers.proofs.Moves.{reads}
use Rattle.workers.proofs.mark.Mark.observe.Goals as goal

pub load-requires : goal.load-requires
load-requires c =
    rw c.deref-table.ensures (
      ap (λ (t : Token). t.table) c.seat.view_is ∙ (c.requires ∙ sym c.self.view_is),
      omega (arith, c.self.invariant.0),
      reads _ _ _ c.seat.inside.seat.me.0.read c.seat.invariant,
    )
