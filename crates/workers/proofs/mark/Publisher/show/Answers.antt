use Rattle.std.proofs.Common.{◌≡◌, sym, ap, ◌∙◌, arith}
use Rattle.workers.specs.Tokens.{Token}
use Rattle.workers.proofs.Moves.{compares, joined, joins}
use Rattle.workers.proofs.mark.Publisher.show.Goals as goal

pub join_seat-requires : goal.join_seat-requires
join_seat-requires c =
    let i = c.self.invariant in
    let s = c.before-2.invariant in
    let a = c.another.ensures.first in
    let same : c.before-2.inside.seat.table_id ≡ c.self.inside.seat.table_id = ap (λ (t : Token). t.table) (c.before-2.view_is ∙ c.replace.ensures.value) ∙ (c.requires ∙ sym (ap (λ (t : Token). t.table) c.self.view_is)) in
    rw c.deref-word.ensures (
      a.0 ∙ sym i.1,
      same ∙ sym i.1,
      ap (λ m. m.1) s,
      omega (arith, i.2),
      joins _ _ _ _ c.self.inside.published c.before-2.inside.seat.me.0.read (ap (λ m. m.0) (a.1 ∙ i.0)) (ap (λ m. m.0) s),
    )

pub load-requires : goal.load-requires
load-requires c =
    let i = c.self.invariant in
    let a = c.another.ensures.first in
    let e = c.join_seat.ensures in
    let is = joined c.another.new.first.me c.before-2.inside.seat.me _ c.self.inside.published c.before-2.inside.seat.me.0.read (a.1 ∙ i.0) c.before-2.invariant e.2 in
    rw c.deref-word.ensures (e.0 ∙ (a.0 ∙ sym i.1), omega (arith, i.2), compares _ _ _ c.self.inside.published c.before-2.inside.seat.me.0.read is)
