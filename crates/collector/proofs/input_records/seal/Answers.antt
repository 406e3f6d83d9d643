use Rattle.std.proofs.Common.{◌≡◌, ◌∙◌, arith, sym, ap, []}
use Rattle.collector.specs.Piles.{piled}
use Rattle.collector.proofs.Piles.{piled_push, with_none, sealed}
use Rattle.collector.proofs.input_records.seal.Goals as goal

pub returns-then-is_empty : goal.returns-then-is_empty
returns-then-is_empty c =
    let none : c.args.rows.rows ≡ [] = (c.is_empty.ensures.value).0 c.if-is_empty.true in
    rw none (sym (with_none _))

pub returns : goal.returns
returns c =
    sealed (λ v. piled v.items) c.args.epochs.now.items _ c.index_mut.result.now c.push.new.self c.args.rows.rows (omega (arith, c.if-len-eq0.false, c.len-len.ensures)) c.index_mut.ensures.value
    (ap piled c.in_ok-push.ensures.items ∙ piled_push c.index_mut.result.now.items c.args.rows)
