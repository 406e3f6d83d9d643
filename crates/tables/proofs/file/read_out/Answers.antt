use Rattle.std.proofs.Common.{◌≡◌, ◌++◌, ◌∙◌, [], ℕ, List, true, false, refl, sym, ap, inl}
use Rattle.std.proofs.lemmas.Bool.{true≢false}
use Rattle.std.proofs.lemmas.List.{append-nil, append_assoc}
use Rattle.collector.specs.Watching.{handed}
use Rattle.csv_blocks.specs.Blocks.{IsFilled, block_of}
use Rattle.tables.proofs.file.read_out.Goals as goal

pub loop-block-init : goal.loop-block-init
loop-block-init g c = record {
  filled = λ done h. (done, [], h, sym (append-nil (done ++ block_of c.args.blocks.now)), λ on. refl);
  stays = λ on. on;
  ends = λ ends on. ends on;
  consumed = λ start k. k;
}

pub loop-block-preserved : goal.loop-block-preserved
loop-block-preserved g c =
    let inv = c.loop-block.invariant in
    let old = c.loop-block.blocks in
    let new = c.fill.new.self in
    let going = λ (on : c.args.last ≡ true). true≢false (sym (inv.stays on) ∙ c.if-ended.false) in
    record {
      filled = λ done h.
          let (front, tail, filled, at, none) = inv.filled done h in
          let next : IsFilled false front old (handed c.loop-block.source) = rw c.if-ended.false at filled in (
            front ++ block_of old,
            tail ++ block_of new,
            c.in-Ok.ensures.filled front next.is_at,
            ap (λ (t : List ℕ). t ++ block_of new) at ∙ append_assoc (done ++ block_of c.args.blocks.now) tail (block_of new),
            λ on. absurd (going on),
          );
      stays = λ on. absurd (going on);
      ends = λ ends on. (c.in-Ok.ensures.ended on).1;
      consumed = λ start k. c.fill.ensures.consumed start (inv.consumed start k);
    }

pub returns-then-ended-clause-whole : goal.returns-then-ended-clause-whole
returns-then-ended-clause-whole g c = λ done h.
    let (front, tail, filled, at, none) = c.loop-block.invariant.filled done h in
    let last : IsFilled true front c.loop-block.blocks (handed c.loop-block.source) = rw c.if-ended.true at filled in
    record { tail = tail; all = last.all ∙ at; none = none; strict = last.strict }

pub returns-then-ended-clause-ended : goal.returns-then-ended-clause-ended
returns-then-ended-clause-ended g c = λ ends. c.loop-block.invariant.ends ends c.if-ended.true

pub returns-then-ended-clause-consumed : goal.returns-then-ended-clause-consumed
returns-then-ended-clause-consumed g c = c.loop-block.invariant.consumed

pub returns-in-Err-clause-refused : goal.returns-in-Err-clause-refused
returns-in-Err-clause-refused g c = λ done h.
    let (front, tail, filled, at, none) = c.loop-block.invariant.filled done h in
    let next : IsFilled false front c.loop-block.blocks (handed c.loop-block.source) = rw c.if-ended.false at filled in
    c.in-Err.ensures.refused front next.is_at

pub returns-in-Err-clause-consumed : goal.returns-in-Err-clause-consumed
returns-in-Err-clause-consumed g c = λ start k. c.fill.ensures.consumed start (c.loop-block.invariant.consumed start k)

pub returns-clause-refused : goal.returns-clause-refused
returns-clause-refused g c = λ done h. inl (λ tail. tt)

pub returns-clause-consumed : goal.returns-clause-consumed
returns-clause-consumed g c = c.loop-block.invariant.consumed
