use Rattle.std.proofs.Common.{rules, arith, ◌≡◌, length, sym, ap, ◌∙◌, pos, List, ℤ}
use Rattle.std.specs.Prelude.{slice_index_or}
use Rattle.std.proofs.lemmas.List.{ext_get_or}
use Rattle.rows.proofs.Blocks.{one_more, zero_bits, zero_read}
use Rattle.rows.proofs.numbers.same_block.Goals as goal
use mir.Syntax.{w64}
use mir.Val.{Fits, SFits}

pub loop-place-preserved : goal.loop-place-preserved
loop-place-preserved c =
    let f : Fits w64 c.loop-place.difference-bits = search rules in
    let g : SFits w64 (slice_index_or c.args.left.now c.loop-place.place (pos 0)) = search rules in
    let h : SFits w64 (slice_index_or c.args.right.now c.loop-place.place (pos 0)) = search rules in
    one_more c.args.left.now c.args.right.now c.loop-place.place c.loop-place.difference-bits f g h c.loop-place.invariant

pub returns : goal.returns
returns c =
    let f : Fits w64 c.loop-place.difference-bits = search rules in
    let m : length c.args.left.now ≡ 64 = search rules in
    let n : length c.args.right.now ≡ 64 = search rules in (
      λ t. (let e : c.loop-place.difference-bits ≡ 0 = search (rules, t) in
          ext_get_or (pos 0) c.args.left.now c.args.right.now (m ∙ sym n) (λ k l. c.loop-place.invariant.0 (zero_read c.loop-place.difference-bits e) k (omega (arith, l, m)))),
      λ h. let e = zero_bits c.loop-place.difference-bits f (c.loop-place.invariant.1 (λ k l. ap (λ (xs : List ℤ). slice_index_or xs k (pos 0)) h)) in search (rules, e),
    )
