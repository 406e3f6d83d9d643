use Rattle.std.proofs.Common.{rules, arith, ◌≡◌, ◌≤◌, ◌/◌, ◌*◌, length, drop, sym, ap, ◌∙◌, List, ℤ}
use Rattle.std.specs.Cmp.Rules.{signed_items}
use Rattle.rows.proofs.Blocks.{whole_same}
use Rattle.rows.proofs.numbers.same_numbers.Goals as goal

pub returns : goal.returns
returns c =
    let long : length c.args.left.now ≡ length c.args.right.now = omega arith in
    let all : length c.args.left.now / 64 ≤ c.loop-place.place = omega (arith, c.as_chunks.ensures.front_len) in (
      λ t. whole_same c.args.left.now c.args.right.now c.as_chunks.result.0.now c.as_chunks-2.result.0.now c.as_chunks.result.1.now c.as_chunks-2.result.1.now c.loop-place.place long
          c.as_chunks.ensures.front c.as_chunks-2.ensures.front c.as_chunks.ensures.back c.as_chunks-2.ensures.back all c.loop-place.invariant
          ((signed_items c.as_chunks.result.1.now c.as_chunks-2.result.1.now).0 (search (rules, t))),
      λ h. let e = c.as_chunks.ensures.back ∙ ap (λ (xs : List ℤ). drop (length xs / 64 * 64) xs) h ∙ sym c.as_chunks-2.ensures.back in search (rules, signed_items, e),
    )
