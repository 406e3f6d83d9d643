use Rattle.std.proofs.Common.{◌≡◌, ◌∙◌, ◌<◌, [], length, map, sym, ap, subst, arith}
use Rattle.std.specs.Prelude.{slice_set}
use Rattle.std.proofs.lemmas.List.{get_or-map, length-map, map-set}
use Rattle.driver.specs.Tallies.{Raises, Rows}
use Rattle.driver.proofs.Rows.{raises_row}
use Rattle.driver.proofs.tally.Tally.count.Goals as goal

pub returns : goal.returns
returns c =
    let old = c.self.inside.rows.items in
    let row = c.index_mut-row.result.now in
    let i = c.vertex-vertex.result in
    let there : i < length old = omega (arith, c.if-vertex-len.false, c.len.ensures) in
    let many : length (map (λ x. x.items) old) ≡ length old = length-map old (λ x. x.items) in
    let before = ap (λ x. x.items) c.index_mut-row.ensures.value ∙ sym (get_or-map (λ x. x.items) old i row [] there) in
    let raised : Raises (map (λ x. x.items) old) c.args.sent (slice_set (map (λ x. x.items) old) i c.raise.new.row.items) =
    raises_row (map (λ x. x.items) old) c.args.sent i row.items c.raise.new.row.items c.vertex-vertex.ensures (omega (arith, there, many)) before c.raise.ensures in
    subst (λ (rows : Rows). Raises rows c.args.sent (map (λ x. x.items) (slice_set old i c.raise.new.row))) c.self.view_is
    (subst (λ (rows : Rows). Raises (map (λ x. x.items) old) c.args.sent rows) (sym (map-set (λ x. x.items) old i c.raise.new.row)) raised)
