use Rattle.std.proofs.Common.{arith, length-append, ◌∷◌, [], List, ℕ, subst, sym}
use Rattle.path_summary.specs.Made.{IsPacked}
use Rattle.path_summary.proofs.WholeTables.{packed_push}
use Rattle.path_summary.proofs.paths.rows_of.Goals as goal

pub loop-vertex-preserved : goal.loop-vertex-preserved
loop-vertex-preserved c =
    let i = c.loop-vertex.invariant in
    rw c.in_ok-push.ensures.items
    (record {
      long = omega (arith, length-append c.loop-vertex.rows.items (c.in_ok-of.field-0 ∷ []), i.long);
      packed = packed_push c.args.links.now c.loop-vertex.summaries c.of.new.summaries c.loop-vertex.rows.items c.in_ok-of.field-0 c.loop-vertex.vertex i.long c.of.ensures.grows i.packed
          (subst (λ (codes : List ℕ). IsPacked c.args.links.now c.of.new.summaries codes c.loop-vertex.vertex) (sym c.in_ok-of.ensures) c.in_ok-row.ensures.packed);
    })
