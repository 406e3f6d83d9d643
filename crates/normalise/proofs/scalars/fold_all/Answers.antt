use Rattle.std.proofs.Common.{◌<◌, length, arith, sym, ◌∙◌}
use Rattle.std.proofs.lemmas.List.{map-append}
use Rattle.std.proofs.lemmas.List.Elements.{AllZip-push}
use Rattle.expr_tree.specs.Views.{scalar_tree}
use Rattle.normalise.specs.Rewritten.{IsFolded}
use Rattle.normalise.proofs.Steps.{taken-set, taken-next, dropped-next}
use Rattle.normalise.proofs.scalars.fold_all.Goals as goal

pub loop-scalar-preserved : goal.loop-scalar-preserved
loop-scalar-preserved g c =
    let l : c.loop-scalar.scalar-index < length c.loop-scalar.scalar-items = omega arith in
    let rest = c.loop-scalar.invariant.rest in
    record {
      done =
          rw (taken-set scalar_tree c.loop-scalar.scalar-items c.loop-scalar.scalar-index c.folded.result l)
          (rw (taken-next scalar_tree c.loop-scalar.scalar-items _ c.loop-scalar.scalar-index c.scalar-item.result l rest c.scalar-item.is)
          (simp map-append (AllZip-push IsFolded _ _ _ _ c.loop-scalar.invariant.done (rw (c.take-before.ensures.moved ∙ sym c.scalar-item.is) at c.folded.ensures))));
      rest = dropped-next c.loop-scalar.scalar-items _ c.loop-scalar.scalar-index c.folded.result l rest;
    }
