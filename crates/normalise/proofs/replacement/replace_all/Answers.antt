use Rattle.std.proofs.Common.{map, ◌+◌, ◌++◌, ◌<◌, length, take, arith, sym, ◌∙◌}
use Rattle.std.proofs.lemmas.List.{map-append}
use Rattle.std.proofs.lemmas.List.Elements.{AllZip-push}
use Rattle.expr_tree.specs.Plain.{plain_scalar}
use Rattle.expr_tree.specs.Views.{scalar_tree}
use Rattle.semantics.specs.Normal.{uses, uses_all}
use Rattle.normalise.specs.Replaced.{Once}
use Rattle.normalise.specs.Rewritten.{IsFolded}
use Rattle.normalise.proofs.Steps.{taken-set, taken-next, dropped-next}
use Rattle.normalise.proofs.Moved.{once_taken, once_next, once_second, moves_next, replaced-later}
use Rattle.normalise.proofs.replacement.replace_all.Goals as goal

pub loop-scalar-preserved : goal.loop-scalar-preserved
loop-scalar-preserved g c =
    let l : c.loop-scalar.scalar-index < length c.loop-scalar.scalar-items = omega arith in
    let rest = c.loop-scalar.invariant.rest in
    let moved = c.loop-scalar.invariant.moved in
    let same = c.take-before.ensures.moved ∙ sym c.scalar-item.is in
    let next = taken-next scalar_tree c.loop-scalar.scalar-items c.args.scalars.now.items c.loop-scalar.scalar-index c.scalar-item.result l rest c.scalar-item.is in
    let before = map plain_scalar (map scalar_tree (take c.loop-scalar.scalar-index c.args.scalars.now.items)) in
    let it = plain_scalar (scalar_tree c.scalar-item.result) in
    record {
      done = λ normal whole.
          let once : Once (uses_all before ++ uses it) = once_next before it (simp map-append at (rw next at (once_taken scalar_tree plain_scalar c.args.scalars.now.items (c.loop-scalar.scalar-index + 1) whole))) in
          let later = replaced-later (uses_all before) it _ _ moved once in
          let folded = c.replaced.ensures.folded (moved.normal normal) (rw same (once_second (uses_all before) (uses it) once)) in
          rw (taken-set scalar_tree c.loop-scalar.scalar-items c.loop-scalar.scalar-index c.replaced.result l, next)
          (simp map-append (AllZip-push IsFolded _ _ _ _ (c.loop-scalar.invariant.done normal whole) (rw (same, later) at folded)));
      moved = rw next (simp map-append (moves_next before it _ _ _ moved (rw same at c.replaced.ensures.moved)));
      rest = dropped-next c.loop-scalar.scalar-items _ c.loop-scalar.scalar-index c.replaced.result l rest;
    }
