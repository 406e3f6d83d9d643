use Rattle.std.proofs.Common.{◌<◌, length, arith, sym}
use Rattle.std.proofs.lemmas.List.{map-append}
use Rattle.std.proofs.lemmas.List.Elements.{AllZip-push}
use Rattle.expr_tree.specs.Views.{output_tree}
use Rattle.normalise.specs.Rewritten.{IsRewrittenOutput}
use Rattle.normalise.proofs.Steps.{taken-set, taken-next, dropped-next}
use Rattle.normalise.proofs.program.rewrite_outputs.Goals as goal

pub loop-output-preserved : goal.loop-output-preserved
loop-output-preserved g c =
    let l : c.loop-output.output-index < length c.loop-output.output-items = omega arith in
    let rest = c.loop-output.invariant.rest in
    let now = c.rewrite_output.new.output in
    record {
      done =
          rw (taken-set output_tree c.loop-output.output-items c.loop-output.output-index now l)
          (rw (taken-next output_tree c.loop-output.output-items _ c.loop-output.output-index c.output-item.result l rest c.output-item.is)
          (simp map-append (AllZip-push IsRewrittenOutput _ _ _ _ c.loop-output.invariant.done (rw (sym c.output-item.is) at c.in_ok-rewrite_output.ensures))));
      rest = dropped-next c.loop-output.output-items _ c.loop-output.output-index now l rest;
    }
