use Rattle.std.proofs.Common.{◌∷◌, ◌++◌, [], ℤ, List, arith, get_or, subst, sym}
use Rattle.std.proofs.lemmas.List.{length-append}
use Rattle.collector.specs.Piles.{AreAlike}
use Rattle.collector.proofs.Batched.{inputs_alike}
use Rattle.collector.proofs.draft.Draft.finish.Goals as goal

pub loop-track-preserved : goal.loop-track-preserved
loop-track-preserved c = record {
  size =
      let p = c.in_ok-push.ensures.len in
      let a = length-append c.loop-track.yielded (c.in-Some.track ∷ []) in
      let b = c.loop-track.invariant.size in
      omega (arith, p, a, b);
  each = λ input.
      subst (λ (xs : List (List (List (List ℤ)))). AreAlike (get_or xs input []) (get_or (c.loop-track.yielded ++ c.in-Some.track ∷ []) input [])) (sym c.in_ok-push.ensures.items)
      (inputs_alike c.loop-track.kept.items c.loop-track.yielded c.in_ok-finish.field-0 c.in-Some.track c.loop-track.invariant.size c.loop-track.invariant.each c.in_ok-finish.ensures input);
}
