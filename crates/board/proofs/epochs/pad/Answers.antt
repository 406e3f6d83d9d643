use Rattle.std.proofs.Common.{◌≡◌, ◌∙◌, ◌++◌, ◌∷◌, [], ◌≤◌, List, ℤ, length, ap, arith}
use Rattle.board.specs.Steps.{more_at}
use Rattle.board.proofs.EpochPlaces.{more-empty}
use Rattle.board.proofs.epochs.pad.Goals as goal

pub loop-k-preserved : goal.loop-k-preserved
loop-k-preserved c = record {
  same = λ bs.
      let short : length c.loop-k.lists.items ≤ c.args.len = omega arith in
      let items : c.push_reserved.new.self.items ≡ c.loop-k.lists.items ++ [] ∷ [] =
      c.push_reserved.ensures.items ∙ ap (λ (x : List (List (List ℤ))). c.loop-k.lists.items ++ x ∷ []) c.new.ensures in
      ap (more_at c.args.len bs) items ∙ more-empty c.args.len bs c.loop-k.lists.items short ∙ c.loop-k.invariant.same bs;
  len = omega arith;
  capacity = omega arith;
}
