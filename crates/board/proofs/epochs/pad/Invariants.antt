use Rattle.std.proofs.Common.{◌≡◌, ℤ, List, vec_len, vec_capacity}
use Rattle.board.specs.Steps.{more_at}
use Rattle.board.proofs.epochs.pad.Given as goal

abbrev pub invariant-loop-k : goal.invariant-loop-k
invariant-loop-k l = record {
  same : (bs : List (List (List ℤ))) → more_at l.len bs l.lists.items ≡ more_at l.len bs l.initial.lists.items;
  len : vec_len l.lists ≡ l._k;
  capacity : vec_capacity l.lists ≡ vec_capacity l.initial.lists;
}
