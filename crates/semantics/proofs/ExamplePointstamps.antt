-- What could result in what in the graph of two turns of a select, by paths through its loop.
use Rattle.std.proofs.Common.{◌≡◌, ℕ, [], ◌∷◌, refl, ap, arith}
use Rattle.semantics.specs.Time.{at_epoch}
use Rattle.semantics.specs.Graph.{vertex, source}
use Rattle.semantics.specs.Could.{Location, Pointstamp, at_vertex, PathStep, CouldResultIn}
use Rattle.semantics.specs.Lower.{lowered, lower, lower_lets, lower_outputs}
use Rattle.semantics.specs.Typing.{HasArity, WellTyped}
use Rattle.semantics.specs.Examples.{two_turns, turn}
use Rattle.semantics.proofs.CouldRises.{at_most_refl, could_once}
use Rattle.semantics.proofs.LoweredDataflow.{typed_dataflow}

-- the gate at one turn could result in the concat at the next
pub round : CouldResultIn (lowered two_turns) (at_vertex 3 (turn 1)) (at_vertex 2 (turn 2))
unfolding lowered lower lower_lets lower_outputs vertex source
round =
    record {
      starts = (omega arith, refl);
      ends = (omega arith, refl);
      path = PathStep.leaves 4 ∷ PathStep.enters 4 ∷ PathStep.leaves 5 ∷ PathStep.enters 5 ∷ PathStep.leaves 2 ∷ PathStep.enters 2 ∷ [];
      leads = (omega arith, refl, (omega arith, refl, (omega arith, refl, (omega arith, refl, (omega arith, refl, (omega arith, refl, refl))))));
      in_time = at_most_refl (turn 2);
    }

-- the gate could result in the output, out of the loop
pub out : CouldResultIn (lowered two_turns) (at_vertex 3 (turn 1)) (at_vertex 7 (at_epoch 0))
unfolding lowered lower lower_lets lower_outputs vertex source
out =
    record {
      starts = (omega arith, refl);
      ends = (omega arith, refl);
      path = PathStep.leaves 6 ∷ PathStep.enters 6 ∷ PathStep.leaves 7 ∷ PathStep.enters 7 ∷ [];
      leads = (omega arith, refl, (omega arith, refl, (omega arith, refl, (omega arith, refl, refl))));
      in_time = at_most_refl (at_epoch 0);
    }

pub itself : CouldResultIn (lowered two_turns) (at_vertex 3 (turn 1)) (at_vertex 3 (turn 1))
unfolding lowered lower lower_lets lower_outputs vertex source
itself = record { starts = (omega arith, refl); ends = (omega arith, refl); path = []; leads = refl; in_time = at_most_refl (turn 1) }

forth : CouldResultIn (lowered two_turns) (at_vertex 2 (turn 1)) (at_vertex 3 (turn 1))
unfolding lowered lower lower_lets lower_outputs vertex source
forth =
    record {
      starts = (omega arith, refl);
      ends = (omega arith, refl);
      path = PathStep.leaves 3 ∷ PathStep.enters 3 ∷ [];
      leads = (omega arith, refl, (omega arith, refl, refl));
      in_time = at_most_refl (turn 1);
    }

two_turns_typed : WellTyped two_turns (1 ∷ [])
unfolding HasArity
two_turns_typed = record {
  few = omega arith;
  few_outputs = omega arith;
  inputs = (refl, (omega arith, omega arith), tt);
  rest = ((omega arith, omega arith, refl, refl, (1, refl, ((omega arith, tt), tt), refl, (omega arith, omega arith))), refl, tt);
}

number : Pointstamp → ℕ
number p = by p.location
  where
    by : Location → ℕ
    by (Location.edge e) = e
    by (Location.vertex v) = v

-- the gate could not result in the concat at the same turn, since that could result in the gate
pub not_back : CouldResultIn (lowered two_turns) (at_vertex 3 (turn 1)) (at_vertex 2 (turn 1)) → ⊥
unfolding number
not_back back = differs (could_once (lowered two_turns) (typed_dataflow two_turns (1 ∷ []) two_turns_typed) (at_vertex 3 (turn 1)) (at_vertex 2 (turn 1)) back forth)
  where
    differs : at_vertex 3 (turn 1) ≡ at_vertex 2 (turn 1) → ⊥
    differs e = let n : (let f : Pointstamp → ℕ = number in f (at_vertex 3 (turn 1)) ≡ f (at_vertex 2 (turn 1))) = ap number e in omega arith
