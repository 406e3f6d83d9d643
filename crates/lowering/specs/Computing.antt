-- What a graph does for the program that it is made of.
use Rattle.std.specs.Prelude.{◌≡◌, ℕ, ◌≤◌, ◌<◌, [], true, length}
use Rattle.semantics.specs.Multiset.{◌≈◌}
use Rattle.semantics.specs.Query.{Program}
use Rattle.semantics.specs.Time.{Time, at_epoch, last, turn_count}
use Rattle.semantics.specs.Kinds.{ends_turn}
use Rattle.semantics.specs.Graph.{Graph, vertex, output_number, output_numbers}
use Rattle.semantics.specs.Flow.{Inputs, Flow, IsFlow, IsEdgeTime, HasOneFlow}
use Rattle.semantics.specs.Meaning.{program_meaning}

-- g has the outputs of p; on any inputs it has exactly one flow, which brings to each output what p means there, and is empty over the
-- limit of turns where a turn ends
pub record Computes (g : Graph) (p : Program) : Type 0 where
  pub one_flow : (inputs : Inputs) → HasOneFlow g inputs
  pub outputs : length (output_numbers g) ≡ length p.outputs
  pub meaning : (inputs : Inputs) (f : Flow) (output epoch : ℕ) → IsFlow g inputs f → output < length p.outputs →
      f (output_number g output) 0 (at_epoch epoch) ≈ program_meaning p output (λ i. inputs i epoch)
  pub quiet : (inputs : Inputs) (f : Flow) (w i : ℕ) (u : Time) → IsFlow g inputs f → IsEdgeTime g w i u →
      ends_turn (vertex g w).kind ≡ true → turn_count ≤ last u.counters → f w i u ≈ []
