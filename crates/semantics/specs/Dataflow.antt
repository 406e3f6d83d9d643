-- Dataflow graphs: the graph of each well-typed program is one. (Naiad, SOSP 2013, section 2.1: loop contexts, properly nested.)
use Rattle.std.specs.Prelude.{◌≡◌, ◌⊎◌, ℕ, ◌≤◌, ◌<◌, true, List, [], ◌∷◌, ◌++◌, length}
use Rattle.semantics.specs.Limits.{max_loops}
use Rattle.semantics.specs.Multiset.{◌≈◌}
use Rattle.semantics.specs.Time.{Time, Action, last, turn_count}
use Rattle.semantics.specs.Kinds.{Kind, action, ends_turn, in_ports, out_ports}
use Rattle.semantics.specs.Graph.{Graph, vertex, source, input_count}
use Rattle.semantics.specs.Flow.{IsEdgeTime, Inputs, Flow, IsFlow}

-- each in port is fed by an out port of a vertex of the graph
pub record IsWired (g : Graph) : Type 0 where
  -- a vertex has the in ports of its kind
  pub full : (v : ℕ) → v < length g → length (vertex g v).ins ≡ in_ports (vertex g v).kind
  pub fed : (w i : ℕ) → w < length g → i < length (vertex g w).ins → (source g w i).vertex < length g
  pub from_port : (w i : ℕ) → w < length g → i < length (vertex g w).ins →
      (source g w i).out < out_ports (vertex g (source g w i).vertex).kind
  pub shallow : (v : ℕ) → v < length g → (vertex g v).depth ≤ max_loops

-- An edge from v to w stays in v's loop, or goes into a loop, out of one, or to its next turn. `loops v` are the egresses of the loops around v,
-- outermost first.
pub data Goes (loops : ℕ → List ℕ) (v w : ℕ) : Action → Type 0 where
  same_loop : loops w ≡ loops v → v < w → Goes loops v w Action.stay
  into_loop : (e : ℕ) → loops w ≡ loops v ++ (e ∷ []) → v < e → Goes loops v w Action.enter
  out_of_loop : loops v ≡ loops w ++ (v ∷ []) → v < w → Goes loops v w Action.leave
  round_loop : loops w ≡ loops v → 0 < length (loops v) → Goes loops v w Action.next

-- each edge respects the loops, and a vertex's depth is the number of loops around it
pub record IsNested (g : Graph) (loops : ℕ → List ℕ) : Type 0 where
  pub homes : (v : ℕ) → v < length g → length (loops v) ≡ (vertex g v).depth
  pub goes : (w i : ℕ) → w < length g → i < length (vertex g w).ins →
      Goes loops (source g w i).vertex w (action (vertex g (source g w i).vertex).kind)

-- inputs come first, and inputs and outputs are outside all loops
pub record IsShaped (g : Graph) : Type 0 where
  pub inputs_first : (v : ℕ) → v < length g → (vertex g v).kind ≡ Kind.input → v < input_count g
  -- each end of a turn is inside a loop
  pub inside : (v : ℕ) → v < length g → ends_turn (vertex g v).kind ≡ true → 0 < (vertex g v).depth
  pub flat : (v : ℕ) → v < length g → ((vertex g v).kind ≡ Kind.input) ⊎ ((vertex g v).kind ≡ Kind.output) → (vertex g v).depth ≡ 0

-- nothing comes to the end of a turn over the limit
pub record IsQuiet (g : Graph) : Type 0 where
  pub quiet : (inputs : Inputs) (f : Flow) → IsFlow g inputs f → (w i : ℕ) (u : Time) → IsEdgeTime g w i u →
      ends_turn (vertex g w).kind ≡ true → turn_count ≤ last u.counters → f w i u ≈ []

-- wired, shaped, quiet, and nested by some loops
pub record IsDataflow (g : Graph) : Type 0 where
  pub wired : IsWired g
  pub shaped : IsShaped g
  pub quiet : IsQuiet g
  pub loops : ℕ → List ℕ
  pub nested : IsNested g loops
