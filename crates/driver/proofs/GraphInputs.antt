-- The inputs that a graph in memory declares are its input vertices, with their arities.
use Rattle.std.proofs.Common.{◌≡◌, ◌<◌, ◌≤◌, ◌∙◌, ℕ, length, map, refl, sym, ap, subst, arith, Some}
use Rattle.std.specs.Prelude.{option_map, slice_get, slice_index_or}
use Rattle.std.proofs.Math.Logic.{∥∥₁_elim}
use Rattle.std.proofs.Math.Nat.{ℕ_set}
use Rattle.std.proofs.Math.Bridge.{le_prop}
use Rattle.std.proofs.lemmas.Option.{slice_get_within, get_or_from_slice_get, slice_get-map}
use Rattle.semantics.specs.Query.{Input, Program}
use Rattle.semantics.specs.Graph.{Graph, input_count}
use Rattle.semantics.specs.Lower.{lowered}
use Rattle.semantics.specs.PortArity.{IsTyped, program_arities}
use Rattle.semantics.specs.Typing.{IsArity}
use Rattle.semantics.proofs.InputNumbers.{few_inputs}
use Rattle.graph.specs.Shown.{GraphValue, shown_graph, shown_inputs, shown_arities}
use Rattle.graph.specs.GraphLaws.{HasProgramArities}
use Rattle.driver.specs.Inputs.{AreInputsOf}

abbrev arity_of : Input → ℕ
arity_of a = a.arity

-- the arities are those of the inputs, as they are for each program
abbrev pub InputsArities : Type 0
InputsArities = (p : Program) (i : ℕ) → i < length p.inputs → slice_index_or (program_arities p) i 0 ≡ slice_index_or (map (λ a. a.arity) p.inputs) i 0

-- a graph has as many inputs as its program, as it is for each program
abbrev pub InputsCount : Type 0
InputsCount = (p : Program) → input_count (lowered p) ≡ length p.inputs

one_arity : (g : GraphValue) → InputsArities → InputsCount → (i : ℕ) (input : Input) → slice_get (shown_inputs g) i ≡ Some input → HasProgramArities (shown_graph g) (shown_inputs g) (shown_arities g) → slice_index_or (shown_arities g) i 0 ≡ input.arity
one_arity g law counts i input at k =
    let p = k.0 in
    let here : slice_get p.inputs i ≡ Some input = ap (λ xs. slice_get xs i) (sym k.4) ∙ at in
    let lt : i < length p.inputs = slice_get_within p.inputs i input here in
    let within : i < length (lowered p) = omega (arith, lt, counts p, few_inputs (lowered p)) in
    let mapped : slice_get (map arity_of p.inputs) i ≡ Some input.arity = slice_get-map arity_of p.inputs i ∙ ap (option_map arity_of) here in
    k.5.each i within ∙ law p i lt ∙ get_or_from_slice_get (map arity_of p.inputs) i input.arity 0 mapped

one_count : (g : GraphValue) → InputsCount → HasProgramArities (shown_graph g) (shown_inputs g) (shown_arities g) → length (shown_inputs g) ≤ input_count (shown_graph g)
one_count g counts k =
    let e : length (shown_inputs g) ≡ input_count (shown_graph g) = ap length k.4 ∙ sym (counts k.0) ∙ ap (λ (x : Graph). input_count x) (sym k.3) in
    omega (arith, e)

pub are_inputs : (g : GraphValue) → ∥ HasProgramArities (shown_graph g) (shown_inputs g) (shown_arities g) ∥₁ → InputsArities → InputsCount → length (shown_graph g) ≤ 4096 → AreInputsOf g (shown_inputs g)
are_inputs g h law counts few = record {
  same = refl;
  count = ∥∥₁_elim h (λ a b. le_prop a b) (λ k. one_count g counts k);
  few = omega (arith, few, few_inputs (shown_graph g));
  arities = λ i input at. ∥∥₁_elim h (ℕ_set _ _) (λ k. one_arity g law counts i input at k);
}

-- the fields of an input's records are as many as those of its vertex
pub input_fields : (g : GraphValue) → AreInputsOf g (shown_inputs g) → IsTyped (shown_graph g) (λ v. slice_index_or (shown_arities g) v 0) → (i : ℕ) (input : Input) → slice_get (shown_inputs g) i ≡ Some input → IsArity input.arity
input_fields g are typed i input at =
    let within : i < length (shown_graph g) = omega (arith, slice_get_within (shown_inputs g) i input at, are.count, few_inputs (shown_graph g)) in
    subst IsArity (are.arities i input at) (typed.fields i within)
