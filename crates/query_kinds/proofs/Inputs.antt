-- The input with a number.
use Rattle.std.proofs.Common.{◌≡◌, ◌∙◌, ℕ, List, map, None, Some, slice_get, ap}
use Rattle.std.specs.Prelude.{option_map}
use Rattle.std.proofs.lemmas.Option.{slice_get-map}
use Rattle.expr_tree.specs.Plain.{plain_input}
use Rattle.expr_tree.specs.declared.program.Input.{Input}

pub input_at : (inputs : List Input) (i : ℕ) (x : Input) → slice_get inputs i ≡ Some x → slice_get (map plain_input inputs) i ≡ Some (plain_input x)
input_at inputs i x e = slice_get-map plain_input inputs i ∙ ap (option_map plain_input) e

pub no_input_at : (inputs : List Input) (i : ℕ) → slice_get inputs i ≡ None → slice_get (map plain_input inputs) i ≡ None
no_input_at inputs i e = slice_get-map plain_input inputs i ∙ ap (option_map plain_input) e
