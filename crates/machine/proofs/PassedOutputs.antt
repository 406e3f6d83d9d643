-- Whether each epoch below a number has passed at each output, in terms of the graph's outputs.
use Rattle.std.proofs.Common.{◌≡◌, ◌↔◌, ◌<◌, ℕ, nat_lt, Bool, true, false, length, refl, ap, subst, arith, ltb-true, ltb-false}
use Rattle.semantics.specs.Kinds.{Role, role}
use Rattle.semantics.specs.Graph.{Graph, vertex, output_numbers, output_number}
use Rattle.semantics.proofs.OutputNumbers.{output_is_there, output_has_place}
use Rattle.machine.specs.World.{World}
use Rattle.machine.specs.Frontier.{Passed, PassedBelow}
use Rattle.machine.specs.Engine.{network}
use Rattle.machine.proofs.Engine.{role_output}

pub passed_below : (g : Graph) (workers : ℕ) (w : World) (n : ℕ) → PassedBelow (network g workers) w n ↔ ((output epoch : ℕ) → output < length (output_numbers g) → epoch < n → Passed (network g workers) w (output_number g output) epoch)
passed_below g workers w n = (
  λ all output epoch l b. all (output_number g output) epoch (ap role (output_is_there g output l).1) b,
  λ all v epoch o b. go v epoch o (nat_lt v (length g)) refl (λ output l. all output epoch l b),
)
  where
    go : (v epoch : ℕ) → role (vertex g v).kind ≡ Role.output → (t : Bool) → nat_lt v (length g) ≡ t → ((output : ℕ) → output < length (output_numbers g) → Passed (network g workers) w (output_number g output) epoch) → Passed (network g workers) w v epoch
    go v epoch o true e each =
        let p = output_has_place g v (ltb-true v (length g) e) (role_output (vertex g v).kind o) in
        subst (λ u. Passed (network g workers) w u epoch) p.2 (each p.0 p.1)
    -- nothing could come to a vertex beyond the last
    go v epoch o false e each = λ q active could. let l = ltb-false v (length g) e in let m = could.ends.0 in absurd (omega arith)
