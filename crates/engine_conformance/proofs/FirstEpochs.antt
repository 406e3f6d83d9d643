-- The first input is active at epoch 0, where a graph has one.
use Rattle.std.proofs.Common.{◌<◌, ℕ, zero, suc, arith}
use Rattle.semantics.specs.Graph.{Graph, input_count}
use Rattle.semantics.specs.Could.{at_vertex}
use Rattle.semantics.specs.Time.{at_epoch}
use Rattle.machine.specs.Active.{one_if_same, sum_below}
use Rattle.machine.proofs.Active.{one_self}
use Rattle.views.specs.Opening.{active_at_first}

first_below : (n : ℕ) → 0 < n → 0 < sum_below n (λ i. one_if_same (at_vertex 0 (at_epoch 0)) (at_vertex i (at_epoch 0)))
first_below zero l = absurd (omega arith)
first_below (suc zero) l = let e = one_self (at_vertex 0 (at_epoch 0)) in omega arith
first_below (suc (suc n)) l = let h = first_below (suc n) (omega arith) in omega arith

pub first_active : (g : Graph) → 0 < input_count g → 0 < active_at_first g (at_vertex 0 (at_epoch 0))
first_active g l = first_below (input_count g) l
