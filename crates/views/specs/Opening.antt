-- What is active before the first step.
use Rattle.std.specs.Prelude.{ℕ}
use Rattle.semantics.specs.Graph.{Graph, input_count}
use Rattle.semantics.specs.Could.{Pointstamp, at_vertex}
use Rattle.semantics.specs.Time.{at_epoch}
use Rattle.machine.specs.Active.{one_if_same, sum_below}

-- each input's vertex at epoch 0, once
abbrev pub active_at_first : Graph → Pointstamp → ℕ
active_at_first g q = sum_below (input_count g) (λ i. one_if_same q (at_vertex i (at_epoch 0)))
