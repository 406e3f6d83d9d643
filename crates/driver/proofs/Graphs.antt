-- A claim and the end of an event leave the graph as it is.
use Rattle.std.proofs.Common.{◌≡◌, ℕ, ap, Result, Ok, Err}
use Rattle.board.specs.Jobs.{Pass}
use Rattle.board.specs.Answers.{Claims}
use Rattle.board.specs.Shown.{Shown}
use Rattle.board.specs.declared.claimed.Claimed.{Claimed}
use Rattle.board.specs.declared.claimed.Claimed.TheVariants.{Stopped, Busy, Work, Drained, Idle}
use Rattle.driver.specs.Ends.{Ends}

pub claimed_graph : (u t : Shown) (k : ℕ) (c : Claimed) → Claims u t k c → t.graph ≡ u.graph
claimed_graph u t k Stopped h = ap (λ (s : Shown). s.graph) h.1
claimed_graph u t k Busy h = ap (λ (s : Shown). s.graph) h.2
claimed_graph u t k (Work x) h = h.0.goes.graph
claimed_graph u t k Drained h = ap (λ (s : Shown). s.graph) h.3
claimed_graph u t k Idle h = ap (λ (s : Shown). s.graph) h.5

pub ended_graph : (s t : Shown) (p : Pass) {T E : Type 0} (r : Result T E) → Ends s t p r → t.graph ≡ s.graph
ended_graph s t p (Ok _) h = h.1.1.graph
ended_graph s t p (Err _) h = h.1.graph
