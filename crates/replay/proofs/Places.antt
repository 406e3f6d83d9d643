-- What a worker's place says that it holds.
use Rattle.std.proofs.Common.{◌≡◌, ◌∙◌, ℕ, false, sym, ap}
use Rattle.machine.specs.World.{Held}
use Rattle.events.specs.Jobs.{Pass}
use Rattle.board.specs.Shown.{Shown, side_at, held_of}
use Rattle.board.specs.Answers.{Holds}

pub held_out : (t : Shown) (k : ℕ) (p : Pass) → p.worker ≡ k → Holds t p → held_of (side_at t k).place ≡ Held.holding false p.job.happening
held_out t k p own holds = ap (λ (j : ℕ). held_of (side_at t j).place) (sym own) ∙ ap held_of holds
