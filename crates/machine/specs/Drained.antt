-- A world in which no work is left.
use Rattle.std.specs.Prelude.{◌≡◌, ℕ, ◌<◌, true, []}
use Rattle.machine.specs.Network.{Network}
use Rattle.machine.specs.World.{Held, World}

-- every input is closed, and no worker has a message, a request or a held event; an abandoned one is held for good
pub record IsDrained (g : Network) (w : World) : Type 0 where
  pub closed : (i : ℕ) → i < g.inputs → w.closed i ≡ true
  pub mail : (k : ℕ) → k < g.workers → w.mail k ≡ []
  pub requests : (k : ℕ) → k < g.workers → w.requests k ≡ []
  pub held : (k : ℕ) → k < g.workers → w.held k ≡ Held.nothing
