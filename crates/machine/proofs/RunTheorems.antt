-- The theorems about runs, over a network with its laws.
use Rattle.std.specs.Prelude.{ℕ, List}
use Rattle.semantics.specs.Multiset.{Record}
use Rattle.semantics.specs.Time.{Time}
use Rattle.machine.specs.Network.{Network}
use Rattle.machine.specs.World.{World}
use Rattle.machine.specs.Run.{Reached}
use Rattle.machine.proofs.Laws.{IsNetwork}
use Rattle.machine.proofs.NetFlow.{IsNetFlow, HasFlows}
use Rattle.machine.proofs.Kept.{Headline}

-- in every reached world, whatever was sent is part of the flow, and all of it where nothing more can come
abbrev pub EveryRunKeeps : Type 1
EveryRunKeeps = (g : Network) → IsNetwork g → HasFlows g → (w : World) → Reached g w → (flow : ℕ → Time → List Record) → IsNetFlow g w.fed flow → Headline g w flow
