-- What a program's engine has emitted where no worker may take a step.
use Rattle.std.proofs.Common.{◌≡◌, ◌<◌, ℕ, false, List, length, subst}
use Rattle.semantics.specs.Multiset.{◌≈◌}
use Rattle.semantics.specs.Query.{Program}
use Rattle.semantics.specs.Lower.{lowered}
use Rattle.semantics.proofs.LoweredDataflow.{lowered_inputs}
use Rattle.machine.specs.World.{World}
use Rattle.machine.specs.Step.{Step}
use Rattle.machine.specs.Engine.{engine}
use Rattle.machine.specs.Headline.{output_of, IsRunOf, meant}
use Rattle.ending.specs.Ending.{IsIdle, IsOver}
use Rattle.machine.proofs.Headline.{run_on, emitted_whole}
use Rattle.ending.proofs.Idle.{idle_passed}

pub idle_whole : (p : Program) (workers : ℕ) (steps : List Step) (w : World) → IsRunOf p workers steps w → w.stopped ≡ false → IsIdle (engine p workers) w
    → (epoch : ℕ) → ((input : ℕ) → input < length p.inputs → IsOver w input epoch) → (output : ℕ) → output < length p.outputs → w.emitted (output_of p output) epoch ≈ meant p w output epoch
idle_whole p workers steps w is runs idle epoch over output l =
    emitted_whole p workers steps w is output epoch l
    (idle_passed (lowered p) workers steps w (run_on p workers steps w is) runs idle epoch (λ i li. over i (subst (λ n. i < n) (lowered_inputs p) li)) (output_of p output))
