-- What a worker sees of the changes of a run's steps.
use Rattle.std.specs.Prelude.{Bool, false, List, [], ◌∷◌}
use Rattle.semantics.specs.Could.{Pointstamp, NoneOf, NoOtherOf}
use Rattle.machine.specs.Network.{Network}
use Rattle.machine.specs.World.{World, opening}
use Rattle.machine.specs.Active.{active_count}
use Rattle.machine.specs.Step.{Step, after_step}
use Rattle.machine.specs.Changes.{step_adds, step_removes, step_sender}
use Rattle.machine.specs.Views.{Changes, IsSeen, InOrder}

-- the changes of a step in a world
abbrev pub changes_of : Network → World → Step → (applied : Bool) → Changes
changes_of g w step applied = record { sender = step_sender g step; adds = step_adds g w step; removes = step_removes g w step; applied = applied }

-- the changes of a list of steps from a world on; a flag says whether a step's changes were applied, and a step without a flag wasn't
abbrev pub log_of : Network → World → List Step → (flags : List Bool) → List Changes
log_of g w [] flags = []
log_of g w (step ∷ steps) [] = changes_of g w step false ∷ log_of g (after_step g w step) steps []
log_of g w (step ∷ steps) (flag ∷ flags) = changes_of g w step flag ∷ log_of g (after_step g w step) steps flags

-- of a run's changes, each sender's are applied in order
abbrev pub AppliesInOrder : Network → List Step → (flags : List Bool) → Type 0
AppliesInOrder g steps flags = InOrder (log_of g opening steps flags)

-- the worker sees the pointstamp as active
abbrev pub Sees : Network → List Step → (flags : List Bool) → Pointstamp → Type 0
Sees g steps flags = IsSeen (active_count g opening) (log_of g opening steps flags)

-- the worker sees no active pointstamp that could result in p
abbrev pub SeesNoneBefore : Network → List Step → (flags : List Bool) → Pointstamp → Type 0
SeesNoneBefore g steps flags p = NoneOf g.Could (Sees g steps flags) p

-- the worker sees no other active pointstamp that could result in p
abbrev pub SeesNoOtherBefore : Network → List Step → (flags : List Bool) → Pointstamp → Type 0
SeesNoOtherBefore g steps flags p = NoOtherOf g.Could (Sees g steps flags) p
