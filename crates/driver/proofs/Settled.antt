-- What is known of an event that was computed, and settled then.
use Rattle.std.proofs.Common.{◌≡◌, ◌∙◌, sym, Option, Ok, Err, IfErr, IfOk}
use Rattle.board.specs.Jobs.{Pass}
use Rattle.rows.specs.declared.fault.WorkFault.{WorkFault}
use Rattle.rows.specs.declared.fault.WorkFault.TheVariants.{Count, NoMemory}
use Rattle.driver.specs.Ends.{Computed, IsFaultOf, event_of}

-- it is the event that was to be computed
pub event_is : (computed : Computed) (p : Pass) (X : (Pass × Option WorkFault) × WorkFault → Type 0) → IfOk computed (λ d. d ≡ p) → IfErr computed (λ e. (e.0.0 ≡ p) × X e) → event_of computed ≡ p
event_is (Ok d) p X done spoiled = done
event_is (Err e) p X done spoiled = spoiled.0

-- it was computed, if it was committed
pub computed_there : (computed : Computed) {T : Type 0} (sent : T) (P : Type 0) → IsFaultOf computed {T = T} (Ok sent) → IfOk computed (λ d. P) → P
computed_there (Ok d) sent P is there = there
computed_there (Err e) sent P is there = absurd is

-- a count is the reason only where computing it was refused for one
pub refused_there : (T : Type 0) (computed : Computed) (f : WorkFault) (P : Type 0) → IsFaultOf computed {T = T} (Err f) → f ≡ Count → IfErr computed (λ e. e.1 ≡ Count → P) → P
refused_there T (Ok d) f P is count over = absurd (let e : NoMemory ≡ Count = sym is ∙ count in cc)
refused_there T (Err e) f P is count over = over (sym is ∙ count)
