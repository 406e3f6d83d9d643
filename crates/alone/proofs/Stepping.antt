-- What workers do in several steps.
use Rattle.std.proofs.Common.{◌≡◌, ℕ, zero, suc, List, [], ◌∷◌, refl, sym, subst}
use Rattle.machine.specs.Step.{Step}
use Rattle.ending.specs.Ending.{IsWork}
use Rattle.events.specs.Jobs.{Pass}
use Rattle.board.specs.Answers.{Gathers, Hands, MergesAll}
use Rattle.board.specs.Kept.{Goes}
use Rattle.board.specs.Shown.{Shown}
use Rattle.alone.specs.Moves.{Advances, Moves}
use Rattle.alone.specs.Scenes.{IsLive, Works}
use Rattle.alone.proofs.Less.{claim_works}
use Rattle.alone.proofs.Moved.{steps_work, works_not, works_on}

-- ---- steps

pub stays : (s t : Shown) → t ≡ s → Moves s t
stays s t same = (0, same)

pub one_step : (s t : Shown) (step : Step) → IsWork step → Goes s step t → Advances s t
one_step s t step work goes = (0, (s, refl, (step, work, goes)))

pub advances_move : (s t : Shown) → Advances s t → Moves s t
advances_move s t (n, steps) = (suc n, steps)

pub moves_on : (s t u : Shown) → Moves s t → Moves t u → Moves s u
moves_on s t u first (zero, same) = subst (Moves s) (sym same) first
moves_on s t u first (suc n, (v, before, last)) = let a = moves_on s t v first (n, before) in (suc a.0, (v, a.1, last))

pub then_advances : (s t u : Shown) → Moves s t → Advances t u → Advances s u
then_advances s t u first (n, (v, before, last)) = let a = moves_on s t v first (n, before) in (a.0, (v, a.1, last))

pub advances_on : (s t u : Shown) → Advances s t → Moves t u → Advances s u
advances_on s t u first (zero, same) = subst (Advances s) (sym same) first
advances_on s t u first (suc n, steps) = then_advances s t u (advances_move s t first) (n, steps)

pub moves_work : (s t : Shown) → Moves s t → IsLive s → Works s t
moves_work s t (zero, same) live = subst (Works s) (sym same) (works_not s live)
moves_work s t (suc n, (u, before, (step, work, goes))) live =
    let a = moves_work s u (n, before) live in
    works_on s u t a (steps_work u t step work goes a.grows.live)

pub merges_move : (k : ℕ) (places : List ℕ) (s t : Shown) → MergesAll k places s t → Moves s t
merges_move k [] s t same = (0, same)
merges_move k (at ∷ places) s t (u, before, (first, second, goes)) =
    let a = merges_move k places s u before in
    let step : Step = Step.merge k at first second in
    (suc a.0, (u, a.1, (step, tt, goes)))

pub hands_advance : (s u t : Shown) (k : ℕ) (p : Pass) → Gathers s k u → Hands u k t p → Advances s t
hands_advance s u t k p (places, gathers) h = then_advances s u t (merges_move k places s u gathers) (one_step u t h.taken (claim_works k h.taken h.by) h.goes)

-- messages that are merged
pub gathers_move : (s u : Shown) (k : ℕ) → Gathers s k u → Moves s u
gathers_move s u k (places, gathers) = merges_move k places s u gathers

-- an event that was claimed and ended
pub ends_move : (s u t v : Shown) (k : ℕ) (p : Pass) (step : Step) → Gathers s k u → Hands u k t p → IsWork step → Goes t step v → Moves s v
ends_move s u t v k p step gathers h work goes =
    moves_on s t v (advances_move s t (hands_advance s u t k p gathers h)) (advances_move t v (one_step t v step work goes))

-- a claim that found no event
pub still_move : (s u t : Shown) (k : ℕ) → Gathers s k u → t ≡ u → Moves s t
still_move s u t k gathers same = subst (Moves s) (sym same) (gathers_move s u k gathers)
