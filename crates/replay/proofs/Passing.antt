-- An epoch has passed in one world that the board shows exactly if it has in another.
use Rattle.std.proofs.Common.{◌∙◌, ℕ, sym, ap, subst}
use Rattle.std.specs.Prelude.{slice_get}
use Rattle.semantics.specs.Could.{Pointstamp, at_vertex}
use Rattle.semantics.specs.Time.{at_epoch}
use Rattle.machine.specs.World.{World}
use Rattle.machine.specs.Active.{IsActive}
use Rattle.machine.specs.Frontier.{Passed}
use Rattle.board.specs.Shown.{Shown, net}
use Rattle.board.specs.Showing.{Shows}

active_same : (s : Shown) (v w : World) → Shows s v → Shows s w → (q : Pointstamp) → IsActive (net s) w q → IsActive (net s) v q
active_same s v w sv sw q (IsActive.of_input i role closed) =
    subst (λ (e : ℕ). IsActive (net s) v (at_vertex i (at_epoch e))) (sv.open_epoch i ∙ sym (sw.open_epoch i)) (IsActive.of_input i role (sv.closed i ∙ sym (sw.closed i) ∙ closed))
active_same s v w sv sw q (IsActive.of_mail k at m lt is) = IsActive.of_mail k at m lt (ap (λ ms. slice_get ms at) (sv.mail k lt ∙ sym (sw.mail k lt)) ∙ is)
active_same s v w sv sw q (IsActive.of_request k at n lt is) = IsActive.of_request k at n lt (ap (λ ns. slice_get ns at) (sv.requests k lt ∙ sym (sw.requests k lt)) ∙ is)
active_same s v w sv sw q (IsActive.of_held k up event lt is) = IsActive.of_held k up event lt (sv.held k lt ∙ sym (sw.held k lt) ∙ is)

pub passed_same : (s : Shown) (v w : World) (output epoch : ℕ) → Shows s v → Shows s w → Passed (net s) v output epoch → Passed (net s) w output epoch
passed_same s v w output epoch sv sw passed = λ q active. passed q (active_same s v w sv sw q active)
