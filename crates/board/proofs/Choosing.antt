-- Whether a worker has a choice.
use Rattle.std.proofs.Common.{◌≡◌, ◌≢◌, ◌<◌, ◌≤◌, ℕ, true, false, List, [], ◌∷◌, length, refl, sym, ap, ◌∙◌, subst, arith, slice_get, Some}
use Rattle.semantics.specs.Graph.{Graph}
use Rattle.semantics.specs.Could.{Pointstamp, CouldResultIn, NoOtherOf}
use Rattle.machine.specs.Active.{request_pointstamp}
use Rattle.machine.specs.Choices.{IsClaimBy}
use Rattle.machine.specs.Step.{Step, Allowed, MayClaim}
use Rattle.machine.specs.World.{World, Message, Request, Held}
use Rattle.tokens.specs.declared.rule.Place.{Place}
use Rattle.tokens.specs.declared.rule.Place.TheVariants.{Home, Out, Lost}
use Rattle.events.specs.Jobs.{Job}
use Rattle.board.specs.Answers.{HasChoice, HasNoChoice}
use Rattle.board.specs.Kept.{IsKept}
use Rattle.board.specs.Shown.{Shown, net, side_at, held_of}
use Rattle.board.proofs.Claiming.{may_claim}
use Rattle.board.proofs.Worlds.{no_other}

first_of : (ms : List Message) → 0 < length ms → (m : Message) × (slice_get ms 0 ≡ Some m)
first_of [] l = absurd (omega (arith, l))
first_of (m ∷ ms) l = (m, refl)

-- a claim is allowed only where the worker may claim
may_of : (s : Shown) (w : World) (k : ℕ) (step : Step) → Allowed (net s) w step → IsClaimBy k step → MayClaim (net s) w k
may_of s w k (Step.claim_message i at m) ok by = subst (MayClaim (net s) w) by ok.0
may_of s w k (Step.claim_request i at r) ok by = subst (MayClaim (net s) w) by ok.0
may_of s w k (Step.feed i records) ok by = absurd by
may_of s w k (Step.seal i) ok by = absurd by
may_of s w k (Step.close i) ok by = absurd by
may_of s w k (Step.merge i at m n) ok by = absurd by
may_of s w k (Step.commit i event out) ok by = absurd by
may_of s w k (Step.abandon i event) ok by = absurd by

pub home_of : (p : Place Job) → held_of p ≡ Held.nothing → p ≡ Home
home_of Home e = refl
home_of (Out j) e = absurd cc
home_of (Lost j) e = absurd cc

pub none_stopped : (s : Shown) (k : ℕ) → s.stopped ≡ true → HasNoChoice s k
none_stopped s k stopped w step shows ok by =
    let may = (may_of s w k step ok by).2 in
    let same = shows.stopped in
    absurd cc

pub none_there : (s : Shown) (k : ℕ) → length s.sides ≤ k → HasNoChoice s k
none_there s k l w step shows ok by = let may = (may_of s w k step ok by).0 in omega (arith, l, may)

pub none_free : (s : Shown) (k : ℕ) → k < length s.sides → (side_at s k).place ≢ Home → HasNoChoice s k
none_free s k there out w step shows ok by = out (home_of (side_at s k).place (sym (shows.held k there) ∙ (may_of s w k step ok by).1))

module _ (graph : Graph) (content : Pointstamp → ℕ) (s : Shown) (kept : IsKept graph content s) (k : ℕ) (there : k < length s.sides) (free : (side_at s k).place ≡ Home) (runs : s.stopped ≡ false) where
  pub choice_message : 0 < length (side_at s k).mail → HasChoice s k
  choice_message l w shows =
      let f = first_of (side_at s k).mail l in
      (Step.claim_message k 0 f.0, (may_claim s w shows k there free runs, ap (λ ms. slice_get ms 0) (shows.mail k there) ∙ f.1), refl)

  pub choice_request : (at : ℕ) (r : Request) → slice_get (side_at s k).requests at ≡ Some r → NoOtherOf (CouldResultIn graph) (λ q. 0 < content q) (request_pointstamp r) → HasChoice s k
  choice_request at r got front w shows =
      (Step.claim_request k at r, (may_claim s w shows k there free runs, ap (λ rs. slice_get rs at) (shows.requests k there) ∙ got, no_other graph content s kept w shows (request_pointstamp r) front), refl)
