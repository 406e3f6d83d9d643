-- The choices of a worker, by what the board shows.
use Rattle.std.proofs.Common.{◌≡◌, ◌<◌, ◌≤◌, ◌+◌, ℕ, false, List, length, refl, sym, ap, ◌∙◌, subst, arith, slice_get, Some, inl, inr}
use Rattle.semantics.specs.Graph.{Graph}
use Rattle.semantics.specs.Could.{Pointstamp}
use Rattle.machine.specs.Active.{request_pointstamp}
use Rattle.machine.specs.Choices.{Kth, MayDeliver}
use Rattle.machine.specs.Step.{Step}
use Rattle.machine.specs.World.{Message, Request}
use Rattle.tokens.specs.declared.rule.Place.TheVariants.{Home}
use Rattle.events.specs.Jobs.{Pass}
use Rattle.board.specs.Answers.{Hands}
use Rattle.board.specs.Claims.{HandsMessage, HandsRequest}
use Rattle.board.specs.Deliverable.{IsDeliverable}
use Rattle.board.specs.Kept.{IsKept}
use Rattle.board.specs.Picks.{IsChoice, IsCertain, LacksChoice}
use Rattle.board.specs.Shown.{Shown, net, side_at}
use Rattle.board.proofs.HandedOut.{hands_message, hands_request, message_taken, request_taken}
use Rattle.board.proofs.KthElements.{kth_same, kth_there}
use Rattle.board.proofs.Places.{get_index}
use Rattle.board.proofs.Worlds.{no_other, no_other_back}

-- a choice behind the messages is known where the view is up to date
pub behind_mail : {P R : Type 0} (s : Shown) (k n : ℕ) → length (side_at s k).mail ≤ n → (P → R) → IsCertain P s k n → R
behind_mail s k n behind f (inl lt) = absurd (omega (arith, behind, lt))
behind_mail s k n behind f (inr up) = f up

module _ (graph : Graph) (content : Pointstamp → ℕ) (s : Shown) (kept : IsKept graph content s) (k : ℕ) (there : k < length s.sides) where
  pub chosen_message : (at : ℕ) (m : Message) → slice_get (side_at s k).mail at ≡ Some m → IsChoice s k at (Step.claim_message k at m)
  chosen_message at m got w is = (refl, refl, ap (λ ms. slice_get ms at) (is.mail k there) ∙ got)

  pub chosen_request : (n i at : ℕ) (r : Request) → n ≡ length (side_at s k).mail + i → slice_get (side_at s k).requests at ≡ Some r
      → Kth (IsDeliverable graph (λ q. 0 < content q)) (side_at s k).requests i at → IsChoice s k n (Step.claim_request k at r)
  chosen_request n i at r e got kth w is =
      let P : List Request → Type 0 = λ rs. Kth (MayDeliver (net s) w) rs i at in
      let may : Kth (MayDeliver (net s) w) (side_at s k).requests i at =
      kth_same (IsDeliverable graph (λ q. 0 < content q)) (MayDeliver (net s) w) (λ x. no_other graph content s kept w is (request_pointstamp x)) (λ x. no_other_back graph content s kept w is (request_pointstamp x)) (side_at s k).requests i at kth in
      let m = ap (λ (ms : List Message). length ms) (is.mail k there) in
      (refl, ap (λ rs. slice_get rs at) (is.requests k there) ∙ got, i, omega (arith, e, m), subst P (sym (is.requests k there)) may)

  -- what is handed out is the choice
  module _ (free : (side_at s k).place ≡ Home) (runs : s.stopped ≡ false) (t : Shown) (at : ℕ) (p : Pass) where
    pub picks_message : HandsMessage s t k at p → (hands : Hands s k t p) × IsChoice s k at hands.taken
    picks_message h =
        let P : Step → Type 0 = λ x. IsChoice s k at x in
        (hands_message graph content s kept k there free runs t at p h, subst P (sym (message_taken graph content s kept k there free runs t at p h)) (chosen_message at h.message h.got))

    pub kth_front : (h : HandsRequest s t k at p) (i : ℕ) → Kth (IsDeliverable graph (λ q. 0 < content q)) (side_at s k).requests i at → IsDeliverable graph (λ q. 0 < content q) h.request
    kth_front h i kth =
        let o = kth_there (IsDeliverable graph (λ q. 0 < content q)) (side_at s k).requests i at kth in
        let same : o.0 ≡ h.request = (let e : Some o.0 ≡ Some h.request = sym o.1 ∙ h.got in cc) in
        subst (IsDeliverable graph (λ q. 0 < content q)) same o.2

    pub picks_request : (h : HandsRequest s t k at p) (n i : ℕ) → n ≡ length (side_at s k).mail + i → Kth (IsDeliverable graph (λ q. 0 < content q)) (side_at s k).requests i at
        → (hands : Hands s k t p) × IsChoice s k n hands.taken
    picks_request h n i e kth =
        let front : IsDeliverable graph (λ q. 0 < content q) h.request = kth_front h i kth in
        let P : Step → Type 0 = λ x. IsChoice s k n x in
        (hands_request graph content s kept k there free runs t at p h front, subst P (sym (request_taken graph content s kept k there free runs t at p h front)) (chosen_request n i at h.request e h.got kth))

  -- the worker lacks the choice if no message has that number, and no request has it after the messages
  pub lacks : (n i : ℕ) → n ≡ length (side_at s k).mail + i → ((at : ℕ) → Kth (IsDeliverable graph (λ q. 0 < content q)) (side_at s k).requests i at → ⊥) → LacksChoice s k n
  lacks n i e none w (Step.claim_message k' at m) is c =
      let got : slice_get (side_at s k).mail n ≡ Some m = ap (λ ms. slice_get ms n) (sym (is.mail k there)) ∙ c.2 in
      let l = (get_index (side_at s k).mail n m m got).0 in
      absurd (omega (arith, l, e))
  lacks n i e none w (Step.claim_request k' at r) is c =
      let m = ap (λ (ms : List Message). length ms) (is.mail k there) in
      let same : c.2 ≡ i = (let f : n ≡ length (w.mail k) + c.2 = c.3 in omega (arith, f, e, m)) in
      let P : List Request → Type 0 = λ rs. Kth (MayDeliver (net s) w) rs c.2 at in
      let Q : ℕ → Type 0 = λ j. Kth (IsDeliverable graph (λ q. 0 < content q)) (side_at s k).requests j at in
      none at
      (subst Q same (kth_same (MayDeliver (net s) w) (IsDeliverable graph (λ q. 0 < content q)) (λ x. no_other_back graph content s kept w is (request_pointstamp x)) (λ x. no_other graph content s kept w is (request_pointstamp x)) (side_at s k).requests c.2 at
      (subst P (is.requests k there) c.4)))
  lacks n i e none w (Step.feed j records) is c = c
  lacks n i e none w (Step.seal j) is c = c
  lacks n i e none w (Step.close j) is c = c
  lacks n i e none w (Step.merge j at m m') is c = c
  lacks n i e none w (Step.commit j event out) is c = c
  lacks n i e none w (Step.abandon j event) is c = c
