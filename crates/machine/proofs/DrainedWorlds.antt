-- A world is drained exactly if nothing is active in it.
use Rattle.std.proofs.Common.{◌≡◌, ◌<◌, ℕ, zero, Bool, true, false, List, [], ◌∷◌, Some, refl, sym, ap, ◌∙◌, slice_get}
use Rattle.semantics.specs.Could.{Pointstamp, at_vertex}
use Rattle.semantics.specs.Time.{at_epoch}
use Rattle.machine.specs.Network.{Network}
use Rattle.machine.specs.World.{World, Message, Request, Held}
use Rattle.machine.specs.Active.{IsActive, message_pointstamp, request_pointstamp, event_pointstamp}
use Rattle.machine.specs.Drained.{IsDrained}
use Rattle.machine.proofs.Laws.{IsNetwork}

module _ (g : Network) (law : IsNetwork g) (w : World) where
  none_in : {X : Type 0} (xs : List X) (at : ℕ) (x : X) → xs ≡ [] → slice_get xs at ≡ Some x → ⊥
  none_in [] at x e s = cc
  none_in (y ∷ xs) at x e s = cc

  pub idle : IsDrained g w → (p : Pointstamp) → IsActive g w p → ⊥
  idle is p (IsActive.of_input i s e) = let z : true ≡ false = sym (is.closed i (law.role_is_input i s)) ∙ e in cc
  idle is p (IsActive.of_mail k at m l s) = none_in (w.mail k) at m (is.mail k l) s
  idle is p (IsActive.of_request k at n l s) = none_in (w.requests k) at n (is.requests k l) s
  idle is p (IsActive.of_held k up event l s) = let z : Held.nothing ≡ Held.holding up event = sym (is.held k l) ∙ s in cc

  pub drained : ((p : Pointstamp) → IsActive g w p → ⊥) → IsDrained g w
  drained none =
      record {
        closed = λ i l. shut i l (w.closed i) refl;
        mail = λ k l. boxes k l (w.mail k) refl;
        requests = λ k l. no_requests k l (w.requests k) refl;
        held = λ k l. hands k l (w.held k) refl;
      }
    where
      shut : (i : ℕ) → i < g.inputs → (b : Bool) → w.closed i ≡ b → w.closed i ≡ true
      shut i l true e = e
      shut i l false e = absurd (none (at_vertex i (at_epoch (w.open_epoch i))) (IsActive.of_input i (law.input_has_role i l) e))

      boxes : (k : ℕ) → k < g.workers → (xs : List Message) → w.mail k ≡ xs → w.mail k ≡ []
      boxes k l [] e = e
      boxes k l (m ∷ ms) e = absurd (none (message_pointstamp m) (IsActive.of_mail k zero m l (ap (λ xs. slice_get xs zero) e)))

      no_requests : (k : ℕ) → k < g.workers → (xs : List Request) → w.requests k ≡ xs → w.requests k ≡ []
      no_requests k l [] e = e
      no_requests k l (n ∷ ns) e = absurd (none (request_pointstamp n) (IsActive.of_request k zero n l (ap (λ xs. slice_get xs zero) e)))

      hands : (k : ℕ) → k < g.workers → (x : Held) → w.held k ≡ x → w.held k ≡ Held.nothing
      hands k l Held.nothing e = e
      hands k l (Held.holding up event) e = absurd (none (event_pointstamp event) (IsActive.of_held k up event l e))
