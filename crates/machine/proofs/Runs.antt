-- Whole runs.
use Rattle.std.proofs.Common.{◌≡◌, ◌≢◌, ◌<◌, ℕ, ◌+◌, Bool, true, false, cond, List, [], ◌∷◌, ◌++◌, ◌⊎◌, inl, inr, refl, sym, ap, ◌∙◌, subst, arith}
use Rattle.semantics.specs.Multiset.{total, Record, count, one_if}
use Rattle.semantics.specs.Time.{Time, same_counters}
use Rattle.semantics.specs.Kinds.{Role}
use Rattle.machine.specs.Network.{Network}
use Rattle.machine.specs.World.{Event, World, opening}
use Rattle.machine.specs.Active.{sum_below}
use Rattle.machine.specs.Step.{Step, Allowed, after_step}
use Rattle.machine.specs.Run.{Run, Reached}
use Rattle.machine.proofs.Arrivals.{history_done, keep_arrival}
use Rattle.machine.proofs.Counting.{below_zero}
use Rattle.machine.proofs.Derived.{headline}
use Rattle.machine.proofs.Kept.{some, History, under_way, made, Kept}
use Rattle.machine.proofs.Ports.{end_empty}
use Rattle.machine.proofs.Laws.{IsNetwork}
use Rattle.machine.proofs.NetFlow.{HasFlows}
use Rattle.machine.proofs.Notifications.{history_notified, keep_notification}
use Rattle.machine.proofs.Steps.{keep_feed, keep_seal, keep_close, keep_claim_message, keep_claim_request, keep_merge, keep_abandon}
use Rattle.machine.proofs.RunTheorems.{EveryRunKeeps}

pub not_notified_role : Role → Bool
not_notified_role Role.input = true
not_notified_role Role.stateless = true
not_notified_role Role.stateful = true
not_notified_role Role.notified = false
not_notified_role Role.output = true

is_told : (k : Role) → k ≢ Role.notified → not_notified_role k ≡ true
unfolding not_notified_role
is_told Role.input s = refl
is_told Role.stateless s = refl
is_told Role.stateful s = refl
is_told Role.notified s = absurd (s refl)
is_told Role.output s = refl

is_untold : (k : Role) → k ≡ Role.notified → not_notified_role k ≡ false
unfolding not_notified_role
is_untold k e = ap not_notified_role e

abbrev pub start : Network → History
start g = record { done = λ k e t. []; notified = λ k v t. not_notified_role (g.role v) }

made_nothing : (g : Network) → IsNetwork g → (v q : ℕ) (t : Time) (r : Record) (k : ℕ) → made g (start g) v q t r k ≡ 0
made_nothing g law v q t r k = ap (λ n. cond (not_notified_role (g.role v)) n 0) (ap (count r) (law.op_nothing v q t (λ p s. []) (λ p lp. refl))) ∙ both (not_notified_role (g.role v))
  where
    both : (b : Bool) → cond {A = ℕ} b 0 0 ≡ 0
    both true = refl
    both false = refl

total_nothing : {X : Type 0} (xs : List X) (f : X → ℕ) → ((x : X) → f x ≡ 0) → total f xs ≡ 0
total_nothing [] f h = refl
total_nothing (x ∷ xs) f h = let a = h x in let b = total_nothing xs f h in omega arith

pub keep_opening : (g : Network) → IsNetwork g → Kept g opening (start g)
keep_opening g law =
    record {
      balance = λ e t r le.
          let a : sum_below g.workers (λ k. count r ((start g).done k e t)) ≡ 0 = below_zero g.workers _ (λ k lk. refl) in
          let b : sum_below g.workers (under_way opening e t r) ≡ 0 = below_zero g.workers (under_way opening e t r) (λ k lk. refl) in
          omega arith;
      from_input = λ e t le s. record { counts = λ r. nothing (same_counters t.counters []) r };
      from_vertex = λ e u r le fits s. sym (total_nothing (g.times_before (g.source e) u) _ (λ t. below_zero g.workers _ (λ k lk. made_nothing g law (g.source e) (g.out_port e) t r k)));
      notifications = λ k v t lk s. ap (λ b. 0 + one_if b) (is_untold (g.role v) s) ∙ sym (ap some (end_empty (g.ports v)));
      always_notified = λ k v t s. is_told (g.role v) s;
      settled = λ k v t lk s due. absurd (not_due v s due);
      at_home = λ k e t lk le s r l. absurd (omega arith);
      good_mail = λ k lk. tt;
      good_requests = λ k lk. tt;
      good_held = λ k lk. tt;
      shards = λ k v p t lk lp s. refl;
      output = λ v n r is. sym (below_zero g.workers _ (λ k lk. refl));
    }
  where
    nothing : (b : Bool) (r : Record) → 0 ≡ count r (cond {A = List Record} b [] [])
    nothing true r = refl
    nothing false r = refl

    not_due : (v : ℕ) → g.role v ≡ Role.notified → (not_notified_role (g.role v) ≡ true) ⊎ (0 < 0) → ⊥
    not_due v s (inl e) = let x : false ≡ true = sym (is_untold (g.role v) s) ∙ e in absurd cc
    not_due v s (inr l) = omega arith

pub keep_step : (g : Network) → IsNetwork g → HasFlows g → (w : World) (h : History) → Kept g w h → (step : Step) → Allowed g w step → (h' : History) × Kept g (after_step g w step) h'
keep_step g law flows w h keeps (Step.feed i rs) ok = (h, keep_feed g law w h keeps i rs ok)
keep_step g law flows w h keeps (Step.seal i) ok = (h, keep_seal g law w h keeps i ok)
keep_step g law flows w h keeps (Step.close i) ok = (h, keep_close g law w h keeps i ok)
keep_step g law flows w h keeps (Step.claim_message k at m) ok = (h, keep_claim_message g law w h keeps k at m ok)
keep_step g law flows w h keeps (Step.claim_request k at n) ok = (h, keep_claim_request g law w h keeps k at n ok)
keep_step g law flows w h keeps (Step.merge k at m n) ok = (h, keep_merge g law w h keeps k at m n ok)
keep_step g law flows w h keeps (Step.commit k (Event.arrival m) out) ok = (history_done h k m, keep_arrival g law w h keeps flows k m out ok)
keep_step g law flows w h keeps (Step.commit k (Event.notification n) out) ok = (history_notified h k n, keep_notification g law w h keeps flows k n out ok)
keep_step g law flows w h keeps (Step.abandon k event) ok = (h, keep_abandon g law w h keeps k event ok)

keep_run : (g : Network) → IsNetwork g → HasFlows g → (steps : List Step) (w w' : World) (h : History) → Kept g w h → Run g w steps w' → (h' : History) × Kept g w' h'
keep_run g law flows [] w w' h keeps run = (h, subst (λ (x : World). Kept g x h) run keeps)
keep_run g law flows (step ∷ steps) w w' h keeps run =
    let next = keep_step g law flows w h keeps step run.0 in
    keep_run g law flows steps (after_step g w step) w' next.0 next.1 run.1

pub keep_reached : (g : Network) → IsNetwork g → HasFlows g → (w : World) → Reached g w → (h : History) × Kept g w h
keep_reached g law flows w reached = keep_run g law flows reached.0 opening w (start g) (keep_opening g law) reached.1

pub every_run_keeps : EveryRunKeeps
every_run_keeps g law flows w reached flow is = let k = keep_reached g law flows w reached in headline g law w k.0 k.1 flow is

run_more : (g : Network) (steps : List Step) (w w' : World) (step : Step) → Run g w steps w' → Allowed g w' step → Run g w (steps ++ step ∷ []) (after_step g w' step)
run_more g [] w w' step run ok = (subst (λ (x : World). Allowed g x step) (sym run) ok, ap (λ x. after_step g x step) run)
run_more g (s ∷ steps) w w' step run ok = (run.0, run_more g steps (after_step g w s) w' step run.1 ok)

-- a run can be continued by a step
pub reached_more : (g : Network) (w : World) (step : Step) → Reached g w → Allowed g w step → Reached g (after_step g w step)
reached_more g w step reached ok = (reached.0 ++ step ∷ [], run_more g reached.0 opening w step reached.1 ok)

pub reached_opening : (g : Network) → Reached g opening
reached_opening g = ([], refl)
