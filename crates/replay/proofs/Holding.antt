-- What is in hand after each step.
use Rattle.std.proofs.Common.{◌≡◌, ◌≢◌, ◌<◌, ◌∙◌, ◌++◌, ◌∷◌, [], arith, replicate, ℕ, List, length, Option, Some, None, true, false, cond, sym, ap, inl, inr}
use Rattle.std.specs.Prelude.{slice_get}
use Rattle.std.proofs.lemmas.Bool.{cases_lt}
use Rattle.std.proofs.lemmas.Bool.Decides.{eqb_tells}
use Rattle.std.proofs.lemmas.List.{get_or_append_left, get_or-replicate, get_or_past, length-replicate}
use Rattle.machine.specs.Network.{Network}
use Rattle.machine.specs.World.{World, Event, Held}
use Rattle.machine.specs.Step.{Step, after_step, put}
use Rattle.machine.specs.Choices.{IsClaimBy}
use Rattle.events.specs.Jobs.{Pass}
use Rattle.board.specs.Shown.{Shown, tables}
use Rattle.board.specs.Commits.{IsOf}
use Rattle.replay.specs.Hands.{HoldsAll, HoldsNone, IsHand, in_hand}
use Rattle.replay.specs.Steps.{Stays}

pub hand_stays : (s t : Shown) (hand : List (Option Pass)) → IsHand s hand → Stays s t → IsHand t hand
hand_stays s t hand h stays = record {
  places = h.places ∙ sym stays.workers;
  own = λ k p at. (ap (λ ts. slice_get ts p.worker) stays.tables ∙ (h.own k p at).0, (h.own k p at).1);
}

-- no worker's held event changes
pub hold_same : (w v : World) (n : ℕ) (hand : List (Option Pass)) → ((k : ℕ) → v.held k ≡ w.held k) → HoldsAll w n hand → HoldsAll v n hand
hold_same w v n hand same h = record {
  there = λ k event lt at. h.there k event lt (sym (same k) ∙ at);
  held = λ k p lt at. same k ∙ h.held k p lt at;
}

-- one worker takes an event, which goes to its place in hand
pub hold_taken : (w v : World) (n k : ℕ) (hand new : List (Option Pass)) (p : Pass) → HoldsAll w n hand → v.held k ≡ Held.holding false p.job.happening → ((j : ℕ) → j ≢ k → v.held j ≡ w.held j)
    → in_hand new k ≡ Some p → ((j : ℕ) → j ≢ k → in_hand new j ≡ in_hand hand j) → HoldsAll v n new
hold_taken w v n k hand new p h held others at rest = record { there = there; held = back }
  where
    there : (j : ℕ) (event : Event) → j < n → v.held j ≡ Held.holding false event → (q : Pass) × (in_hand new j ≡ Some q)
    there j event lt e = elim (eqb_tells j k) [
      | inl same ↦ (p, ap (in_hand new) same.1 ∙ at)
      | inr other ↦ let before = h.there j event lt (sym (others j other.1) ∙ e) in (before.0, rest j other.1 ∙ before.1)
    ]

    back : (j : ℕ) (q : Pass) → j < n → in_hand new j ≡ Some q → v.held j ≡ Held.holding false q.job.happening
    back j q lt e = elim (eqb_tells j k) [
      | inl same ↦ let here : in_hand new k ≡ Some q = sym (ap (in_hand new) same.1) ∙ e in let one : p ≡ q = (let f : Some p ≡ Some q = sym at ∙ here in cc) in ap v.held same.1 ∙ held ∙ ap (λ (x : Pass). Held.holding false x.job.happening) one
      | inr other ↦ others j other.1 ∙ h.held j q lt (sym (rest j other.1) ∙ e)
    ]

-- one worker's event ends, and its place in hand is empty
pub hold_ended : (w v : World) (n k : ℕ) (hand new : List (Option Pass)) → HoldsAll w n hand → v.held k ≡ Held.nothing → ((j : ℕ) → j ≢ k → v.held j ≡ w.held j)
    → in_hand new k ≡ None → ((j : ℕ) → j ≢ k → in_hand new j ≡ in_hand hand j) → HoldsAll v n new
hold_ended w v n k hand new h held others at rest = record { there = there; held = back }
  where
    there : (j : ℕ) (event : Event) → j < n → v.held j ≡ Held.holding false event → (q : Pass) × (in_hand new j ≡ Some q)
    there j event lt e = elim (eqb_tells j k) [
      | inl same ↦ absurd (let f : Held.nothing ≡ Held.holding false event = sym (ap v.held same.1 ∙ held) ∙ e in cc)
      | inr other ↦ let before = h.there j event lt (sym (others j other.1) ∙ e) in (before.0, rest j other.1 ∙ before.1)
    ]

    back : (j : ℕ) (q : Pass) → j < n → in_hand new j ≡ Some q → v.held j ≡ Held.holding false q.job.happening
    back j q lt e = elim (eqb_tells j k) [
      | inl same ↦ absurd (let f : None ≡ Some q = sym (ap (in_hand new) same.1 ∙ at) ∙ e in cc)
      | inr other ↦ others j other.1 ∙ h.held j q lt (sym (rest j other.1) ∙ e)
    ]

-- one worker takes an event and ends it without having it in hand
pub hold_through : (w v : World) (n k : ℕ) (hand : List (Option Pass)) → HoldsAll w n hand → w.held k ≡ Held.nothing → v.held k ≡ Held.nothing → ((j : ℕ) → j ≢ k → v.held j ≡ w.held j) → HoldsAll v n hand
hold_through w v n k hand h before after others = hold_same w v n hand same h
  where
    same : (j : ℕ) → v.held j ≡ w.held j
    same j = elim (eqb_tells j k) [
      | inl here ↦ ap v.held here.1 ∙ after ∙ sym (ap w.held here.1 ∙ before)
      | inr other ↦ others j other.1
    ]

-- one worker takes an event and abandons it without having it in hand
pub hold_abandoned : (w v : World) (n k : ℕ) (hand : List (Option Pass)) (abandoned : Event) → HoldsAll w n hand → w.held k ≡ Held.nothing → v.held k ≡ Held.holding true abandoned → ((j : ℕ) → j ≢ k → v.held j ≡ w.held j) → HoldsAll v n hand
hold_abandoned w v n k hand abandoned h before after others = record { there = there; held = back }
  where
    there : (j : ℕ) (event : Event) → j < n → v.held j ≡ Held.holding false event → (q : Pass) × (in_hand hand j ≡ Some q)
    there j event lt e = elim (eqb_tells j k) [
      | inl same ↦ absurd (let f : Held.holding true abandoned ≡ Held.holding false event = sym (ap v.held same.1 ∙ after) ∙ e in cc)
      | inr other ↦ h.there j event lt (sym (others j other.1) ∙ e)
    ]

    back : (j : ℕ) (q : Pass) → j < n → in_hand hand j ≡ Some q → v.held j ≡ Held.holding false q.job.happening
    back j q lt e = elim (eqb_tells j k) [
      | inl same ↦ absurd (let f : Held.nothing ≡ Held.holding false q.job.happening = sym (ap w.held same.1 ∙ before) ∙ h.held j q lt e in cc)
      | inr other ↦ others j other.1 ∙ h.held j q lt e
    ]

pub put_other : {X : Type 0} (f : ℕ → X) (k : ℕ) (x : X) (j : ℕ) → j ≢ k → put f k x j ≡ f j
put_other f k x j other = elim (eqb_tells j k) [
  | inl same ↦ absurd (other same.1)
  | inr no_way ↦ ap (λ b. cond b x (f j)) no_way.0
]

-- a claim changes only what its worker holds
pub claim_others : (g : Network) (w : World) (k : ℕ) (taken : Step) → IsClaimBy k taken → (j : ℕ) → j ≢ k → (after_step g w taken).held j ≡ w.held j
claim_others g w k (Step.feed i records) by j other = absurd by
claim_others g w k (Step.seal i) by j other = absurd by
claim_others g w k (Step.close i) by j other = absurd by
claim_others g w k (Step.claim_message k' at m) by j other = put_other w.held k' (Held.holding false (Event.arrival m)) j (λ e. other (e ∙ by))
claim_others g w k (Step.claim_request k' at n) by j other = put_other w.held k' (Held.holding false (Event.notification n)) j (λ e. other (e ∙ by))
claim_others g w k (Step.merge k' at m n) by j other = absurd by
claim_others g w k (Step.commit k' event out) by j other = absurd by
claim_others g w k (Step.abandon k' event) by j other = absurd by

pub commit_others : (w : World) (k j : ℕ) → j ≢ k → put w.held k Held.nothing j ≡ w.held j
commit_others w k j other = put_other w.held k Held.nothing j other

-- ---- nothing in hand

in_none : (n k : ℕ) → in_hand (replicate n None) k ≡ None
in_none n k = elim (cases_lt k n) [
  | inl lt ↦ get_or-replicate n k None None lt
  | inr ge ↦ get_or_past (replicate n None) k None (omega (arith, length-replicate n (the None)))
]
  where
    the : Option Pass → Option Pass
    the x = x

pub empty_is_hand : (s : Shown) (n : ℕ) (hand : List (Option Pass)) → n ≡ length s.sides → hand ≡ replicate n None → IsHand s hand
empty_is_hand s n hand size is = record {
  places = ap length is ∙ length-replicate n None ∙ size;
  own = λ k p at. absurd (let f : None ≡ Some p = sym (ap (λ (xs : List (Option Pass)). in_hand xs k) is ∙ in_none n k) ∙ at in cc);
}

pub holds_nothing : (w : World) (n m : ℕ) (hand : List (Option Pass)) → hand ≡ replicate m None → HoldsNone w n → HoldsAll w n hand
holds_nothing w n m hand is none = record {
  there = λ k event lt e. absurd (let f : Held.nothing ≡ Held.holding false event = sym (none k lt) ∙ e in cc);
  held = λ k p lt at. absurd (let f : None ≡ Some p = sym (ap (λ (xs : List (Option Pass)). in_hand xs k) is ∙ in_none m k) ∙ at in cc);
}

-- the last place is removed, and its event abandoned; the others are still the board's
pub last_off : (s t : Shown) (rest new : List (Option Pass)) (x : Option Pass) → rest ≡ new ++ x ∷ [] → tables t ≡ tables s → ((k : ℕ) (p : Pass) → in_hand rest k ≡ Some p → IsOf s p) → (k : ℕ) (p : Pass) → in_hand new k ≡ Some p → IsOf t p
last_off s t rest new x e same own k p at = elim (cases_lt k (length new)) [
  | inl lt ↦ ap (λ ts. slice_get ts p.worker) same ∙ own k p (ap (λ (xs : List (Option Pass)). in_hand xs k) e ∙ get_or_append_left new (x ∷ []) None k lt ∙ at)
  | inr ge ↦ absurd (let f : None ≡ Some p = sym (get_or_past new k None ge) ∙ at in cc)
]
