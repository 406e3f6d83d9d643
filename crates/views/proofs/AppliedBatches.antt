-- A worker takes a sender's next batch.
use Rattle.std.proofs.Common.{◌≡◌, ◌≢◌, ◌⊎◌, inl, inr, ℕ, suc, ◌<◌, Bool, true, false, eqb, List, [], ◌∷◌, length, Some, slice_get, slice_set, refl, sym, ap, subst, ◌∙◌, arith}
use Rattle.std.proofs.lemmas.Bool.Decides.{eqb_tells}
use Rattle.std.proofs.lemmas.Option.{same_Some, slice_get_within}
use Rattle.semantics.specs.Graph.{Graph}
use Rattle.semantics.specs.Could.{Pointstamp, CouldResultIn, NoneOf}
use Rattle.semantics.specs.Dataflow.{IsDataflow}
use Rattle.machine.specs.Views.{Changes}
use Rattle.views.specs.Waiting.{IsSeenBy, IsHistory, IsApplied}
use Rattle.views.specs.Queued.{Queued, untaken, batches_of, AllKnown, IsTaken}
use Rattle.views.specs.WorkerViews.{untaken_at, waiting_of, IsSender, AreViews}
use Rattle.semantics.specs.Multiset.{total}
use Rattle.views.proofs.SenderSums.{sum_same}
use Rattle.views.proofs.Histories.{history_applied, none_stays}
use Rattle.views.proofs.PostedBatches.{set_long, set_same, get_set_here, get_set_else, left_got, left_set_here, left_set_else}

module _ (g : Graph) (content : Pointstamp → ℕ) (workers : ℕ) (queues : List Queued) (spare s w : ℕ) (q q' : Queued)
    (h : AreViews g content workers queues spare) (got : slice_get queues s ≡ Some q) (there : w < workers)
    (is_taken : IsTaken (untaken q w) (untaken q' w))
    (others : (u : ℕ) → (u ≡ w → ⊥) → untaken q' u ≡ untaken q u)
    (same_changes : q'.changes ≡ q.changes) (same_taken : length q'.taken ≡ length q.taken) (same_free : q'.free ≡ q.free) where
  abbrev queues' : List Queued
  queues' = slice_set queues s q'

  within : s < length queues
  within = slice_get_within queues s q got

  sends : s < suc workers
  sends = let a = within in let b = h.senders in omega arith

  abbrev b : Changes
  b = record { sender = s; adds = is_taken.adds; removes = is_taken.removes; applied = false }

  pub took_first : waiting_of queues w s ≡ b ∷ waiting_of queues' w s
  took_first = ap (batches_of s) (left_got queues s w q got) ∙ is_taken.first s ∙ ap (λ x. b ∷ batches_of s x) (sym (left_set_here queues s w q' within))

  left_else : (u t : ℕ) → (u ≡ w → t ≡ s → ⊥) → untaken_at queues' t u ≡ untaken_at queues t u
  left_else u t d = go (eqb_tells t s) (eqb_tells u w)
    where
      go : ((eqb t s ≡ true) × (t ≡ s)) ⊎ ((eqb t s ≡ false) × (t ≢ s)) → ((eqb u w ≡ true) × (u ≡ w)) ⊎ ((eqb u w ≡ false) × (u ≢ w)) → untaken_at queues' t u ≡ untaken_at queues t u
      go (inr x) y = left_set_else queues s t u q' x.1
      go (inl x) (inl y) = absurd (d y.1 x.1)
      go (inl x) (inr y) = subst (λ i. untaken_at queues' i u ≡ untaken_at queues i u) (sym x.1) (left_set_here queues s u q' within ∙ others u y.1 ∙ sym (left_got queues s u q got))

  pub waits_else : (u t : ℕ) → (u ≡ w → t ≡ s → ⊥) → waiting_of queues' u t ≡ waiting_of queues u t
  waits_else u t d = ap (batches_of t) (left_else u t d)

  -- another worker's history is the same
  other_history : (u : ℕ) → (u ≡ w → ⊥) → IsHistory g workers content (waiting_of queues) u → IsHistory g workers content (waiting_of queues') u
  other_history u d k =
      record {
        first = k.first;
        log = k.log;
        posted = k.posted;
        order = k.order;
        seen = λ p.
            let a = sum_same (suc workers) (λ t. total (λ (c : Changes). c.adds p) (waiting_of queues u t)) (λ t. total (λ (c : Changes). c.adds p) (waiting_of queues' u t)) (λ t l. ap (total (λ (c : Changes). c.adds p)) (waits_else u t (λ e _. d e))) in
            let r = sum_same (suc workers) (λ t. total (λ (c : Changes). c.removes p) (waiting_of queues u t)) (λ t. total (λ (c : Changes). c.removes p) (waiting_of queues' u t)) (λ t l. ap (total (λ (c : Changes). c.removes p)) (waits_else u t (λ e _. d e))) in
            let i = k.seen p in omega arith;
        there = k.there;
        waits_for = λ t l. k.waits_for t l ∙ sym (waits_else u t (λ e _. d e));
      }

  each_history : (u : ℕ) → u < workers → IsHistory g workers content (waiting_of queues') u
  each_history u l = go (eqb_tells u w)
    where
      go : ((eqb u w ≡ true) × (u ≡ w)) ⊎ ((eqb u w ≡ false) × (u ≢ w)) → IsHistory g workers content (waiting_of queues') u
      go (inl x) =
          subst (λ i. IsHistory g workers content (waiting_of queues') i) (sym x.1)
          (history_applied g workers w s content (waiting_of queues) (waiting_of queues') b (h.history w there) sends took_first (λ t d. waits_else w t (λ _. d)))
      go (inr x) = other_history u x.1 (h.history u l)

  each_sender : (t : ℕ) (r : Queued) → slice_get queues' t ≡ Some r → IsSender g workers spare r
  each_sender t r gr = go (eqb_tells t s)
    where
      go : ((eqb t s ≡ true) × (t ≡ s)) ⊎ ((eqb t s ≡ false) × (t ≢ s)) → IsSender g workers spare r
      go (inl y) =
          let e : q' ≡ r = same_Some q' r (sym (get_set_here queues s q' within) ∙ ap (slice_get queues') (sym y.1) ∙ gr) in
          let j = h.sender s q got in
          subst (IsSender g workers spare) e (record { taken = same_taken ∙ j.taken; known = subst (AllKnown g) (sym same_changes) j.known; free = let f = j.free in omega arith })
      go (inr y) = h.sender t r (sym (get_set_else queues s t q' y.1) ∙ gr)

  pub views_applied : AreViews g content workers queues' spare
  views_applied =
      record {
        some = h.some;
        few = h.few;
        senders = set_long queues s q' ∙ h.senders;
        known = h.known;
        history = each_history;
        sender = each_sender;
      }

  pub stays_applied : ∥ IsDataflow g ∥₁ → (p : Pointstamp) → NoneOf (CouldResultIn g) (IsSeenBy content (waiting_of queues) workers w) p → NoneOf (CouldResultIn g) (IsSeenBy content (waiting_of queues') workers w) p
  stays_applied flow p none =
      none_stays g workers w s content (waiting_of queues) (waiting_of queues') b (h.history w there) sends took_first (λ t d. waits_else w t (λ _. d)) h.some flow p none

-- the result of a call
pub record Outcome (g : Graph) (content : Pointstamp → ℕ) (workers : ℕ) (queues : List Queued) (spare s w : ℕ) (queues' : List Queued) (b : Bool) : Type 0 where
  pub late : AreViews g content workers queues' spare
  pub applied : IsApplied w s (waiting_of queues) (waiting_of queues') b
  pub others : (u t : ℕ) → (u ≡ w → t ≡ s → ⊥) → waiting_of queues' u t ≡ waiting_of queues u t
  pub stays : (p : Pointstamp) → NoneOf (CouldResultIn g) (IsSeenBy content (waiting_of queues) workers w) p → NoneOf (CouldResultIn g) (IsSeenBy content (waiting_of queues') workers w) p

pub outcome : (g : Graph) (content : Pointstamp → ℕ) (workers : ℕ) (queues : List Queued) (spare s w : ℕ) (q q' : Queued) (b : Bool)
    → AreViews g content workers queues spare → slice_get queues s ≡ Some q → w < workers → ∥ IsDataflow g ∥₁
    → (b ≡ true → IsTaken (untaken q w) (untaken q' w)) → (b ≡ false → (untaken q w ≡ []) × (q' ≡ q))
    → ((u : ℕ) → (u ≡ w → ⊥) → untaken q' u ≡ untaken q u) → q'.changes ≡ q.changes → length q'.taken ≡ length q.taken → q'.free ≡ q.free
    → Outcome g content workers queues spare s w (slice_set queues s q') b
outcome g content workers queues spare s w q q' true h got there flow took none others changes taken free =
    record {
      late = views_applied g content workers queues spare s w q q' h got there (took refl) others changes taken free;
      applied = IsApplied.took (record { sender = s; adds = (took refl).adds; removes = (took refl).removes; applied = false }) (took_first g content workers queues spare s w q q' h got there (took refl) others changes taken free);
      others = waits_else g content workers queues spare s w q q' h got there (took refl) others changes taken free;
      stays = stays_applied g content workers queues spare s w q q' h got there (took refl) others changes taken free flow;
    }
outcome g content workers queues spare s w q q' false h got there flow took none others changes taken free =
    let n = none refl in
    let eq : slice_set queues s q' ≡ queues = ap (slice_set queues s) n.1 ∙ set_same queues s q got in
    let e : waiting_of queues w s ≡ [] = ap (batches_of s) (left_got queues s w q got ∙ n.0) in
    subst (λ (l : List Queued). Outcome g content workers queues spare s w l false) (sym eq)
    (record { late = h; applied = IsApplied.none e e; others = λ u t d. refl; stays = λ p f. f })
