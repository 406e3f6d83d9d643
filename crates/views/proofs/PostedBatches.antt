-- What posting does to the queues.
use Rattle.std.proofs.Common.{◌≡◌, ◌≢◌, ◌⊎◌, inl, inr, ℕ, zero, suc, ◌+◌, ◌-◌, ◌≤◌, ◌<◌, ◌==◌, true, false, cond, eqb, List, [], ◌∷◌, ◌++◌, length, Some, slice_get, slice_set, refl, sym, ap, subst, ◌∙◌, arith}
use Rattle.std.proofs.lemmas.Bool.Decides.{eqb_tells}
use Rattle.std.proofs.lemmas.Option.{same_Some, slice_get_within}
use Rattle.semantics.specs.Graph.{Graph, input_count}
use Rattle.semantics.specs.Could.{Pointstamp, IsTimeAt, CouldResultIn}
use Rattle.semantics.proofs.Cases.{either_above_zero}
use Rattle.machine.specs.Posting.{MayPost}
use Rattle.progress.specs.Content.{times_in}
use Rattle.views.specs.Waiting.{batch}
use Rattle.views.specs.Queued.{Queued, untaken, batches_of, AllKnown}
use Rattle.views.specs.WorkerViews.{untaken_at, waiting_of, IsSender, AreViews}
use Rattle.views.proofs.Histories.{history_posted}

-- ---- lists

pub set_long : {X : Type 0} (xs : List X) (i : ℕ) (x : X) → length (slice_set xs i x) ≡ length xs
set_long [] i x = refl
set_long (y ∷ xs) zero x = refl
set_long (y ∷ xs) (suc i) x = ap suc (set_long xs i x)

pub set_same : {X : Type 0} (xs : List X) (i : ℕ) (x : X) → slice_get xs i ≡ Some x → slice_set xs i x ≡ xs
set_same [] i x h = refl
set_same (y ∷ xs) zero x h = ap (λ z. z ∷ xs) (sym (same_Some y x h))
set_same (y ∷ xs) (suc i) x h = ap (λ l. y ∷ l) (set_same xs i x h)

pub get_set_here : {X : Type 0} (xs : List X) (i : ℕ) (x : X) → i < length xs → slice_get (slice_set xs i x) i ≡ Some x
get_set_here [] i x h = absurd (omega arith)
get_set_here (y ∷ xs) zero x h = refl
get_set_here (y ∷ xs) (suc i) x h = get_set_here xs i x (omega arith)

pub get_set_else : {X : Type 0} (xs : List X) (i j : ℕ) (x : X) → (j ≡ i → ⊥) → slice_get (slice_set xs i x) j ≡ slice_get xs j
get_set_else [] i j x h = refl
get_set_else (y ∷ xs) zero zero x h = absurd (h refl)
get_set_else (y ∷ xs) zero (suc j) x h = refl
get_set_else (y ∷ xs) (suc i) zero x h = refl
get_set_else (y ∷ xs) (suc i) (suc j) x h = get_set_else xs i j x (λ e. h (ap suc e))

pub left_got : (queues : List Queued) (s w : ℕ) (q : Queued) → slice_get queues s ≡ Some q → untaken_at queues s w ≡ untaken q w
left_got [] zero w q h = absurd (let e = h in cc)
left_got [] (suc s) w q h = absurd (let e = h in cc)
left_got (p ∷ queues) zero w q h = ap (λ (x : Queued). untaken x w) (same_Some p q h)
left_got (p ∷ queues) (suc s) w q h = left_got queues s w q h

pub left_set_here : (queues : List Queued) (s w : ℕ) (q : Queued) → s < length queues → untaken_at (slice_set queues s q) s w ≡ untaken q w
left_set_here [] s w q h = absurd (omega arith)
left_set_here (p ∷ queues) zero w q h = refl
left_set_here (p ∷ queues) (suc s) w q h = left_set_here queues s w q (omega arith)

pub left_set_else : (queues : List Queued) (s t w : ℕ) (q : Queued) → (t ≡ s → ⊥) → untaken_at (slice_set queues s q) t w ≡ untaken_at queues t w
left_set_else [] s t w q h = refl
left_set_else (p ∷ queues) zero zero w q h = absurd (h refl)
left_set_else (p ∷ queues) zero (suc t) w q h = refl
left_set_else (p ∷ queues) (suc s) zero w q h = refl
left_set_else (p ∷ queues) (suc s) (suc t) w q h = left_set_else queues s t w q (λ e. h (ap suc e))

-- ---- a batch is posted

module _ (g : Graph) (content content' : Pointstamp → ℕ) (workers : ℕ) (queues : List Queued) (spare s : ℕ) (q q' : Queued) (ps rs : List Pointstamp)
    (h : AreViews g content workers queues spare) (got : slice_get queues s ≡ Some q)
    (is_posted : (w : ℕ) → w < length q.taken → (t : ℕ) → batches_of t (untaken q' w) ≡ batches_of t (untaken q w) ++ (batch t ps rs ∷ []))
    (same_taken : q'.taken ≡ q.taken)
    (known : AllKnown g q'.changes)
    (free : q.free ≡ q'.free + (length ps + length rs + 1))
    (some : 0 < length ps + length rs) (room : length ps + length rs ≤ spare)
    (changed : (p : Pointstamp) → content' p + times_in rs p ≡ content p + times_in ps p)
    (may : MayPost (CouldResultIn g) (input_count g) workers content (batch s ps rs)) where
  abbrev queues' : List Queued
  queues' = slice_set queues s q'

  within : s < length queues
  within = slice_get_within queues s q got

  sends : s < suc workers
  sends = let a = within in let b = h.senders in omega arith

  reached : (w : ℕ) → w < workers → w < length q.taken
  reached w l = let a = (h.sender s q got).taken in omega arith

  pub waits_here : (w : ℕ) → w < workers → waiting_of queues' w s ≡ waiting_of queues w s ++ (batch s ps rs ∷ [])
  waits_here w l =
      ap (batches_of s) (left_set_here queues s w q' within) ∙ is_posted w (reached w l) s ∙ ap (λ x. batches_of s x ++ (batch s ps rs ∷ [])) (sym (left_got queues s w q got))

  pub waits_else : (w t : ℕ) → (t ≡ s → ⊥) → waiting_of queues' w t ≡ waiting_of queues w t
  waits_else w t d = ap (batches_of t) (left_set_else queues s t w q' d)

  pub waits_after : (w t : ℕ) → w < workers → waiting_of queues' w t ≡ cond (t == s) (waiting_of queues w t ++ (batch s ps rs ∷ [])) (waiting_of queues w t)
  waits_after w t l = go (eqb_tells t s)
    where
      go : ((eqb t s ≡ true) × (t ≡ s)) ⊎ ((eqb t s ≡ false) × (t ≢ s)) → waiting_of queues' w t ≡ cond (t == s) (waiting_of queues w t ++ (batch s ps rs ∷ [])) (waiting_of queues w t)
      go (inl x) = rw x.0 (subst (λ i. waiting_of queues' w i ≡ waiting_of queues w i ++ (batch s ps rs ∷ [])) (sym x.1) (waits_here w l))
      go (inr x) = rw x.0 (waits_else w t x.1)

  pub views_posted : AreViews g content' workers queues' (spare - (length ps + length rs))
  views_posted =
      record {
        some = h.some;
        few = h.few;
        senders = set_long queues s q' ∙ h.senders;
        known = λ p l. go p (either_above_zero (content p) (times_in ps p) (let c = changed p in omega arith));
        history = λ w l. history_posted g workers w content content' (waiting_of queues) (waiting_of queues') (batch s ps rs) (h.history w l) refl sends may changed (λ t. waits_after w t l);
        sender = λ t r gr. here t r gr (eqb_tells t s);
      }
    where
      go : (p : Pointstamp) → (0 < content p) ⊎ (0 < times_in ps p) → IsTimeAt g p.location p.time
      go p (inl x) = h.known p x
      go p (inr x) = let m = may.justified p x in m.2.ends

      here : (t : ℕ) (r : Queued) → slice_get queues' t ≡ Some r → ((eqb t s ≡ true) × (t ≡ s)) ⊎ ((eqb t s ≡ false) × (t ≢ s)) → IsSender g workers (spare - (length ps + length rs)) r
      here t r gr (inl x) =
          let e : q' ≡ r = same_Some q' r (sym (get_set_here queues s q' within) ∙ ap (slice_get queues') (sym x.1) ∙ gr) in
          let k = h.sender s q got in
          subst (IsSender g workers (spare - (length ps + length rs))) e
          (record {
            taken = ap length same_taken ∙ k.taken;
            known = known;
            free = let f = k.free in omega arith;
          })
      here t r gr (inr x) =
          let k = h.sender t r (sym (get_set_else queues s t q' x.1) ∙ gr) in record { taken = k.taken; known = k.known; free = let f = k.free in omega arith }

-- what a batch may change is known
pub added_known : (g : Graph) (inputs feeder : ℕ) (content : Pointstamp → ℕ) (s : ℕ) (ps rs : List Pointstamp) → MayPost (CouldResultIn g) inputs feeder content (batch s ps rs) → (q : Pointstamp) → 0 < times_in ps q → IsTimeAt g q.location q.time
added_known g inputs feeder content s ps rs may q h = (may.justified q h).2.ends

pub removed_known : (g : Graph) (inputs feeder : ℕ) (content : Pointstamp → ℕ) (s : ℕ) (ps rs : List Pointstamp) → MayPost (CouldResultIn g) inputs feeder content (batch s ps rs) → ((q : Pointstamp) → 0 < content q → IsTimeAt g q.location q.time) → (q : Pointstamp) → 0 < times_in rs q → IsTimeAt g q.location q.time
removed_known g inputs feeder content s ps rs may known q h = known q (let a = may.there q in omega arith)
