-- Room is made, and what waits and what is seen stays.
use Rattle.std.proofs.Common.{◌≡◌, ◌≢◌, ◌⊎◌, inl, inr, ℕ, zero, suc, ◌+◌, ◌*◌, ◌≤◌, ◌<◌, true, false, eqb, List, [], ◌∷◌, length, drop, Some, slice_get, slice_set, slice_index_or, refl, sym, ap, subst, ◌∙◌, arith, length-drop}
use Rattle.std.proofs.lemmas.Bool.Decides.{eqb_tells}
use Rattle.std.proofs.lemmas.Option.{same_Some, slice_get_within}
use Rattle.std.proofs.lemmas.Bool.{cases_lt}
use Rattle.std.proofs.lemmas.List.{get_or_default, get_or_past}
use Rattle.std.proofs.Math.Seq.{drop-nil}
use Rattle.semantics.specs.Graph.{Graph}
use Rattle.semantics.specs.Could.{Pointstamp}
use Rattle.semantics.proofs.Cases.{item_there, below_or_last}
use Rattle.views.specs.Waiting.{Waiting, IsHistory}
use Rattle.views.specs.Queued.{Queued, batches_of, AllKnown, IsSameQueue, IsQueue, IsOneOf, EndsFrom}
use Rattle.views.specs.WorkerViews.{untaken_at, waiting_of, IsSender, AreViews, AreSameQueues}
use Rattle.views.specs.declared.queue.Change.{Change}
use Rattle.views.proofs.PostedBatches.{set_long, get_set_here, get_set_else, left_got}

same_queue : (q : Queued) → IsSameQueue q q
same_queue q = record { left_same = λ w. refl; taken_long = refl; still_known = λ g k. k; free_kept = omega arith }

queue_on : (p q r : Queued) → IsSameQueue p q → IsSameQueue q r → IsSameQueue p r
queue_on p q r a b =
    record {
      left_same = λ w. b.left_same w ∙ a.left_same w;
      taken_long = b.taken_long ∙ a.taken_long;
      still_known = λ g k. b.still_known g (a.still_known g k);
      free_kept = let x = a.free_kept in let y = b.free_kept in omega arith;
    }

pub queues_same : (qs : List Queued) → AreSameQueues qs qs
queues_same qs = record { long = refl; each = λ s q q' a b. subst (IsSameQueue q) (same_Some q q' (sym a ∙ b)) (same_queue q) }

pub queues_set : (old qs : List Queued) (s : ℕ) (q q' : Queued) → AreSameQueues old qs → slice_get qs s ≡ Some q → IsSameQueue q q' → AreSameQueues old (slice_set qs s q')
queues_set old qs s q q' h got same =
    record {
      long = set_long qs s q' ∙ h.long;
      each = λ t p r a b. go t p r a b (eqb_tells t s);
    }
  where
    go : (t : ℕ) (p r : Queued) → slice_get old t ≡ Some p → slice_get (slice_set qs s q') t ≡ Some r → ((eqb t s ≡ true) × (t ≡ s)) ⊎ ((eqb t s ≡ false) × (t ≢ s)) → IsSameQueue p r
    go t p r a b (inl x) =
        let e : q' ≡ r = same_Some q' r (sym (get_set_here qs s q' (slice_get_within qs s q got)) ∙ ap (slice_get (slice_set qs s q')) (sym x.1) ∙ b) in
        subst (IsSameQueue p) e (queue_on p q q' (h.each t p q a (ap (slice_get qs) x.1 ∙ got)) same)
    go t p r a b (inr x) = h.each t p r a (sym (get_set_else qs s t q' x.1) ∙ b)

-- if there is an element at a place now, there was one before
pub there_too : {X : Type 0} (old new : List X) (i : ℕ) (y : X) → length new ≡ length old → slice_get new i ≡ Some y → (x : X) × (slice_get old i ≡ Some x)
there_too old [] zero y e h = absurd (let k = h in cc)
there_too old [] (suc i) y e h = absurd (let k = h in cc)
there_too [] (z ∷ new) i y e h = absurd (omega arith)
there_too (x ∷ old) (z ∷ new) zero y e h = (x, refl)
there_too (x ∷ old) (z ∷ new) (suc i) y e h = there_too old new i y (omega arith) h

left_beyond : (qs : List Queued) (s w : ℕ) → length qs ≤ s → untaken_at qs s w ≡ []
left_beyond [] s w h = refl
left_beyond (q ∷ qs) zero w h = absurd (omega arith)
left_beyond (q ∷ qs) (suc s) w h = left_beyond qs s w (omega arith)

pub left_same : (old new : List Queued) → AreSameQueues old new → (s w : ℕ) → untaken_at new s w ≡ untaken_at old s w
left_same old new h s w = go (cases_lt s (length new))
  where
    go : (s < length new) ⊎ (length new ≤ s) → untaken_at new s w ≡ untaken_at old s w
    go (inl l) =
        let n = item_there new s l in
        let o = there_too old new s n.0 h.long n.1 in
        left_got new s w n.0 n.1 ∙ (h.each s o.0 n.0 o.1 n.1).left_same w ∙ sym (left_got old s w o.0 o.1)
    go (inr l) = left_beyond new s w l ∙ sym (left_beyond old s w (let e = h.long in omega arith))

pub waiting_same : (old new : List Queued) → AreSameQueues old new → waiting_of new ≡ waiting_of old
waiting_same old new h = λ i w s. batches_of s (left_same old new h s w i)

pub views_kept : (g : Graph) (content : Pointstamp → ℕ) (workers : ℕ) (qs qs' : List Queued) (spare spare' : ℕ) → AreViews g content workers qs spare → AreSameQueues qs qs'
    → ((s : ℕ) (q : Queued) → slice_get qs' s ≡ Some q → 2 * spare' ≤ q.free) → AreViews g content workers qs' spare'
views_kept g content workers qs qs' spare spare' h sq free =
    record {
      some = h.some;
      few = h.few;
      senders = sq.long ∙ h.senders;
      known = h.known;
      history = λ w l. subst (λ (x : Waiting). IsHistory g workers content x w) (sym (waiting_same qs qs' sq)) (h.history w l);
      sender = λ s q' gq. queue s q' gq (there_too qs qs' s q' sq.long gq);
    }
  where
    queue : (s : ℕ) (q' : Queued) → slice_get qs' s ≡ Some q' → (x : Queued) × (slice_get qs s ≡ Some x) → IsSender g workers spare' q'
    queue s q' gq (q, gq0) =
        let k = h.sender s q gq0 in
        let a = sq.each s q q' gq0 gq in
        record { taken = a.taken_long ∙ k.taken; known = a.still_known g k.known; free = free s q' gq }

-- ---- a queue forgets what all have taken

drop_drop : (n m : ℕ) (xs : List Change) → drop n (drop m xs) ≡ drop (m + n) xs
drop_drop n zero xs = ap (λ k. drop k xs) (none_more n)
  where
    none_more : (k : ℕ) → k ≡ 0 + k
    none_more k = omega arith
drop_drop n (suc m) [] = drop-nil n ∙ sym (drop-nil (suc m + n))
drop_drop n (suc m) (x ∷ xs) = drop_drop n m xs ∙ ap (λ k. drop k (x ∷ xs)) (one_more m n)
  where
    one_more : (a b : ℕ) → suc (a + b) ≡ suc a + b
    one_more a b = omega arith

drop_whole : (xs : List Change) → drop (length xs) xs ≡ []
drop_whole [] = refl
drop_whole (x ∷ xs) = drop_whole xs

module _ (xs : List Change) (ts ts' : List ℕ) (m : ℕ) (q : IsQueue xs ts) (long : length ts' ≡ length ts) (lowered : (w d : ℕ) → w < length ts → slice_index_or ts' w d + m ≡ slice_index_or ts w d) where
  pub left_lowered : (w : ℕ) → drop (slice_index_or ts' w (length (drop m xs))) (drop m xs) ≡ drop (slice_index_or ts w (length xs)) xs
  left_lowered w = go (cases_lt w (length ts))
    where
      go : (w < length ts) ⊎ (length ts ≤ w) → drop (slice_index_or ts' w (length (drop m xs))) (drop m xs) ≡ drop (slice_index_or ts w (length xs)) xs
      go (inl l) =
          let a = lowered w (length xs) l in
          let b = get_or_default ts' w (length (drop m xs)) (length xs) (let e = long in omega arith) in
          drop_drop (slice_index_or ts' w (length (drop m xs))) m xs ∙ ap (λ k. drop k xs) (omega arith)
      go (inr l) =
          let a = get_or_past ts w (length xs) l in
          let b = get_or_past ts' w (length (drop m xs)) (let e = long in omega arith) in
          ap (λ k. drop k (drop m xs)) b ∙ drop_whole (drop m xs) ∙ sym (ap (λ k. drop k xs) a ∙ drop_whole xs)

  below_length : (w : ℕ) → w < length ts' → m + slice_index_or ts' w (length (drop m xs)) ≤ length xs
  below_length w l =
      let k : w < length ts = (let e = long in omega arith) in
      let a = lowered w (length xs) k in
      let b = get_or_default ts' w (length (drop m xs)) (length xs) l in
      let c = q.within w k in
      omega arith

  pub queue_lowered : EndsFrom false (drop m xs) → IsQueue (drop m xs) ts'
  queue_lowered ends =
      record {
        ends = ends;
        within = λ w l. let a = below_length w l in let d = length-drop m xs in omega arith;
        between = λ w l. subst (EndsFrom false) (sym (left_lowered w)) (q.between w (let e = long in omega arith));
      }

  pub same_lowered : (free free' : ℕ) → free ≤ free' → ((g : Graph) → AllKnown g xs → AllKnown g (drop m xs))
      → IsSameQueue (record { changes = xs; taken = ts; free = free }) (record { changes = drop m xs; taken = ts'; free = free' })
  same_lowered free free' f k = record { left_same = left_lowered; taken_long = long; still_known = k; free_kept = f }

pub free_set : (qs : List Queued) (s n : ℕ) (q' : Queued) → s < length qs → ((t : ℕ) (q : Queued) → t < s → slice_get qs t ≡ Some q → n ≤ q.free) → n ≤ q'.free → (t : ℕ) (q : Queued) → t < s + 1 → slice_get (slice_set qs s q') t ≡ Some q → n ≤ q.free
free_set qs s n q' l h f t q m got = go (below_or_last t s m)
  where
    go : (t < s) ⊎ (t ≡ s) → n ≤ q.free
    go (inl x) = h t q x (sym (get_set_else qs s t q' (λ e. omega arith)) ∙ got)
    go (inr x) =
        let e : q' ≡ q = same_Some q' q (sym (get_set_here qs s q' l) ∙ ap (slice_get (slice_set qs s q')) (sym x) ∙ got) in
        subst (λ (r : Queued). n ≤ r.free) e f

-- the least place is that of some worker, or the end
pub ends_at : (xs : List Change) (ts : List ℕ) (m n : ℕ) → IsQueue xs ts → n ≡ length xs → IsOneOf ts n m → EndsFrom false (drop m xs)
ends_at xs ts m n q e (IsOneOf.end f) = subst (EndsFrom false) (sym (ap (λ k. drop k xs) (f ∙ e) ∙ drop_whole xs)) tt
ends_at xs ts m n q e (IsOneOf.place w l f) = subst (λ k. EndsFrom false (drop k xs)) (sym (f ∙ get_or_default ts w n (length xs) l)) (q.between w l)

pub more_free : (q : Queued) (xs : List Change) (ts : List ℕ) (free free' : ℕ) → IsSameQueue q (record { changes = xs; taken = ts; free = free }) → q.free ≤ free' → IsSameQueue q (record { changes = xs; taken = ts; free = free' })
more_free q xs ts free free' s f = record { left_same = s.left_same; taken_long = s.taken_long; still_known = s.still_known; free_kept = f }

pub kept_free : (g : Graph) (content : Pointstamp → ℕ) (workers : ℕ) (qs qs' : List Queued) (spare : ℕ) → AreViews g content workers qs spare → AreSameQueues qs qs' → (s : ℕ) (q : Queued) → slice_get qs' s ≡ Some q → 2 * spare ≤ q.free
kept_free g content workers qs qs' spare h sq s q' got =
    let o = there_too qs qs' s q' sq.long got in let a = (h.sender s o.0 o.1).free in let b = (sq.each s o.0 q' o.1 got).free_kept in omega arith
