-- Views for which nothing waits yet.
use Rattle.std.proofs.Common.{◌≡◌, ℕ, zero, suc, ◌+◌, ◌≤◌, ◌<◌, List, [], ◌∷◌, ◌++◌, length, drop, Some, slice_get, slice_index_or, refl, sym, ap, subst, ◌∙◌, arith}
use Rattle.std.proofs.lemmas.Option.{same_Some}
use Rattle.std.proofs.Math.Seq.{drop-nil}
use Rattle.semantics.specs.Limits.{max_workers}
use Rattle.semantics.specs.Multiset.{total}
use Rattle.semantics.specs.Graph.{Graph}
use Rattle.semantics.specs.Could.{Pointstamp, IsTimeAt}
use Rattle.machine.specs.Views.{Changes}
use Rattle.views.specs.Waiting.{waiting_adds, waiting_removes}
use Rattle.views.specs.Queued.{Queued, batches_of, AllKnown}
use Rattle.views.specs.WorkerViews.{untaken_at, waiting_of, AreViews}
use Rattle.views.proofs.SenderSums.{sum_none}

-- one more element at the end
pub push_each : {X : Type 0} (P : X → Type 0) (xs : List X) (y : X) → ((i : ℕ) (x : X) → slice_get xs i ≡ Some x → P x) → P y → (i : ℕ) (x : X) → slice_get (xs ++ (y ∷ [])) i ≡ Some x → P x
push_each P [] y h p zero x e = subst P (same_Some y x e) p
push_each P [] y h p (suc zero) x e = absurd (let k = e in cc)
push_each P [] y h p (suc (suc i)) x e = absurd (let k = e in cc)
push_each P (z ∷ xs) y h p zero x e = h zero x e
push_each P (z ∷ xs) y h p (suc i) x e = push_each P xs y (λ j. h (suc j)) p i x e

left_none : (qs : List Queued) → ((s : ℕ) (q : Queued) → slice_get qs s ≡ Some q → q.changes ≡ []) → (s w : ℕ) → untaken_at qs s w ≡ []
left_none [] h s w = refl
left_none (q ∷ qs) h zero w = ap (λ l. drop (slice_index_or q.taken w (length l)) l) (h zero q refl) ∙ drop-nil (slice_index_or q.taken w 0)
left_none (q ∷ qs) h (suc s) w = left_none qs (λ t. h (suc t)) s w

module _ (g : Graph) (content : Pointstamp → ℕ) (qs : List Queued) (n : ℕ) (some : 0 < n) (few : n ≤ max_workers)
    (known : (q : Pointstamp) → 0 < content q → IsTimeAt g q.location q.time)
    (queues_long : length qs ≡ n + 1) (queues_each : (s : ℕ) (q : Queued) → slice_get qs s ≡ Some q → (q.changes ≡ []) × (length q.taken ≡ n)) where
  pub none_waits : (w s : ℕ) → waiting_of qs w s ≡ []
  none_waits w s = ap (batches_of s) (left_none qs (λ s q e. (queues_each s q e).0) s w)

  no_adds : (w : ℕ) (p : Pointstamp) → waiting_adds (waiting_of qs) n w p ≡ 0
  no_adds w p = sum_none (suc n) (λ s. total (λ (b : Changes). b.adds p) (waiting_of qs w s)) (λ s. ap (total (λ (b : Changes). b.adds p)) (none_waits w s))

  no_removes : (w : ℕ) (p : Pointstamp) → waiting_removes (waiting_of qs) n w p ≡ 0
  no_removes w p = sum_none (suc n) (λ s. total (λ (b : Changes). b.removes p) (waiting_of qs w s)) (λ s. ap (total (λ (b : Changes). b.removes p)) (none_waits w s))

  pub views_first : AreViews g content n qs 0
  views_first =
      record {
        some = some;
        few = few;
        senders = let f = queues_long in omega arith;
        known = known;
        history = λ w l.
            record {
              first = content;
              log = [];
              posted = tt;
              order = tt;
              seen = λ p. let a = no_adds w p in let r = no_removes w p in omega arith;
              there = λ p. omega arith;
              waits_for = λ s l. sym (none_waits w s);
            };
        sender = λ s q e. let k = queues_each s q e in record { taken = k.1; known = subst (AllKnown g) (sym k.0) tt; free = omega arith };
      }
