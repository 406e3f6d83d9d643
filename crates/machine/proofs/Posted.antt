-- Changes that were posted remove nothing that wasn't there, and justify each pointstamp that they add.
use Rattle.std.proofs.Common.{◌≡◌, ◌≢◌, ◌≤◌, ◌<◌, ℕ, zero, suc, ◌+◌, ◌-◌, List, [], ◌∷◌, ◌⊎◌, inl, inr, refl, subst, arith}
use Rattle.semantics.specs.Multiset.{total}
use Rattle.semantics.specs.Could.{Pointstamp}
use Rattle.machine.specs.Network.{Network}
use Rattle.machine.specs.Views.{Changes, all_adds, all_removes, IsThere}
use Rattle.machine.specs.Posting.{AtInput, content_after, ArePosted}
use Rattle.machine.proofs.JustifiedLogs.{RemovedOrThere, Justified, IsLog}
use Rattle.machine.proofs.Laws.{Lower}

pub posted_same : (could : Pointstamp → Pointstamp → Type 0) (inputs feeder : ℕ) (first first' : Pointstamp → ℕ) (log : List Changes) → ((p : Pointstamp) → first p ≡ first' p) → ArePosted could inputs feeder first log → ArePosted could inputs feeder first' log
posted_same could inputs feeder first first' log h posted = subst (λ (f : Pointstamp → ℕ). ArePosted could inputs feeder f log) (λ i p. h p i) posted

module _ (g : Network) where
  covered : (first : Pointstamp → ℕ) (log : List Changes) → ArePosted g.Could g.inputs g.workers first log → (p : Pointstamp) → all_removes log p ≤ all_adds first log p
  covered first [] posted p = omega arith
  covered first (b ∷ log) posted p =
      let a : b.removes p ≤ first p = posted.0.there p in
      let c : all_removes log p ≤ first p + b.adds p - b.removes p + total (λ b. b.adds p) log = covered (content_after first b) log posted.1 p in
      omega arith

  -- an input's pointstamp stays until the feeder removes it
  stays : (there : Pointstamp → Type 0) (first : Pointstamp → ℕ) (log : List Changes) → ArePosted g.Could g.inputs g.workers first log → (p : Pointstamp) → AtInput g.inputs p → 0 < first p
      → (all_removes log p < all_adds first log p → there p) → RemovedOrThere there g.workers log p
  stays there first [] posted p at l end = end (omega arith)
  stays there first (b ∷ log) posted p at l end = go (b.removes p) refl (stays there (content_after first b) log posted.1 p at)
    where
      go : (n : ℕ) → b.removes p ≡ n → (0 < content_after first b p → (all_removes log p < all_adds (content_after first b) log p → there p) → RemovedOrThere there g.workers log p)
          → ((b.sender ≡ g.workers) × (0 < b.removes p)) ⊎ RemovedOrThere there g.workers log p
      go (suc n) e ih = inl (posted.0.feeder_only p at (omega arith), omega arith)
      go zero e ih = inr (ih (omega arith) (λ x. end (let y : all_removes log p < first p + b.adds p - b.removes p + total (λ b. b.adds p) log = x in omega arith)))

  justified : (there : Pointstamp → Type 0) (first : Pointstamp → ℕ) (log : List Changes) → ArePosted g.Could g.inputs g.workers first log
      → ((p : Pointstamp) → all_removes log p < all_adds first log p → there p) → Justified g g.workers there log
  justified there first [] posted end = tt
  justified there first (b ∷ log) posted end = (λ q l. go q (posted.0.justified q l), justified there (content_after first b) log posted.1 further)
    where
      further : (p : Pointstamp) → all_removes log p < all_adds (content_after first b) log p → there p
      further p x =
          end p (let y : all_removes log p < first p + b.adds p - b.removes p + total (λ b. b.adds p) log = x in let a : b.removes p ≤ first p = posted.0.there p in omega arith)

      input : (p : Pointstamp) → AtInput g.inputs p → 0 < first p → b.sender ≡ g.workers → (n : ℕ) → b.removes p ≡ n → (0 < b.removes p) ⊎ ((b.sender ≡ g.workers) × RemovedOrThere there g.workers log p)
      input p at l s (suc n) e = inl (omega arith)
      input p at l s zero e = inr (s, stays there (content_after first b) log posted.1 p at (omega arith) (further p))

      go : (q : Pointstamp) → (p : Pointstamp) × (p ≢ q) × g.Could p q × ((0 < b.removes p) ⊎ ((b.sender ≡ g.workers) × AtInput g.inputs p × (0 < first p)))
          → (p : Pointstamp) × Lower g p q × g.Could p q × ((0 < b.removes p) ⊎ ((b.sender ≡ g.workers) × RemovedOrThere there g.workers log p))
      go q (p, ne, c, inl x) = (p, (c, ne), c, inl x)
      go q (p, ne, c, inr (s, at, l)) = (p, (c, ne), c, input p at l s (b.removes p) refl)

  pub posted_is_log : (first : Pointstamp → ℕ) (log : List Changes) → ArePosted g.Could g.inputs g.workers first log → IsLog g first log
  posted_is_log first log posted = record { covered = covered first log posted; justified = justified (IsThere first log) first log posted (λ p x. x) }
