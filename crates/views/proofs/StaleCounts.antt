-- What a late view still sees of what is gone.
use Rattle.std.proofs.Common.{◌≡◌, ◌≢◌, ◌⊎◌, inl, inr, ℕ, zero, suc, ◌+◌, ◌-◌, ◌<◌, Bool, true, false, List, [], ◌∷◌, length, refl, sym, ap, subst, arith}
use Rattle.std.specs.Prelude.{IsTrue, MatchBool, not, ◌↔◌}
use Rattle.std.proofs.lemmas.Bool.{true≢false}
use Rattle.progress.proofs.Options.{not_true}
use Rattle.semantics.specs.Multiset.{total}
use Rattle.semantics.specs.Graph.{Graph}
use Rattle.semantics.specs.Could.{Pointstamp, CouldResultIn, NoneOf, NoOtherOf}
use Rattle.semantics.specs.Dataflow.{IsDataflow}
use Rattle.semantics.proofs.Cases.{is_true}
use Rattle.machine.specs.Active.{one_if_same, sum_below}
use Rattle.machine.specs.Views.{Changes}
use Rattle.machine.proofs.Active.{one_tells, below_some}
use Rattle.progress.specs.Content.{IsBlocked, IsClear}
use Rattle.views.specs.Waiting.{waiting_adds, waiting_removes, IsSeenBy, IsHistory}
use Rattle.views.specs.Queued.{Queued, batches_of, onto_first, EndsFrom, adds_in, removes_in}
use Rattle.views.specs.WorkerViews.{untaken_at, waiting_of}
use Rattle.views.specs.Stale.{adds_for, removes_for, stale_count, LetsThrough}
use Rattle.views.specs.declared.queue.Change.{Change}
use Rattle.views.specs.declared.queue.Change.TheVariants.{Add, Remove, End}
use Rattle.views.proofs.TakenBatches.{some_parts}
use Rattle.views.proofs.Histories.{none_there, no_other_there}

-- ---- the changes of one sender

onto_adds : (a r : Pointstamp → ℕ) (bs : List Changes) (q : Pointstamp) → 0 < length bs → total (λ b. b.adds q) (onto_first a r bs) ≡ a q + total (λ b. b.adds q) bs
onto_adds a r [] q l = absurd (omega arith)
onto_adds a r (b ∷ bs) q l = omega arith

onto_removes : (a r : Pointstamp → ℕ) (bs : List Changes) (q : Pointstamp) → 0 < length bs → total (λ b. b.removes q) (onto_first a r bs) ≡ r q + total (λ b. b.removes q) bs
onto_removes a r [] q l = absurd (omega arith)
onto_removes a r (b ∷ bs) q l = omega arith

pub adds_total : (s : ℕ) (b : Bool) (xs : List Change) (q : Pointstamp) → EndsFrom b xs → total (λ b. b.adds q) (batches_of s xs) ≡ adds_in xs q
adds_total s b [] q e = refl
adds_total s true (End ∷ xs) q e = let a = adds_total s false xs q e in omega arith
adds_total s false (End ∷ xs) q e = let a = adds_total s false xs q e in omega arith
adds_total s true (Add p ∷ xs) q e = let a = adds_total s true xs q e in let o = onto_adds (λ q. one_if_same q p) (λ q. 0) (batches_of s xs) q (some_parts s xs e) in omega arith
adds_total s false (Add p ∷ xs) q e = let a = adds_total s true xs q e in let o = onto_adds (λ q. one_if_same q p) (λ q. 0) (batches_of s xs) q (some_parts s xs e) in omega arith
adds_total s true (Remove p ∷ xs) q e = let a = adds_total s true xs q e in let o = onto_adds (λ q. 0) (λ q. one_if_same q p) (batches_of s xs) q (some_parts s xs e) in omega arith
adds_total s false (Remove p ∷ xs) q e = let a = adds_total s true xs q e in let o = onto_adds (λ q. 0) (λ q. one_if_same q p) (batches_of s xs) q (some_parts s xs e) in omega arith

pub removes_total : (s : ℕ) (b : Bool) (xs : List Change) (q : Pointstamp) → EndsFrom b xs → total (λ b. b.removes q) (batches_of s xs) ≡ removes_in xs q
removes_total s b [] q e = refl
removes_total s true (End ∷ xs) q e = let a = removes_total s false xs q e in omega arith
removes_total s false (End ∷ xs) q e = let a = removes_total s false xs q e in omega arith
removes_total s true (Add p ∷ xs) q e = let a = removes_total s true xs q e in let o = onto_removes (λ q. one_if_same q p) (λ q. 0) (batches_of s xs) q (some_parts s xs e) in omega arith
removes_total s false (Add p ∷ xs) q e = let a = removes_total s true xs q e in let o = onto_removes (λ q. one_if_same q p) (λ q. 0) (batches_of s xs) q (some_parts s xs e) in omega arith
removes_total s true (Remove p ∷ xs) q e = let a = removes_total s true xs q e in let o = onto_removes (λ q. 0) (λ q. one_if_same q p) (batches_of s xs) q (some_parts s xs e) in omega arith
removes_total s false (Remove p ∷ xs) q e = let a = removes_total s true xs q e in let o = onto_removes (λ q. 0) (λ q. one_if_same q p) (batches_of s xs) q (some_parts s xs e) in omega arith

-- what follows a removal that lets p through
pub removal_passed : (g : Graph) (content : Pointstamp → ℕ) (p : Pointstamp) (other : Bool) (r : Pointstamp) (xs : List Change) → LetsThrough g content p other r
    → ((q : Pointstamp) → 0 < removes_in xs q → LetsThrough g content p other q) → (q : Pointstamp) → 0 < removes_in (Remove r ∷ xs) q → LetsThrough g content p other q
removal_passed g content p other r xs here rest q l = go (one_tells q r)
  where
    go : ((one_if_same q r ≡ 1) × (q ≡ r)) ⊎ ((one_if_same q r ≡ 0) × (q ≢ r)) → LetsThrough g content p other q
    go (inl x) = subst (LetsThrough g content p other) (sym x.1) here
    go (inr x) = rest q (let z = x.0 in let y : 0 < one_if_same q r + removes_in xs q = l in omega arith)

-- ---- over all senders

-- only what is removed can be stale
pub all_passed : (g : Graph) (queues : List Queued) (w : ℕ) (p : Pointstamp) (other : Bool)
    → ((s : ℕ) → s < length queues → EndsFrom false (untaken_at queues s w))
    → ((s : ℕ) → s < length queues → (q : Pointstamp) → 0 < removes_in (untaken_at queues s w) q → LetsThrough g (stale_count queues w) p other q)
    → IsClear g (stale_count queues w) p other
all_passed g queues w p other ends each q stale =
    let n = below_some (length queues) (λ s. total (λ (b : Changes). b.removes q) (waiting_of queues w s)) (let a : 0 < removes_for queues w q - adds_for queues w q = stale in omega arith) in
    let e = removes_total n.0 false (untaken_at queues n.0 w) q (ends n.0 n.1) in
    each n.0 n.1 q (let l = n.2 in omega arith) stale

-- ---- what a worker sees

module _ (g : Graph) (workers : ℕ) (content : Pointstamp → ℕ) (queues : List Queued) (w : ℕ) (senders : length queues ≡ suc workers)
    (some : 0 < workers) (flow : ∥ IsDataflow g ∥₁) (h : IsHistory g workers content (waiting_of queues) w) (p : Pointstamp) where
  adds_same : (q : Pointstamp) → adds_for queues w q ≡ waiting_adds (waiting_of queues) workers w q
  adds_same q = ap (λ n. sum_below n (λ s. total (λ (b : Changes). b.adds q) (waiting_of queues w s))) senders

  removes_same : (q : Pointstamp) → removes_for queues w q ≡ waiting_removes (waiting_of queues) workers w q
  removes_same q = ap (λ n. sum_below n (λ s. total (λ (b : Changes). b.removes q) (waiting_of queues w s))) senders

  -- a stale pointstamp is seen
  stale_seen : (q : Pointstamp) → 0 < stale_count queues w q → IsSeenBy content (waiting_of queues) workers w q
  stale_seen q l =
      let a = adds_same q in let r = removes_same q in
      let k : 0 < removes_for queues w q - adds_for queues w q = l in
      let x : waiting_adds (waiting_of queues) workers w q < content q + waiting_removes (waiting_of queues) workers w q = omega arith in x

  -- what is seen is active or stale
  seen_either : (q : Pointstamp) → IsSeenBy content (waiting_of queues) workers w q → (0 < content q) ⊎ (0 < stale_count queues w q)
  seen_either q l =
      let a = adds_same q in let r = removes_same q in
      let x : waiting_adds (waiting_of queues) workers w q < content q + waiting_removes (waiting_of queues) workers w q = l in
      go (content q) (removes_for queues w q) (adds_for queues w q) (omega arith)
    where
      go : (c r a : ℕ) → a < c + r → (0 < c) ⊎ (0 < r - a)
      go zero r a l = inr (omega arith)
      go (suc c) r a l = inl (omega arith)

  not_blocked : (other blocked : Bool) → MatchBool blocked (IsBlocked g (stale_count queues w) p other) (IsClear g (stale_count queues w) p other) → blocked ≡ false → IsClear g (stale_count queues w) p other
  not_blocked other blocked m e = subst (λ x. MatchBool x (IsBlocked g (stale_count queues w) p other) (IsClear g (stale_count queues w) p other)) e m

  must_be_clear : (other blocked : Bool) → MatchBool blocked (IsBlocked g (stale_count queues w) p other) (IsClear g (stale_count queues w) p other) → (IsBlocked g (stale_count queues w) p other → ⊥) → blocked ≡ false
  must_be_clear other true m none = absurd (none m)
  must_be_clear other false m none = refl

  pub frontier_refused : (exact : Bool) → exact ≡ false → (IsTrue exact ↔ NoOtherOf (CouldResultIn g) (λ q. 0 < content q) p) → IsTrue false ↔ NoOtherOf (CouldResultIn g) (IsSeenBy content (waiting_of queues) workers w) p
  frontier_refused exact is e = (λ t. absurd (not_true false refl t), λ none. absurd (not_true exact is (e.1 (no_other_there g workers some flow content (waiting_of queues) w h p none))))

  pub none_refused : (exact : Bool) → exact ≡ false → (IsTrue exact ↔ NoneOf (CouldResultIn g) (λ q. 0 < content q) p) → IsTrue false ↔ NoneOf (CouldResultIn g) (IsSeenBy content (waiting_of queues) workers w) p
  none_refused exact is e = (λ t. absurd (not_true false refl t), λ none. absurd (not_true exact is (e.1 (none_there g workers some flow content (waiting_of queues) w h p none))))

  not_clear : (b : Bool) → IsTrue (not b) → b ≡ false
  not_clear true t = absurd (not_true false refl t)
  not_clear false t = refl

  clear_not : (b : Bool) → b ≡ false → IsTrue (not b)
  clear_not b e = grind arith

  pub seen_frontier : (exact blocked : Bool) → exact ≡ true → (IsTrue exact ↔ NoOtherOf (CouldResultIn g) (λ q. 0 < content q) p)
      → MatchBool blocked (IsBlocked g (stale_count queues w) p true) (IsClear g (stale_count queues w) p true) → IsTrue (not blocked) ↔ NoOtherOf (CouldResultIn g) (IsSeenBy content (waiting_of queues) workers w) p
  seen_frontier exact blocked is e m = (to, from)
    where
      to : IsTrue (not blocked) → NoOtherOf (CouldResultIn g) (IsSeenBy content (waiting_of queues) workers w) p
      to t q seen could = go (seen_either q seen) (one_tells q p)
        where
          go : (0 < content q) ⊎ (0 < stale_count queues w q) → ((one_if_same q p ≡ 1) × (q ≡ p)) ⊎ ((one_if_same q p ≡ 0) × (q ≢ p)) → q ≡ p
          go (inl active) y = e.0 (is_true exact is) q active could
          go (inr stale) (inl y) = y.1
          go (inr stale) (inr y) = absurd (not_blocked true blocked m (not_clear blocked t) q stale (λ _ z. y.1 z) could)

      from : NoOtherOf (CouldResultIn g) (IsSeenBy content (waiting_of queues) workers w) p → IsTrue (not blocked)
      from none =
          clear_not blocked
          (must_be_clear true blocked m (λ k. k.differs refl (none k.by (stale_seen k.by k.active) k.could)))

  pub seen_none : (exact blocked : Bool) → exact ≡ true → (IsTrue exact ↔ NoneOf (CouldResultIn g) (λ q. 0 < content q) p)
      → MatchBool blocked (IsBlocked g (stale_count queues w) p false) (IsClear g (stale_count queues w) p false) → IsTrue (not blocked) ↔ NoneOf (CouldResultIn g) (IsSeenBy content (waiting_of queues) workers w) p
  seen_none exact blocked is e m = (to, from)
    where
      to : IsTrue (not blocked) → NoneOf (CouldResultIn g) (IsSeenBy content (waiting_of queues) workers w) p
      to t q seen could = go (seen_either q seen)
        where
          go : (0 < content q) ⊎ (0 < stale_count queues w q) → ⊥
          go (inl active) = e.0 (is_true exact is) q active could
          go (inr stale) = not_blocked false blocked m (not_clear blocked t) q stale (λ z. absurd (true≢false (sym z))) could

      from : NoneOf (CouldResultIn g) (IsSeenBy content (waiting_of queues) workers w) p → IsTrue (not blocked)
      from none =
          clear_not blocked
          (must_be_clear false blocked m (λ k. none k.by (stale_seen k.by k.active) k.could))
