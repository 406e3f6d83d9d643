-- What the first worker sees as passed stays so.
use Rattle.std.proofs.Common.{◌≡◌, ◌≢◌, ◌⊎◌, inl, inr, ◌<◌, ℕ, ◌==◌, true, false, length, sym, subst, arith}
use Rattle.std.proofs.lemmas.Bool.Decides.{eqb_tells}
use Rattle.semantics.specs.Could.{CouldResultIn, NoneOf, Pointstamp, at_vertex}
use Rattle.semantics.specs.Graph.{Graph, output_number, output_numbers}
use Rattle.semantics.specs.Dataflow.{IsDataflow}
use Rattle.semantics.specs.Time.{at_epoch}
use Rattle.graph.specs.Shown.{GraphValue, shown_graph}
use Rattle.views.specs.Waiting.{IsSeenBy, Waiting}
use Rattle.board.specs.Kept.{IsKept}
use Rattle.board.specs.Seals.{AreSeenBelow}
use Rattle.board.specs.Shown.{Shown}
use Rattle.board.proofs.Lateness.{sees_same}

-- the same for an equal graph, number of workers and board's graph
pub seen_moved : (graph graph' : Graph) (viewers viewers' : ℕ) (content : Pointstamp → ℕ) (waiting : Waiting) (s t : Shown) (n : ℕ) → graph' ≡ graph → viewers' ≡ viewers → t.graph ≡ s.graph
    → AreSeenBelow graph (IsSeenBy content waiting viewers 0) s n → AreSeenBelow graph' (IsSeenBy content waiting viewers' 0) t n
seen_moved graph graph' viewers viewers' content waiting s t n same views graphs seen =
    let A : Graph → Type 0 = λ g. AreSeenBelow g (IsSeenBy content waiting viewers 0) s n in
    let B : ℕ → Type 0 = λ m. AreSeenBelow graph' (IsSeenBy content waiting m 0) s n in
    let C : GraphValue → Type 0 = λ z. (e : ℕ) → e < n → (k : ℕ) → k < length (output_numbers (shown_graph z)) → NoneOf (CouldResultIn graph') (IsSeenBy content waiting viewers' 0) (at_vertex (output_number (shown_graph z) k) (at_epoch e)) in
    subst C (sym graphs) (subst B (sym views) (subst A (sym same) seen))

-- after all or one of the batches that wait for a worker were applied
module _ (graph : Graph) (viewers worker : ℕ) (before after : Pointstamp → ℕ) (old new : Waiting) (contents : (q : Pointstamp) → after q ≡ before q) (others : (w k : ℕ) → (w ≡ worker → ⊥) → new w k ≡ old w k)
    (stays : (p : Pointstamp) → NoneOf (CouldResultIn graph) (IsSeenBy before old viewers worker) p → NoneOf (CouldResultIn graph) (IsSeenBy after new viewers worker) p) where
  pub none_applied : (p : Pointstamp) → NoneOf (CouldResultIn graph) (IsSeenBy before old viewers 0) p → NoneOf (CouldResultIn graph) (IsSeenBy after new viewers 0) p
  none_applied p none = go (eqb_tells 0 worker)
    where
      Saw : ℕ → Type 0
      Saw w = NoneOf (CouldResultIn graph) (IsSeenBy before old viewers w) p

      Sees : ℕ → Type 0
      Sees w = NoneOf (CouldResultIn graph) (IsSeenBy after new viewers w) p

      go : ((0 == worker) ≡ true) × (0 ≡ worker) ⊎ ((0 == worker) ≡ false) × (0 ≢ worker) → Sees 0
      go (inl (t, e)) = subst Sees (sym e) (stays p (subst Saw e none))
      go (inr (t, ne)) = λ q seen could. none q (sees_same before after old new viewers 0 contents (λ k. others 0 k ne) q seen) could

  pub seen_applied : (s : Shown) (n : ℕ) → AreSeenBelow graph (IsSeenBy before old viewers 0) s n → AreSeenBelow graph (IsSeenBy after new viewers 0) s n
  seen_applied s n seen e l k there = none_applied (at_vertex (output_number (shown_graph s.graph) k) (at_epoch e)) (seen e l k there)

-- what no view held back still isn't
abbrev pub StaysClear : (graph : Graph) (viewers : ℕ) (before after : Pointstamp → ℕ) (old new : Waiting) → Type 0
StaysClear graph viewers before after old new =
    IsDataflow graph → (w : ℕ) → w < viewers → (p : Pointstamp) → NoneOf (CouldResultIn graph) (IsSeenBy before old viewers w) p → NoneOf (CouldResultIn graph) (IsSeenBy after new viewers w) p

-- after a batch was posted; room was made before, which changed nothing
module _ (graph middle_graph : Graph) (viewers middle_viewers : ℕ) (before middle after : Pointstamp → ℕ) (old between new : Waiting) (s : Shown) (kept : IsKept graph before s) (many : viewers ≡ length s.sides)
    (same : middle_graph ≡ graph) (views : middle_viewers ≡ viewers) (contents : (q : Pointstamp) → middle q ≡ before q) (waits : (w k : ℕ) → between w k ≡ old w k)
    (stays : StaysClear middle_graph middle_viewers middle after between new) where
  pub none_posted : (p : Pointstamp) → NoneOf (CouldResultIn graph) (IsSeenBy before old viewers 0) p → NoneOf (CouldResultIn graph) (IsSeenBy after new viewers 0) p
  none_posted = clear (subst IsDataflow (sym kept.same) kept.flows) 0 (let l = kept.some in omega (arith, l, many))
    where
      clear : StaysClear graph viewers before after old new
      clear =
          let content_is : middle ≡ before = λ i q. contents q i in
          let waiting_is : between ≡ old = λ i w k. waits w k i in
          subst (λ (g : Graph). StaysClear g viewers before after old new) same
          (subst (λ (n : ℕ). StaysClear middle_graph n before after old new) views
          (subst (λ (f : Pointstamp → ℕ). StaysClear middle_graph middle_viewers f after old new) content_is
          (subst (λ (u : Waiting). StaysClear middle_graph middle_viewers middle after u new) waiting_is stays)))

  pub seen_posted : (graph' : Graph) (viewers' : ℕ) (t : Shown) (n : ℕ) → graph' ≡ graph → viewers' ≡ viewers → t.graph ≡ s.graph → AreSeenBelow graph (IsSeenBy before old viewers 0) s n → AreSeenBelow graph' (IsSeenBy after new viewers' 0) t n
  seen_posted graph' viewers' t n same' views' graphs seen =
      seen_moved graph graph' viewers viewers' after new s t n same' views' graphs (λ e l k there. none_posted (at_vertex (output_number (shown_graph s.graph) k) (at_epoch e)) (seen e l k there))
