-- What the first worker calls passed, by the views, and that it stays so.
use Rattle.std.proofs.Common.{◌≡◌, ◌<◌, ◌+◌, ℕ, suc, Bool, List, [], length, refl, sym, ap, ◌∙◌, subst, arith, slice_index_or}
use Rattle.semantics.specs.Could.{CouldResultIn, NoneOf, Pointstamp, at_vertex}
use Rattle.semantics.specs.Graph.{Graph, output_number}
use Rattle.semantics.specs.Time.{at_epoch}
use Rattle.graph.specs.Shown.{shown_graph}
use Rattle.machine.specs.Active.{active_count}
use Rattle.machine.specs.World.{World}
use Rattle.semantics.specs.Multiset.{total}
use Rattle.machine.specs.Active.{sum_below}
use Rattle.machine.specs.Views.{Changes}
use Rattle.views.specs.Waiting.{IsSeenBy, Posted, Waiting, batches_as, waiting_adds, waiting_removes}
use Rattle.views.proofs.SenderSums.{sum_same}
use Rattle.board.specs.Kept.{IsKept, Keeps}
use Rattle.board.specs.Lateness.{Applies, BoardShown, CallsPassed, IsAsLate, KeepsCalled, SeesFirst, waits_first, waits_for}
use Rattle.board.specs.Seals.{AreSeenBelow, IsFirstUncalled, IsMostSeen, NoneLeft}
use Rattle.board.specs.Showing.{Shows}
use Rattle.board.specs.Shown.{Shown, net}
use Rattle.board.proofs.Lateness.{at_first, board_of}
use Rattle.board.proofs.Worlds.{tracked_in}

module _ (graph : Graph) (content : Pointstamp → ℕ) (s : Shown) (kept : IsKept graph content s) (viewers : ℕ) (waiting : Waiting) (behind : ℕ → List Posted) (passed : ℕ) (many : viewers ≡ length s.sides)
    (lists : (k : ℕ) → waiting 0 k ≡ batches_as k (behind k)) where
  -- what waits is what the board shows of it
  summed : (f : Changes → ℕ) → sum_below (suc viewers) (λ k. total f (waits_first (board_of s viewers waiting behind passed) 0 k)) ≡ sum_below (suc viewers) (λ k. total f (waiting 0 k))
  summed f =
      sum_same (suc viewers) (λ k. total f (waiting 0 k)) (λ k. total f (waits_first (board_of s viewers waiting behind passed) 0 k))
      (λ k l. ap (λ ps. total f (batches_as k ps)) (at_first (suc viewers) behind [] k l) ∙ ap (total f) (sym (lists k)))

  by_views : (w : World) → Shows s w → (q : Pointstamp) → SeesFirst (board_of s viewers waiting behind passed) w q → IsSeenBy content waiting viewers 0 q
  by_views w is q seen =
      let x : waiting_adds (waits_first (board_of s viewers waiting behind passed)) viewers 0 q < active_count (net s) w q + waiting_removes (waits_first (board_of s viewers waiting behind passed)) viewers 0 q =
      subst (λ (n : ℕ). IsSeenBy (active_count (net s) w) (waits_first (board_of s viewers waiting behind passed)) n 0 q) (sym many) seen in
      let e = tracked_in graph content s kept w is q in
      let a = summed (λ b. b.adds q) in
      let r = summed (λ b. b.removes q) in
      let here : waiting_adds waiting viewers 0 q < content q + waiting_removes waiting viewers 0 q = omega (arith, x, e, a, r) in
      here

  in_world : (w : World) → Shows s w → (q : Pointstamp) → IsSeenBy content waiting viewers 0 q → SeesFirst (board_of s viewers waiting behind passed) w q
  in_world w is q seen =
      let x : waiting_adds waiting viewers 0 q < content q + waiting_removes waiting viewers 0 q = seen in
      let e = tracked_in graph content s kept w is q in
      let a = summed (λ b. b.adds q) in
      let r = summed (λ b. b.removes q) in
      let here : waiting_adds (waits_first (board_of s viewers waiting behind passed)) viewers 0 q < active_count (net s) w q + waiting_removes (waits_first (board_of s viewers waiting behind passed)) viewers 0 q = omega (arith, x, e, a, r) in
      subst (λ (n : ℕ). IsSeenBy (active_count (net s) w) (waits_first (board_of s viewers waiting behind passed)) n 0 q) many here

  pub called_there : (k e : ℕ) → CallsPassed (board_of s viewers waiting behind passed) k e → NoneLeft graph (IsSeenBy content waiting viewers 0) s k e
  called_there k e called q seen could =
      let P : Graph → Type 0 = λ g. CouldResultIn g q (at_vertex (output_number (shown_graph s.graph) k) (at_epoch e)) in
      called kept.world kept.shows q (in_world kept.world kept.shows q seen) (subst P kept.same could)

  pub there_called : (k e : ℕ) → NoneLeft graph (IsSeenBy content waiting viewers 0) s k e → CallsPassed (board_of s viewers waiting behind passed) k e
  there_called k e none w is q seen could =
      let P : Graph → Type 0 = λ g. CouldResultIn g q (at_vertex (output_number (shown_graph s.graph) k) (at_epoch e)) in
      none q (by_views w is q seen) (subst P (sym kept.same) could)

  -- the seen number is that of the first epoch that isn't called passed at every output
  pub first_uncalled : (n : ℕ) → AreSeenBelow graph (IsSeenBy content waiting viewers 0) s n → IsMostSeen graph (IsSeenBy content waiting viewers 0) s n → IsFirstUncalled (board_of s viewers waiting behind passed) n
  first_uncalled n seen most = record {
    called = λ e l k there. there_called k e (seen e l k there);
    first = λ m is. ((most m is).0, λ l all. (most m is).1 l (λ k there. called_there k n (all k there)));
  }

-- what stays clear to the first worker stays called
pub keeps_called : (graph graph' : Graph) (viewers : ℕ) (before after : Pointstamp → ℕ) (old new : Waiting) (behind behind' : ℕ → List Posted) (s t : Shown) (passed passed' : ℕ) → ((k : ℕ) → old 0 k ≡ batches_as k (behind k)) → ((k : ℕ) → new 0 k ≡ batches_as k (behind' k)) → IsKept graph before s → IsKept graph' after t
    → viewers ≡ length s.sides → viewers ≡ length t.sides → graph' ≡ graph
    → ((p : Pointstamp) → NoneOf (CouldResultIn graph) (IsSeenBy before old viewers 0) p → NoneOf (CouldResultIn graph) (IsSeenBy after new viewers 0) p)
    → KeepsCalled (board_of s viewers old behind passed) (board_of t viewers new behind' passed')
keeps_called graph graph' viewers before after old new behind behind' s t passed passed' lists lists' kept kept' many many' same stays k e called =
    let outputs : shown_graph t.graph ≡ shown_graph s.graph = sym kept'.same ∙ same ∙ kept.same in
    let here = stays (at_vertex (output_number (shown_graph s.graph) k) (at_epoch e)) (called_there graph before s kept viewers old behind passed many lists k e called) in
    let A : Graph → Type 0 = λ g. NoneOf (CouldResultIn g) (IsSeenBy after new viewers 0) (at_vertex (output_number (shown_graph s.graph) k) (at_epoch e)) in
    let B : Graph → Type 0 = λ g. NoneOf (CouldResultIn graph') (IsSeenBy after new viewers 0) (at_vertex (output_number g k) (at_epoch e)) in
    there_called graph' after t kept' viewers new behind' passed' many' lists' k e (subst B (sym outputs) (subst A (sym same) here))

-- after a step that posts nothing
pub as_late : (graph : Graph) (viewers : ℕ) (content : Pointstamp → ℕ) (waiting : Waiting) (behind : ℕ → List Posted) (room : ℕ) (late : Bool) (passed : ℕ) (s t : Shown) → ((k : ℕ) → waiting 0 k ≡ batches_as k (behind k)) → Keeps graph viewers content waiting room late passed s → Keeps graph viewers content waiting room late passed t
    → (b : BoardShown) → board_of s viewers waiting behind passed ≡ b → IsAsLate b (board_of t viewers waiting behind passed)
as_late graph viewers content waiting behind room late passed s t lists keeps keeps' b is =
    subst (λ (z : BoardShown). IsAsLate z (board_of t viewers waiting behind passed)) is
    (record {
      waits = refl;
      behind = refl;
      passed = refl;
      called = keeps_called graph graph viewers content content waiting waiting behind behind s t passed passed lists lists keeps.kept keeps'.kept keeps.viewers_are keeps'.viewers_are refl (λ p none. none);
    })

-- where nothing happened
pub still_late : (b : BoardShown) → IsAsLate b b
still_late b = record { waits = refl; behind = refl; passed = refl; called = λ k e called. called }

pub late_after : (b c d : BoardShown) → IsAsLate b c → IsAsLate c d → IsAsLate b d
late_after b c d first then = record {
  waits = then.waits ∙ first.waits;
  behind = then.behind ∙ first.behind;
  passed = then.passed ∙ first.passed;
  called = λ k e called. then.called k e (first.called k e called);
}

-- ---- one call after another

pub applied_late : (worker : ℕ) (b c d : BoardShown) → Applies worker b c → IsAsLate c d → Applies worker b d
applied_late worker b c d first then =
    let same : (w s : ℕ) → waits_for d w s ≡ waits_for c w s = λ w s. ap (λ (ws : List (List ℕ)). slice_index_or (slice_index_or ws w []) s 0) then.waits in
    record {
      others = λ w s ne. same w s ∙ first.others w s ne;
      fewer = λ s. let e = same worker s in let l = first.fewer s in omega (arith, e, l);
      passed = let e = then.passed in let l = first.passed in omega (arith, e, l);
      called = λ k e called. then.called k e (first.called k e called);
    }

pub applied_twice : (worker : ℕ) (b c d : BoardShown) → Applies worker b c → Applies worker c d → Applies worker b d
applied_twice worker b c d first then = record {
  others = λ w s ne. then.others w s ne ∙ first.others w s ne;
  fewer = λ s. let k = then.fewer s in let l = first.fewer s in omega (arith, k, l);
  passed = let k = then.passed in let l = first.passed in omega (arith, k, l);
  called = λ k e called. then.called k e (first.called k e called);
}

pub applied_none : (worker : ℕ) (b : BoardShown) → Applies worker b b
applied_none worker b = record { others = λ w s ne. refl; fewer = λ s. omega arith; passed = omega arith; called = λ k e called. called }
