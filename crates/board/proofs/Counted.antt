-- The number of passed epochs after each call: it stays, or each epoch below it has still passed.
use Rattle.std.proofs.Common.{◌≡◌, ◌<◌, ◌≤◌, ◌+◌, ℕ, zero, suc, Bool, true, false, cond, List, [], ◌∷◌, length, refl, sym, ap, ◌∙◌, subst, arith, slice_set, slice_index_or}
use Rattle.semantics.specs.Multiset.{Record}
use Rattle.semantics.specs.Graph.{Graph}
use Rattle.semantics.specs.Could.{Pointstamp}
use Rattle.semantics.specs.PortArity.{HaveFields}
use Rattle.machine.specs.Step.{Step}
use Rattle.tokens.specs.declared.rule.Place.TheVariants.{Home, Out}
use Rattle.events.specs.Jobs.{Job, Pass}
use Rattle.board.specs.Claims.{HandsMessage, HandsRequest, MergesMail}
use Rattle.board.specs.Commits.{Feeds, IsOf, Settles}
use Rattle.board.specs.Deliverable.{IsDeliverable}
use Rattle.board.specs.Fitting.{arity_in}
use Rattle.board.specs.Kept.{Goes, IsKept, Keeps, open_count}
use Rattle.views.specs.Waiting.{IsSeenBy, Waiting}
use Rattle.board.specs.Seals.{HavePassed}
use Rattle.board.specs.Shown.{InputShown, Shown, input_at, no_input, side_at}
use Rattle.board.specs.Steps.{after_abandon, after_close, after_seal, more_at}
use Rattle.board.proofs.BoardCalls.{commit_goes}
use Rattle.board.proofs.Counts.{have_passed}
use Rattle.board.proofs.Ended.{close_goes, seal_goes}
use Rattle.board.proofs.Feeding.{feeds_goes}
use Rattle.board.proofs.HandedOut.{hands_message, hands_message_kept, hands_request, hands_request_kept}
use Rattle.board.proofs.Abandoning.{abandon_goes, abandon_kept}
use Rattle.board.proofs.Later.{later}
use Rattle.board.proofs.Merged.{merge_goes}
use Rattle.board.proofs.Seeing.{seen_moved}

open_rises : (xs : List InputShown) (i : ℕ) (x : InputShown) → (slice_index_or xs i no_input).open_epoch ≤ x.open_epoch → (j : ℕ) → (slice_index_or xs j no_input).open_epoch ≤ (slice_index_or (slice_set xs i x) j no_input).open_epoch
open_rises [] i x e j = omega arith
open_rises (y ∷ ys) zero x e zero = e
open_rises (y ∷ ys) zero x e (suc j) = omega arith
open_rises (y ∷ ys) (suc i) x e zero = omega arith
open_rises (y ∷ ys) (suc i) x e (suc j) = open_rises ys i x e j

-- closing an open input leaves one fewer open
pub one_closed : (xs : List InputShown) (i : ℕ) → i < length xs → (slice_index_or xs i no_input).closed ≡ false → open_count (slice_set xs i (record (slice_index_or xs i no_input) { closed = true })) + 1 ≡ open_count xs
one_closed [] i l e = absurd (omega (arith, l))
one_closed (x ∷ xs) zero l e = order (open_bit x.closed) (open_count xs) (ap open_bit e)
  where
    open_bit : Bool → ℕ
    open_bit b = cond b 0 1

    order : (a n : ℕ) → a ≡ 1 → 0 + n + 1 ≡ a + n
    order a n h = omega (arith, h)
one_closed (x ∷ xs) (suc i) l e = let rest = one_closed xs i (omega (arith, l)) e in omega (arith, rest)

-- other changes leave as many inputs open
pub as_open : (xs : List InputShown) (i : ℕ) (x : InputShown) → x.closed ≡ (slice_index_or xs i no_input).closed → open_count (slice_set xs i x) ≡ open_count xs
as_open [] i x e = refl
as_open (y ∷ ys) zero x e = ap (λ b. cond b 0 1 + open_count ys) e
as_open (y ∷ ys) (suc i) x e = ap (λ n. cond y.closed 0 1 + n) (as_open ys i x e)

-- there are at most as many open inputs as inputs
pub few_open : (xs : List InputShown) → open_count xs ≤ length xs
few_open [] = omega arith
few_open (x ∷ xs) = by x.closed (few_open xs)
  where
    by : (b : Bool) → open_count xs ≤ length xs → cond b 0 1 + open_count xs ≤ suc (length xs)
    by true h = omega (arith, h)
    by false h = omega (arith, h)

-- the same for equal views
pub kept_same : (graph graph' : Graph) (content content' : Pointstamp → ℕ) (s : Shown) → IsKept graph content s → graph' ≡ graph → ((q : Pointstamp) → content' q ≡ content q) → IsKept graph' content' s
kept_same graph graph' content content' s kept g c =
    let e : content' ≡ content = λ i q. c q i in
    let B : (Pointstamp → ℕ) → Type 0 = λ f. IsKept graph' f s in
    let C : Graph → Type 0 = λ z. IsKept z content s in
    subst B (sym e) (subst C (sym g) kept)

module _ (graph : Graph) (viewers : ℕ) (content : Pointstamp → ℕ) (waiting : Waiting) (room : ℕ) (late : Bool) (passed : ℕ) (s : Shown) (keeps : Keeps graph viewers content waiting room late passed s) (t : Shown) where
  -- after a refusal
  pub keeps_same : (graph' : Graph) (viewers' : ℕ) (content' : Pointstamp → ℕ) (waiting' : Waiting) (room' : ℕ) → graph' ≡ graph → viewers' ≡ viewers → ((q : Pointstamp) → content' q ≡ content q)
      → ((w k : ℕ) → waiting' w k ≡ waiting w k) → room ≤ room' → t ≡ s → Keeps graph' viewers' content' waiting' room' late passed t
  keeps_same graph' viewers' content' waiting' room' g v c w r e =
      let A : Shown → Type 0 = λ z. Keeps graph' viewers' content' waiting' room' late passed z in
      let B : (Pointstamp → ℕ) → Type 0 = λ f. Keeps graph' viewers' f waiting' room' late passed s in
      let C : Graph → Type 0 = λ z. Keeps z viewers' content waiting' room' late passed s in
      let D : ℕ → Type 0 = λ n. Keeps graph n content waiting' room' late passed s in
      let E : Waiting → Type 0 = λ f. Keeps graph viewers content f room' late passed s in
      let content_is : content' ≡ content = λ i q. c q i in
      let waiting_is : waiting' ≡ waiting = λ i x k. w x k i in
      let more : Keeps graph viewers content waiting room' late passed s = record {
        kept = keeps.kept;
        viewers_are = keeps.viewers_are;
        closes = (let l = keeps.closes in omega (arith, l, r));
        prompt = keeps.prompt;
        passed_are = keeps.passed_are;
        passed_seen = keeps.passed_seen;
      } in
      subst A (sym e) (subst B (sym content_is) (subst C (sym g) (subst D (sym v) (subst E (sym waiting_is) more))))

  -- after a step that changes no input and posts nothing
  keeps_beside : (step : Step) → Goes s step t → t.inputs ≡ s.inputs → IsKept graph content t → Keeps graph viewers content waiting room late passed t
  keeps_beside step goes inputs kept = record {
    kept = kept;
    viewers_are = keeps.viewers_are ∙ sym goes.workers;
    closes = (let l = keeps.closes in let e = ap open_count inputs in omega (arith, l, e));
    prompt = keeps.prompt;
    passed_are = have_passed graph content s keeps.kept step t goes (λ i. let e = ap (λ (xs : List InputShown). (slice_index_or xs i no_input).open_epoch) inputs in omega (arith, e)) passed keeps.passed_are;
    passed_seen = seen_moved graph graph viewers viewers content waiting s t passed refl refl goes.graph keeps.passed_seen;
  }

  -- after an event is handed out
  module _ (k : ℕ) (there : k < length s.sides) (free : (side_at s k).place ≡ Home) (runs : s.stopped ≡ false) (at : ℕ) (p : Pass) where
    pub keeps_message : HandsMessage s t k at p → Keeps graph viewers content waiting room late passed t
    keeps_message h =
        let kept : IsKept graph content t = hands_message_kept graph content s keeps.kept k there free runs t at p h in
        let hands = hands_message graph content s keeps.kept k there free runs t at p h in
        keeps_beside hands.taken hands.goes (ap (λ (z : Shown). z.inputs) h.state) kept

    pub keeps_request : (h : HandsRequest s t k at p) → IsDeliverable graph (λ q. 0 < content q) h.request → Keeps graph viewers content waiting room late passed t
    keeps_request h front =
        let kept : IsKept graph content t = hands_request_kept graph content s keeps.kept k there free runs t at p h front in
        let hands = hands_request graph content s keeps.kept k there free runs t at p h front in
        keeps_beside hands.taken hands.goes (ap (λ (z : Shown). z.inputs) h.state) kept

  -- after an event is abandoned
  pub keeps_abandon : (k : ℕ) → k < length s.sides → (j : Job) → (side_at s k).place ≡ Out j → t ≡ after_abandon s k j → Keeps graph viewers content waiting room late passed t
  keeps_abandon k there j out e =
      let kept : IsKept graph content t = subst (IsKept graph content) (sym e) (abandon_kept s k there j out graph content keeps.kept) in
      let goes : Goes s (Step.abandon k j.happening) t = subst (Goes s (Step.abandon k j.happening)) (sym e) (abandon_goes s k there j out (later graph content s keeps.kept)) in
      keeps_beside (Step.abandon k j.happening) goes (ap (λ (z : Shown). z.inputs) e) kept

  -- what is known to have passed after a feed, a seal, a close and a commit
  pub fed_passed : (content' : Pointstamp → ℕ) (i : ℕ) (takes : (s.stopped ≡ false) × (i < length s.inputs) × ((input_at s i).closed ≡ false)) (batch : List Record)
      → 0 < length batch → HaveFields (arity_in s.graph i) batch → Feeds s t content content' i batch → HavePassed t passed
  fed_passed content' i takes batch some fields f =
      have_passed graph content s keeps.kept (Step.feed i batch) t (feeds_goes graph graph content content' s t keeps.kept i takes batch some fields f)
      (λ j. let e = ap (λ (z : Shown). (input_at z j).open_epoch) f.state in let r = open_rises s.inputs i (record (input_at s i) { fed = more_at (input_at s i).open_epoch (batch ∷ []) (input_at s i).fed }) (omega arith) j in omega (arith, e, r)) passed keeps.passed_are

  pub sealed_passed : (i : ℕ) (takes : (s.stopped ≡ false) × (i < length s.inputs) × ((input_at s i).closed ≡ false)) → t ≡ after_seal s i → HavePassed t passed
  sealed_passed i takes e =
      let P : Shown → Type 0 = λ z. HavePassed z passed in
      subst P (sym e) (have_passed graph content s keeps.kept (Step.seal i) (after_seal s i) (seal_goes graph content s keeps.kept i takes) (λ j. open_rises s.inputs i _ (omega arith) j) passed keeps.passed_are)

  pub merged_passed : (k : ℕ) (there : k < length s.sides) (free : (side_at s k).place ≡ Home) (runs : s.stopped ≡ false) (at : ℕ) (place : Pointstamp) → MergesMail s t k at place → HavePassed t passed
  merged_passed k there free runs at place h =
      have_passed graph content s keeps.kept (Step.merge k at h.merges.alike.first h.merges.alike.second) t (merge_goes s k there free runs t at place h (later graph content s keeps.kept))
      (λ j. let e = ap (λ (z : Shown). (input_at z j).open_epoch) h.state in omega (arith, e)) passed keeps.passed_are

  pub closed_passed : (i : ℕ) (takes : (s.stopped ≡ false) × (i < length s.inputs) × ((input_at s i).closed ≡ false)) → t ≡ after_close s i → HavePassed t passed
  closed_passed i takes e =
      let P : Shown → Type 0 = λ z. HavePassed z passed in
      subst P (sym e) (have_passed graph content s keeps.kept (Step.close i) (after_close s i) (close_goes graph content s keeps.kept i takes) (λ j. open_rises s.inputs i _ (omega arith) j) passed keeps.passed_are)

  pub committed_passed : (content' : Pointstamp → ℕ) (p : Pass) → IsOf s p → Settles s t content content' p → HavePassed t passed
  committed_passed content' p of settles =
      let g = commit_goes graph graph content content' s t p keeps.kept of settles in
      have_passed graph content s keeps.kept (Step.commit p.worker p.job.happening g.1.0) t g.1.1 (λ j. let e = ap (λ (z : Shown). (input_at z j).open_epoch) settles.state in omega (arith, e)) passed keeps.passed_are
