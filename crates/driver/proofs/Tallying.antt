-- Counters say what was done, step after step.
use Rattle.std.proofs.Common.{◌≡◌, ◌+◌, ◌==◌, ◌∙◌, ℕ, Bool, true, false, cond, List, [], ◌∷◌, ◌++◌, length, refl, sym, ap, subst, arith, Option, Some, None, IsSome}
use Rattle.std.specs.Prelude.{option_map}
use Rattle.semantics.specs.Multiset.{Record, total}
use Rattle.semantics.proofs.MultisetSums.{total-append}
use Rattle.graph.specs.Shown.{shown_graph}
use Rattle.machine.specs.Choices.{IsClaimBy}
use Rattle.machine.specs.Engine.{network}
use Rattle.machine.specs.Network.{Network}
use Rattle.machine.specs.Processing.{event_vertex}
use Rattle.machine.specs.Run.{Run}
use Rattle.machine.specs.Step.{Allowed, Step, after_step}
use Rattle.machine.specs.World.{Event, World}
use Rattle.board.specs.Jobs.{Pass}
use Rattle.board.specs.Outputs.{counted, records_with}
use Rattle.board.specs.Answers.{Claims, Gathers, MergesAll}
use Rattle.board.specs.Counting.{TellsCommit, records_sent}
use Rattle.board.specs.Kept.{Goes}
use Rattle.board.specs.Showing.{Shows}
use Rattle.board.specs.Shown.{Shown, net}
use Rattle.board.specs.declared.sent.Sent.{Sent}
use Rattle.board.specs.declared.claimed.Claimed.{Claimed}
use Rattle.board.specs.declared.claimed.Claimed.TheVariants.{Stopped, Busy, Work, Drained, Idle}
use Rattle.driver.specs.declared.tally.Counts.{Counts}
use Rattle.driver.specs.Tallies.{AreZero, CoversAll, HaveCounted, IsCounted, IsTally, Raises, Rows, StaysTally, at, events_in, of_commit, raised, received_in, sent_in}

-- ---- runs

run_more : (g : Network) (w x : World) (steps : List Step) (step : Step) → Run g w steps x → Allowed g x step → Run g w (steps ++ step ∷ []) (after_step g x step)
run_more g w x [] step run ok = (subst (λ (z : World). Allowed g z step) (sym run) ok, ap (λ (z : World). after_step g z step) run)
run_more g w x (s ∷ steps) step run ok = (run.0, run_more g (after_step g w s) x steps step run.1 ok)

-- the step is no commit
abbrev pub IsUncounted : Step → Type 0
IsUncounted (Step.feed i records) = Unit {0}
IsUncounted (Step.seal i) = Unit {0}
IsUncounted (Step.close i) = Unit {0}
IsUncounted (Step.claim_message k at m) = Unit {0}
IsUncounted (Step.claim_request k at n) = Unit {0}
IsUncounted (Step.merge k at m n) = Unit {0}
IsUncounted (Step.commit k event out) = ⊥
IsUncounted (Step.abandon k event) = Unit {0}

nothing_of : (g : Network) (v k : ℕ) (f : ℕ → Event → (ℕ → List Record) → ℕ) (step : Step) → IsUncounted step → of_commit g v k f step ≡ 0
nothing_of g v k f (Step.feed i records) is = refl
nothing_of g v k f (Step.seal i) is = refl
nothing_of g v k f (Step.close i) is = refl
nothing_of g v k f (Step.claim_message j at m) is = refl
nothing_of g v k f (Step.claim_request j at n) is = refl
nothing_of g v k f (Step.merge j at m n) is = refl
nothing_of g v k f (Step.commit j event out) is = absurd is
nothing_of g v k f (Step.abandon j event) is = refl

-- one step more
more_of : (g : Network) (v k : ℕ) (f : ℕ → Event → (ℕ → List Record) → ℕ) (steps : List Step) (step : Step)
    → total (of_commit g v k f) (steps ++ step ∷ []) ≡ total (of_commit g v k f) steps + of_commit g v k f step
more_of g v k f steps step = let a = total-append (of_commit g v k f) steps (step ∷ []) in omega (arith, a)

same_of : (g : Network) (v k : ℕ) (f : ℕ → Event → (ℕ → List Record) → ℕ) (steps : List Step) (step : Step) → IsUncounted step
    → total (of_commit g v k f) (steps ++ step ∷ []) ≡ total (of_commit g v k f) steps
same_of g v k f steps step is = let a = more_of g v k f steps step in let b = nothing_of g v k f step is in omega (arith, a, b)

have_same : (c : Counts) (e r n e' r' n' : ℕ) → e' ≡ e → r' ≡ r → n' ≡ n → HaveCounted c e r n → HaveCounted c e' r' n'
have_same c e r n e' r' n' p q s h = record {
  events_are = h.events_are ∙ ap counted (sym p);
  received_are = h.received_are ∙ ap counted (sym q);
  sent_are = h.sent_are ∙ ap counted (sym s);
}

-- one commit more, at the counter's vertex and worker or elsewhere
have_more : (b d : Bool) (old : Option Counts) (sent : Sent) (c : Counts) (e r n x y : ℕ) → sent.received ≡ counted x → sent.records ≡ counted y
    → ((a : Counts) → old ≡ Some a → HaveCounted a e r n) → cond b (cond d (option_map (raised sent) old) old) old ≡ Some c
    → HaveCounted c (e + cond b (cond d 1 0) 0) (r + cond b (cond d x 0) 0) (n + cond b (cond d y 0) 0)
have_more false d old sent c e r n x y p q h is = have_same c e r n _ _ _ (omega arith) (omega arith) (omega arith) (h c is)
have_more true false old sent c e r n x y p q h is = have_same c e r n _ _ _ (omega arith) (omega arith) (omega arith) (h c is)
have_more true true None sent c e r n x y p q h is = absurd cc
have_more true true (Some a) sent c e r n x y p q h is =
    let z : raised sent a ≡ c = cc in
    let before = h a refl in
    let ea = before.events_are in
    let ra = before.received_are in
    let na = before.sent_are in
    record {
      events_are = ap (λ (k : Counts). k.events) (sym z) ∙ omega (arith, ea);
      received_are = ap (λ (k : Counts). k.received) (sym z) ∙ omega (arith, ra, p);
      sent_are = ap (λ (k : Counts). k.sent) (sym z) ∙ omega (arith, na, q);
    }

-- who had counters has them still
still : (b d : Bool) (old new : Option Counts) (sent : Sent) → new ≡ cond b (cond d (option_map (raised sent) old) old) old → IsSome old → IsSome new
still b d None new sent e is = absurd cc
still false d (Some a) new sent e is = subst IsSome (sym e) refl
still true false (Some a) new sent e is = subst IsSome (sym e) refl
still true true (Some a) new sent e is = subst IsSome (sym e) refl

-- ---- what is shown

same_net : (s t : Shown) → t.graph ≡ s.graph → length t.sides ≡ length s.sides → net t ≡ net s
same_net s t graph workers = λ i. network (shown_graph (graph i)) (workers i)

module _ (s t u : Shown) (rows : Rows) (is : IsCounted s t rows) (step : Step) (goes : Goes t step u) where
  steps_then : List Step
  steps_then = is.steps ++ step ∷ []

  leads_then : (w : World) → Shows s w → (x : World) × Run (net s) w (is.steps ++ step ∷ []) x × Shows u x
  leads_then w shows =
      let r = is.leads w shows in
      let N : Network → Type 0 = λ n. Allowed n r.0 step × Shows u (after_step n r.0 step) in
      let a = subst N (same_net s t is.graph is.workers) (goes.step r.0 r.2) in
      (after_step (net s) r.0 step, run_more (net s) w r.0 is.steps step r.1 a.0, a.1)

  counted_then : (rows' : Rows) → CoversAll rows' (length (shown_graph s.graph)) (length s.sides) → ((v k : ℕ) (c : Counts) → at rows' v k ≡ Some c
      → HaveCounted c (events_in (net s) v k (is.steps ++ step ∷ [])) (received_in (net s) v k (is.steps ++ step ∷ [])) (sent_in (net s) v k (is.steps ++ step ∷ []))) → IsCounted s u rows'
  counted_then rows' full each = record {
    steps = is.steps ++ step ∷ [];
    leads = leads_then;
    each = each;
    full = full;
    graph = goes.graph ∙ is.graph;
    workers = goes.workers ∙ is.workers;
  }

  uncounted_then : IsUncounted step → IsCounted s u rows
  uncounted_then un = counted_then rows is.full (λ v k c e. have_same c _ _ _ _ _ _ (same_of (net s) v k _ is.steps step un) (same_of (net s) v k _ is.steps step un) (same_of (net s) v k _ is.steps step un) (is.each v k c e))

committed_then : (s t u : Shown) (rows : Rows) → IsCounted s t rows → (p : Pass) (sent : Sent) → TellsCommit t u p sent → (new : Rows) → Raises rows sent new → IsCounted s u new
committed_then s t u rows is p sent tells new raises = counted_then s t u rows is (Step.commit p.worker p.job.happening tells.out) tells.goes new full each
  where
    full : CoversAll new (length (shown_graph s.graph)) (length s.sides)
    full v l k m = still (v == sent.vertex) (k == sent.worker) (at rows v k) (at new v k) sent (raises.each v k) (is.full v l k m)

    event : Event
    event = p.job.happening

    g : Network
    g = net s

    vertex : sent.vertex ≡ event_vertex (net s) p.job.happening
    vertex = tells.vertex ∙ ap (λ (n : Network). event_vertex n p.job.happening) (same_net s t is.graph is.workers)

    records : sent.records ≡ counted (records_sent (net s) p.worker p.job.happening tells.out)
    records = tells.records ∙ ap (λ (n : Network). counted (records_sent n p.worker p.job.happening tells.out)) (same_net s t is.graph is.workers)

    step : Step
    step = Step.commit p.worker p.job.happening tells.out

    each : (v k : ℕ) (c : Counts) → at new v k ≡ Some c
        → HaveCounted c (events_in (net s) v k (is.steps ++ Step.commit p.worker p.job.happening tells.out ∷ [])) (received_in (net s) v k (is.steps ++ Step.commit p.worker p.job.happening tells.out ∷ []))
        (sent_in (net s) v k (is.steps ++ Step.commit p.worker p.job.happening tells.out ∷ []))
    each v k c e =
        let i = p.job.happening in
        let v' = event_vertex (net s) i in
        let old = at rows v k in
        let turned : cond (v == v') (cond (k == p.worker) (option_map (raised sent) old) old) old ≡ Some c =
        (λ j. cond (v == sym vertex j) (cond (k == sym tells.worker j) (option_map (raised sent) old) old) old) ∙ sym (raises.each v k) ∙ e in
        let h = have_more (v == v') (k == p.worker) old sent c _ _ _ (length (records_with i)) (records_sent (net s) p.worker i tells.out) tells.received records (λ a q. is.each v k a q) turned in
        have_same c _ _ _ _ _ _
        (more_of (net s) v k (λ j event out. 1) is.steps (Step.commit p.worker i tells.out))
        (more_of (net s) v k (λ j event out. length (records_with event)) is.steps (Step.commit p.worker i tells.out))
        (more_of (net s) v k (records_sent (net s)) is.steps (Step.commit p.worker i tells.out)) h

-- ---- the same, also where nothing is counted

no_rows : (xs : Rows) → length xs ≡ 0 → xs ≡ []
no_rows [] e = refl
no_rows (x ∷ xs) e = absurd (omega (arith, e))

pub stays_committed : (t u : Shown) (rows : Rows) (p : Pass) (sent : Sent) → TellsCommit t u p sent → (new : Rows) → Raises rows sent new → StaysTally t rows u new
stays_committed t u [] p sent tells new raises s is = subst (IsTally s u) (sym (no_rows new raises.many)) tt
stays_committed t u (row ∷ rows) p sent tells [] raises s is = tt
stays_committed t u (row ∷ rows) p sent tells (row' ∷ new) raises s is = committed_then s t u (row ∷ rows) is p sent tells (row' ∷ new) raises

pub stays_step : (t u : Shown) (step : Step) → IsUncounted step → Goes t step u → (rows : Rows) → StaysTally t rows u rows
stays_step t u step un goes [] s is = tt
stays_step t u step un goes (row ∷ rows) s is = uncounted_then s t u (row ∷ rows) is step goes un

pub stays_same : (t u : Shown) → u ≡ t → (rows : Rows) → StaysTally t rows u rows
stays_same t u same rows s is = subst (λ (x : Shown). IsTally s x rows) (sym same) is

pub stays_then : (t u v : Shown) (a b c : Rows) → StaysTally t a u b → StaysTally u b v c → StaysTally t a v c
stays_then t u v a b c p q s is = q s (p s is)

claim_uncounted : (k : ℕ) (step : Step) → IsClaimBy k step → IsUncounted step
claim_uncounted k (Step.feed i records) is = absurd is
claim_uncounted k (Step.seal i) is = absurd is
claim_uncounted k (Step.close i) is = absurd is
claim_uncounted k (Step.claim_message j at m) is = tt
claim_uncounted k (Step.claim_request j at n) is = tt
claim_uncounted k (Step.merge j at m n) is = tt
claim_uncounted k (Step.commit j event out) is = absurd is
claim_uncounted k (Step.abandon j event) is = tt

pub stays_claimed : (t u : Shown) (k : ℕ) (c : Claimed) → Claims t u k c → (rows : Rows) → StaysTally t rows u rows
stays_claimed t u k Stopped h rows = stays_same t u h.1 rows
stays_claimed t u k Busy h rows = stays_same t u h.2 rows
stays_claimed t u k (Work x) h rows = stays_step t u h.0.taken (claim_uncounted k h.0.taken h.0.by) h.0.goes rows
stays_claimed t u k Drained h rows = stays_same t u h.3 rows
stays_claimed t u k Idle h rows = stays_same t u h.5 rows

merged_all : (k : ℕ) (places : List ℕ) (t u : Shown) → MergesAll k places t u → (rows : Rows) → StaysTally t rows u rows
merged_all k [] t u same rows = stays_same t u same rows
merged_all k (at ∷ places) t u (v, merged, last) rows = stays_then t v u rows rows rows (merged_all k places t v merged rows) (stays_step v u (Step.merge k at last.0 last.1) tt last.2 rows)

pub stays_gathered : (t u : Shown) (k : ℕ) → Gathers t k u → (rows : Rows) → StaysTally t rows u rows
stays_gathered t u k g rows = merged_all k g.0 t u g.1 rows

-- a worker's messages were merged, and it claimed
pub stays_claim : (t u : Shown) (k : ℕ) (c : Claimed) → (v : Shown) × Gathers t k v × Claims v u k c → (rows : Rows) → StaysTally t rows u rows
stays_claim t u k c (v, gathers, claims) rows = stays_then t v u rows rows rows (stays_gathered t v k gathers rows) (stays_claimed v u k c claims rows)

-- counters that are 0 say what was done in no step
pub begins : (s : Shown) (rows : Rows) → AreZero rows → CoversAll rows (length (shown_graph s.graph)) (length s.sides) → IsTally s s rows
begins s [] z full = tt
begins s (row ∷ rows) z full = record {
  steps = [];
  leads = λ w shows. (w, refl, shows);
  each = λ v k c e. let n = z v k c e in record { events_are = ap (λ (x : Counts). x.events) n; received_are = ap (λ (x : Counts). x.received) n; sent_are = ap (λ (x : Counts). x.sent) n };
  full = full;
  graph = refl;
  workers = refl;
}

pub tally_at : (s t u : Shown) (rows rows' : Rows) → u ≡ t → rows' ≡ rows → IsTally s t rows → IsTally s u rows'
tally_at s t u rows rows' shown same is = subst (λ (x : Shown). IsTally s x rows') (sym shown) (subst (IsTally s t) (sym same) is)

pub begins_none : (s t : Shown) (rows : Rows) → rows ≡ [] → IsTally s t rows
begins_none s t rows none = subst (IsTally s t) (sym none) tt
