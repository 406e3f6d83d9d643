-- After each call of the board, the number of passed epochs is published, and nothing waits for the first worker.
use Rattle.std.proofs.Common.{◌≡◌, ◌≤◌, ℕ, zero, suc, List, [], max, Bool, true, false, MatchBool, slice_index_or, refl, sym, ap, subst, ◌∙◌, arith}
use Rattle.atomic_table.specs.Seated.{TableId}
use Rattle.graph.specs.Shown.{GraphValue}
use Rattle.machine.specs.Step.{Step}
use Rattle.board.specs.Answers.{Claims, HasChoice, HasNoChoice}
use Rattle.board.specs.Kept.{Goes}
use Rattle.board.specs.Lateness.{Applies, BoardShown, IsAsLate, IsUpToDate}
use Rattle.board.specs.Promises.{CountsPassed}
use Rattle.board.specs.Shown.{Shown, tables}
use Rattle.board.specs.declared.claimed.Claimed.{Claimed}
use Rattle.board.specs.declared.claimed.Claimed.TheVariants.{Stopped, Busy, Work, Drained, Idle}
use Rattle.workers.specs.Held.{IsHeld, IsNoLater, Publishes}

-- nothing waits for the first worker still, for whichever worker the changes were applied
pub prompt_applied : (worker : ℕ) (b t : BoardShown) → IsUpToDate b 0 → Applies worker b t → IsUpToDate t 0
prompt_applied zero b t prompt applies s = let none = prompt s in let fewer = applies.fewer s in omega arith
prompt_applied (suc worker) b t prompt applies s = applies.others 0 s (λ e. absurd (cc)) ∙ prompt s

-- the same if nothing was posted
pub prompt_kept : (b t : BoardShown) → IsUpToDate b 0 → IsAsLate b t → IsUpToDate t 0
prompt_kept b t prompt late s = ap (λ (ws : List (List ℕ)). slice_index_or (slice_index_or ws 0 []) s 0) late.waits ∙ prompt s

-- the number that the board gives is published
pub publishes : (old : ℕ) (b : BoardShown) (n new : ℕ) (t : BoardShown) → t ≡ record b { passed = n } → (IsUpToDate b 0 → CountsPassed b.shown n) → new ≡ max old n
    → IsUpToDate b 0 → Publishes old t new
publishes old b n new t is seen number prompt =
    subst (λ (z : BoardShown). Publishes old z new) (sym is) (record { prompt = prompt; counts = seen prompt; number = number })

-- after the number of passed epochs was asked
pub counted_then : (worker : ℕ) (b c t : BoardShown) (n : ℕ) → Applies worker b c → t ≡ record c { passed = n } → c.passed ≤ n → Applies worker b t
counted_then worker b c t n a is rises =
    subst (λ (z : BoardShown). Applies worker b z) (sym is)
    (record { others = a.others; fewer = a.fewer; passed = (let p = a.passed in omega (arith, p, rises)); called = a.called })

pub counted_late : (b c t : BoardShown) (n : ℕ) → IsAsLate b c → t ≡ record c { passed = n } → c.passed ≤ n → IsNoLater b t
counted_late b c t n a is rises =
    subst (λ (z : BoardShown). IsNoLater b z) (sym is)
    (record { waits = a.waits; behind = a.behind; passed = (let p = a.passed in omega (arith, p, rises)); called = a.called })

-- nothing was published before
pub after_opening : (names : List TableId) (graph : GraphValue) (old : ℕ) (b : BoardShown) (new : ℕ) → tables b.shown ≡ names → b.shown.graph ≡ graph → old ≡ 0
    → Publishes old b new → IsHeld names graph b new
after_opening names graph old b new named is_graph fresh p = record {
  named = named;
  graph = is_graph;
  published = let same : b.passed ≡ new = (let number = p.number in omega (arith, number, fresh)) in subst (CountsPassed b.shown) same p.counts;
  known = let number = p.number in omega (arith, number, fresh);
  prompt = p.prompt;
}

module _ (names : List TableId) (graph : GraphValue) (b : BoardShown) (old : ℕ) (held : IsHeld names graph b old) (t : BoardShown) (new : ℕ) where
  -- the number that was published before isn't above the new one
  published : old ≤ t.passed → Publishes old t new → CountsPassed t.shown new × (t.passed ≡ new)
  published l p = let same : t.passed ≡ new = (let number = p.number in omega (arith, number, l)) in (subst (CountsPassed t.shown) same p.counts, same)

  -- after a step
  pub after_step : (stays : (step : Step) (next : Shown) → Goes b.shown step next → (m n : ℕ) → CountsPassed b.shown m → CountsPassed next n → m ≤ n)
      (step : Step) → Goes b.shown step t.shown → tables t.shown ≡ tables b.shown → Publishes old t new → IsHeld names graph t new
  after_step stays step goes same p = record {
    named = same ∙ held.named;
    graph = goes.graph ∙ held.graph;
    published = (published (stays step t.shown goes old t.passed held.published p.counts) p).0;
    known = (published (stays step t.shown goes old t.passed held.published p.counts) p).1;
    prompt = p.prompt;
  }

  -- after a step and then a catch-up of the first worker
  pub after_publishing : (stays : (step : Step) (next : Shown) → Goes b.shown step next → (m n : ℕ) → CountsPassed b.shown m → CountsPassed next n → m ≤ n)
      (step : Step) (u : BoardShown) → Goes b.shown step u.shown → tables u.shown ≡ tables b.shown → t.shown ≡ u.shown → Publishes old t new
      → IsHeld names graph t new
  after_publishing stays step u goes same is p = after_step stays step (subst (Goes b.shown step) (sym is) goes) (ap tables is ∙ same) p

  -- after a call that changed nothing, except that waiting batches may have been applied
  pub after_nothing : (one : (m n : ℕ) → CountsPassed b.shown m → CountsPassed b.shown n → m ≡ n)
      → t.shown ≡ b.shown → Publishes old t new → IsHeld names graph t new
  after_nothing one is p =
      let there : old ≡ t.passed = one old t.passed held.published (subst (λ (z : Shown). CountsPassed z t.passed) is p.counts) in
      record {
        named = ap tables is ∙ held.named;
        graph = ap (λ (z : Shown). z.graph) is ∙ held.graph;
        published = (published (omega (arith, there)) p).0;
        known = (published (omega (arith, there)) p).1;
        prompt = p.prompt;
      }

  after_claim : (one : (m n : ℕ) → CountsPassed b.shown m → CountsPassed b.shown n → m ≡ n)
      (stays : (step : Step) (next : Shown) → Goes b.shown step next → (m n : ℕ) → CountsPassed b.shown m → CountsPassed next n → m ≤ n)
      (worker : ℕ) (c : Claimed) → Claims b.shown t.shown worker c → tables t.shown ≡ tables b.shown → Publishes old t new
      → IsHeld names graph t new
  after_claim one stays worker Stopped h same p = after_nothing one h.1 p
  after_claim one stays worker Busy h same p = after_nothing one h.2 p
  after_claim one stays worker (Work x) h same p = after_step stays h.0.taken h.0.goes same p
  after_claim one stays worker Drained h same p = after_nothing one h.3 p
  after_claim one stays worker Idle h same p = after_nothing one h.5 p

  -- after a claim, and then the number of passed epochs
  pub after_claiming : (one : (m n : ℕ) → CountsPassed b.shown m → CountsPassed b.shown n → m ≡ n)
      (stays : (step : Step) (next : Shown) → Goes b.shown step next → (m n : ℕ) → CountsPassed b.shown m → CountsPassed next n → m ≤ n)
      (worker : ℕ) (c : Claimed) (u : BoardShown) → Claims b.shown u.shown worker c → tables u.shown ≡ tables b.shown → t.shown ≡ u.shown
      → Publishes old t new → IsHeld names graph t new
  after_claiming one stays worker c u h same is p =
      after_claim one stays worker c (subst (λ (z : Shown). Claims b.shown z worker c) (sym is) h) (ap tables is ∙ same) p

-- after messages were merged and the first worker caught up; what was published is what the board knew before
pub after_gathering : (names : List TableId) (graph : GraphValue) (b : BoardShown) (old : ℕ) → IsHeld names graph b old
    → (u t : BoardShown) (new : ℕ) → tables u.shown ≡ tables b.shown → u.shown.graph ≡ b.shown.graph → b.passed ≤ u.passed → t.shown ≡ u.shown → u.passed ≤ t.passed
    → Publishes old t new → IsHeld names graph t new
after_gathering names graph b old held u t new same is_graph rises is more p =
    let number : t.passed ≡ new = (let n = p.number in let there = held.known in omega (arith, n, there, rises, more)) in
    record {
      named = ap tables is ∙ same ∙ held.named;
      graph = ap (λ (z : Shown). z.graph) is ∙ is_graph ∙ held.graph;
      published = subst (CountsPassed t.shown) number p.counts;
      known = number;
      prompt = p.prompt;
    }

-- after what waits for a worker was applied
pub after_catching_up : (names : List TableId) (graph : GraphValue) (b : BoardShown) (n : ℕ) → IsHeld names graph b n
    → (worker : ℕ) (t : BoardShown) → t.shown ≡ b.shown → t.passed ≡ b.passed → Applies worker b t → IsHeld names graph t n
after_catching_up names graph b n held worker t is still applies = record {
  named = ap tables is ∙ held.named;
  graph = ap (λ (z : Shown). z.graph) is ∙ held.graph;
  published = subst (λ (z : Shown). CountsPassed z n) (sym is) held.published;
  known = still ∙ held.known;
  prompt = prompt_applied worker b t held.prompt applies;
}

-- after a refusal
pub after_refusal : (names : List TableId) (graph : GraphValue) (b : BoardShown) (n : ℕ) → IsHeld names graph b n
    → (t : BoardShown) → t ≡ b → IsHeld names graph t n
after_refusal names graph b n held t is = subst (λ (z : BoardShown). IsHeld names graph z n) (sym is) held

-- the answer to a worker for which nothing waits is true, and was true before
pub choice : (b t : BoardShown) (worker : ℕ) (answer : Bool) → t.shown ≡ b.shown → IsUpToDate t worker
    → (answer ≡ true → HasChoice t.shown worker) → (answer ≡ false → IsUpToDate t worker → HasNoChoice t.shown worker)
    → MatchBool answer (HasChoice b.shown worker) (HasNoChoice b.shown worker)
choice b t worker true is prompt some none = subst (λ (s : Shown). HasChoice s worker) is (some refl)
choice b t worker false is prompt some none = subst (λ (s : Shown). HasNoChoice s worker) is (none refl prompt)
