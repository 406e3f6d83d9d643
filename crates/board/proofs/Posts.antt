-- What each step posts may be posted, and what is active then.
use Rattle.std.proofs.Common.{◌≡◌, ◌≢◌, ◌⊎◌, inl, inr, ◌<◌, ◌≤◌, ◌+◌, ◌-◌, ℕ, Bool, false, cond, nat_lt, List, [], ◌∷◌, length, refl, sym, ap, ◌∙◌, subst, arith, slice_set, length-set}
use Rattle.semantics.specs.Multiset.{Record}
use Rattle.semantics.specs.Graph.{Graph, input_count}
use Rattle.semantics.specs.Could.{CouldResultIn, Pointstamp, at_vertex}
use Rattle.semantics.specs.Time.{at_epoch}
use Rattle.semantics.specs.PortArity.{HaveFields}
use Rattle.graph.specs.Shown.{shown_graph}
use Rattle.machine.specs.World.{World}
use Rattle.machine.specs.Active.{active_count, one_if_same}
use Rattle.machine.proofs.Active.{one_tells}
use Rattle.machine.specs.Changes.{step_adds, step_removes, step_sender}
use Rattle.machine.specs.Engine.{network}
use Rattle.machine.specs.Headline.{IsRunOn}
use Rattle.machine.specs.Posting.{MayPost}
use Rattle.machine.specs.Step.{Allowed, Step}
use Rattle.views.specs.Content.{times_in}
use Rattle.tokens.specs.declared.rule.Place.TheVariants.{Home}
use Rattle.views.specs.Waiting.{Posted, Waiting, after_post, batch}
use Rattle.events.specs.declared.letter.Letter.{Letter}
use Rattle.events.specs.Jobs.{Pass}
use Rattle.board.specs.Claims.{MergesMail}
use Rattle.board.specs.Commits.{Feeds, FeedsBy, IsOf, Settles, SettlesBy}
use Rattle.board.specs.Fitting.{arity_in}
use Rattle.board.specs.Kept.{IsKept}
use Rattle.board.specs.Lateness.{KeepsCalled, PostsSome}
use Rattle.board.specs.Shown.{Shown, event_at, input_at, net, side_at}
use Rattle.board.specs.Steps.{after_close, after_seal, delivered, more_at, settled}
use Rattle.board.proofs.Committed as committed
use Rattle.board.proofs.Deliveries.{delivered_length}
use Rattle.board.proofs.Ended.{active_input, close_goes, close_kept, seal_goes, seal_kept}
use Rattle.board.proofs.Facts.{run_on}
use Rattle.board.proofs.Feeding as feeding
use Rattle.board.proofs.Lateness.{board_of, counts_alike, posted_some, posts}
use Rattle.board.proofs.Merged as merging
use Rattle.board.specs.WorkerShown.{requests_count}

-- the changes of an allowed step may be posted
abbrev pub MayLaw : Type 0
MayLaw =
    (g : Graph) (workers : ℕ) (steps : List Step) (w : World) → IsRunOn g workers steps w → (step : Step) → Allowed (network g workers) w step
    → (content : Pointstamp → ℕ) → ((q : Pointstamp) → content q ≡ active_count (network g workers) w q) → (added removed : List Pointstamp)
    → ((q : Pointstamp) → times_in added q ≡ step_adds (network g workers) w step q) → ((q : Pointstamp) → times_in removed q ≡ step_removes (network g workers) w step q)
    → MayPost (CouldResultIn g) (input_count g) workers content (batch (step_sender (network g workers) step) added removed)

no_more : (a b : ℕ) → a ≡ b → a + 0 ≡ b
no_more a b e = omega (arith, e)

-- `before` and `middle` have the same contents; the views are for that many workers
module _ (law : MayLaw) (graph graph' : Graph) (viewers : ℕ) (before middle : Pointstamp → ℕ) (s : Shown) (kept : IsKept graph before s) (viewers_are : viewers ≡ length s.sides) (same : graph' ≡ graph) (contents : (q : Pointstamp) → middle q ≡ before q) where
  may_post : (step : Step) → Allowed (net s) kept.world step → (sender : ℕ) → sender ≡ step_sender (net s) step → (added removed : List Pointstamp)
      → ((q : Pointstamp) → times_in added q ≡ step_adds (net s) kept.world step q) → ((q : Pointstamp) → times_in removed q ≡ step_removes (net s) kept.world step q)
      → MayPost (CouldResultIn graph') (input_count graph') viewers middle (batch sender added removed)
  may_post step ok sender by added removed adds removes =
      let one : MayPost (CouldResultIn (shown_graph s.graph)) (input_count (shown_graph s.graph)) (length s.sides) middle (batch (step_sender (net s) step) added removed) =
      law (shown_graph s.graph) (length s.sides) kept.steps kept.world (run_on graph before s kept) step ok middle (λ q. contents q ∙ kept.tracked q) added removed adds removes in
      let A : Graph → Type 0 = λ g. MayPost (CouldResultIn g) (input_count g) (length s.sides) middle (batch (step_sender (net s) step) added removed) in
      let B : ℕ → Type 0 = λ n. MayPost (CouldResultIn graph') (input_count graph') n middle (batch (step_sender (net s) step) added removed) in
      let C : ℕ → Type 0 = λ n. MayPost (CouldResultIn graph') (input_count graph') viewers middle (batch n added removed) in
      subst C (sym by) (subst B (sym viewers_are) (subst A (sym (same ∙ kept.same)) one))

  module _ (i : ℕ) (takes : (s.stopped ≡ false) × (i < length s.inputs) × ((input_at s i).closed ≡ false)) (sender : ℕ) (feeder : sender ≡ length s.sides) where
    pub may_seal : (opens ends : Pointstamp) → opens ≡ at_vertex i (at_epoch ((input_at s i).open_epoch + 1)) → ends ≡ at_vertex i (at_epoch (input_at s i).open_epoch)
        → MayPost (CouldResultIn graph') (input_count graph') viewers middle (batch sender (opens ∷ []) (ends ∷ []))
    may_seal opens ends o e =
        let at = kept.shows.open_epoch i in
        may_post (Step.seal i) ((seal_goes graph before s kept i takes).step kept.world kept.shows).0 sender feeder (opens ∷ []) (ends ∷ [])
        (λ q. no_more _ _ (ap (one_if_same q) (o ∙ ap (λ n. at_vertex i (at_epoch (n + 1))) (sym at))))
        (λ q. no_more _ _ (ap (one_if_same q) (e ∙ ap (λ n. at_vertex i (at_epoch n)) (sym at))))

    pub may_close : (ends : Pointstamp) → ends ≡ at_vertex i (at_epoch (input_at s i).open_epoch) → MayPost (CouldResultIn graph') (input_count graph') viewers middle (batch sender [] (ends ∷ []))
    may_close ends e =
        let at = kept.shows.open_epoch i in
        may_post (Step.close i) ((close_goes graph before s kept i takes).step kept.world kept.shows).0 sender feeder [] (ends ∷ []) (λ q. omega arith)
        (λ q. no_more _ _ (ap (one_if_same q) (e ∙ ap (λ n. at_vertex i (at_epoch n)) (sym at))))

    module _ (records : List Record) (some : 0 < length records) (fields : HaveFields (arity_in s.graph i) records) (t : Shown) (added : List Pointstamp) (f : FeedsBy s t added i records) where
      pub may_feed : MayPost (CouldResultIn graph') (input_count graph') viewers middle (batch sender added [])
      may_feed =
          may_post (Step.feed i records) ((feeding.feed_goes graph before s kept i takes records some fields f.letters f.parcels).step kept.world kept.shows).0 sender feeder added []
          (λ q. f.added_are q ∙ feeding.letters_are graph before s kept i takes records some fields f.letters f.parcels q) (λ q. omega arith)

  module _ (p : Pass) (of : IsOf s p) (t : Shown) (added : List Pointstamp) (place : Pointstamp) (x : SettlesBy s t added place p) where
    pub may_commit : MayPost (CouldResultIn graph') (input_count graph') viewers middle (batch p.worker added (place ∷ []))
    may_commit =
        let d = committed.done graph before s kept p of x.out x.output x.is in
        let go = committed.goes_commit graph before s kept p of x.out x.output x.is in
        may_post (Step.commit p.worker p.job.happening d.out) (go.step kept.world kept.shows).0 p.worker (λ i. p.worker) added (place ∷ [])
        (λ q. sums _ _ _ _ _ (x.added_are q) (committed.letters_are graph before s kept p of x.out x.output x.is q) (ap (requests_count q) (committed.asks_are graph before s kept p of x.out x.output x.is)))
        (λ q. no_more _ _ (ap (one_if_same q) x.place_is))
      where
        sums : (a l n l' n' : ℕ) → a ≡ l + n → l ≡ l' → n ≡ n' → a ≡ l' + n'
        sums a l n l' n' x y z = omega (arith, x, y, z)

  module _ (k : ℕ) (there : k < length s.sides) (free : (side_at s k).place ≡ Home) (runs : s.stopped ≡ false) (t : Shown) (at : ℕ) (place : Pointstamp) (h : MergesMail s t k at place) where
    pub may_merge : MayPost (CouldResultIn graph') (input_count graph') viewers middle (batch k [] (place ∷ []))
    may_merge =
        may_post (Step.merge k at h.merges.alike.first h.merges.alike.second) (merging.may_merge s k there free runs t at place h kept.world kept.shows) k refl [] (place ∷ [])
        (λ q. omega arith) (λ q. no_more _ _ (ap (one_if_same q) h.merges.place_is))

-- what a feed leaves active
pub feeds_from : (before middle after : Pointstamp → ℕ) (s t : Shown) (added : List Pointstamp) (i : ℕ) (records : List Record) → ((q : Pointstamp) → middle q ≡ before q)
    → ((q : Pointstamp) → after q + times_in [] q ≡ middle q + times_in added q) → FeedsBy s t added i records → Feeds s t before after i records
feeds_from before middle after s t added i records same counts f =
    record { letters = f.letters; parcels = f.parcels; state = f.state; content = λ q. order _ _ _ _ _ (counts q) (same q) (f.added_are q) }
  where
    order : (a m b d l : ℕ) → a + 0 ≡ m + d → m ≡ b → d ≡ l → a ≡ l + b
    order a m b d l x y z = omega (arith, x, y, z)

-- what a commit leaves active
pub settles_from : (before middle after : Pointstamp → ℕ) (s t : Shown) (added : List Pointstamp) (place : Pointstamp) (p : Pass) → ((q : Pointstamp) → middle q ≡ before q)
    → ((q : Pointstamp) → after q + times_in (place ∷ []) q ≡ middle q + times_in added q) → SettlesBy s t added place p → Settles s t before after p
settles_from before middle after s t added place p same counts x =
    record { out = x.out; output = x.output; is = x.is; state = x.state; content = λ q. order _ _ _ _ _ _ _ _ (counts q) (same q) (x.added_are q) (ap (one_if_same q) x.place_is) }
  where
    order : (a r m b d l n r' : ℕ) → a + (r + 0) ≡ m + d → m ≡ b → d ≡ l + n → r ≡ r' → a + r' ≡ l + n + b
    order a r m b d l n r' x y z w = omega (arith, x, y, z, w)

-- what a feed leaves waiting: one batch more, if it has messages
pub posts_fed : (late : Bool) (s t : Shown) (n by : ℕ) (middle old new : Waiting) (behind behind' : ℕ → List Posted) (passed passed' : ℕ) (added : List Pointstamp) (i : ℕ) (records : List Record) → FeedsBy s t added i records
    → length s.sides ≡ n → ((w k : ℕ) → middle w k ≡ old w k)
    → ((w k : ℕ) → w < n → new w k ≡ cond (nat_lt 0 (length added + 0)) (after_post late middle (batch by added []) w k) (middle w k))
    → KeepsCalled (board_of s n old behind passed) (board_of t n new behind' passed') → PostsSome late by (board_of s n old behind passed) (board_of t n new behind' passed')
posts_fed late s t n by middle old new behind behind' passed passed' [] i records f many same after called =
    let none : f.letters ≡ [] = no_letters f.letters (let e = f.as_many in omega (arith, e)) in
    inr (ap (λ (z : Shown). z.sides) f.state ∙ ap (delivered s.sides) none, counts_alike n old new (λ w k l. after w k l ∙ same w k), called)
  where
    no_letters : (ls : List Letter) → length ls ≡ 0 → ls ≡ []
    no_letters [] e = refl
    no_letters (x ∷ ls) e = absurd (omega (arith, e))
posts_fed late s t n by middle old new behind behind' passed passed' (x ∷ xs) i records f many same after called =
    inl (posts s n old passed t new passed' late by (x ∷ xs) [] behind behind' many (posted_some late middle old new (batch by (x ∷ xs) []) (length (x ∷ xs) + 0) n (omega arith) same after) called)

-- there are as many workers and inputs as before
module _ (s t : Shown) (added : List Pointstamp) (i : ℕ) (records : List Record) (f : FeedsBy s t added i records) where
  pub fed_workers : length t.sides ≡ length s.sides
  fed_workers = ap (λ (z : Shown). length z.sides) f.state ∙ delivered_length f.letters s.sides

  pub fed_inputs : length t.inputs ≡ length s.inputs
  fed_inputs = ap (λ (z : Shown). length z.inputs) f.state ∙ length-set s.inputs i (record (input_at s i) { fed = more_at (input_at s i).open_epoch (records ∷ []) (input_at s i).fed })

module _ (s t : Shown) (added : List Pointstamp) (place : Pointstamp) (p : Pass) (x : SettlesBy s t added place p) where
  pub settled_workers : length t.sides ≡ length s.sides
  settled_workers =
      let o = x.output in
      let y = settled (side_at s p.worker) (event_at (shown_graph s.graph) p.job.happening) o.shard.value o.asked in
      ap (λ (z : Shown). length z.sides) x.state ∙ delivered_length o.sent.items (slice_set s.sides p.worker y) ∙ length-set s.sides p.worker y

  pub settled_inputs : t.inputs ≡ s.inputs
  settled_inputs = ap (λ (z : Shown). z.inputs) x.state

one_there : (q p : Pointstamp) (f : Pointstamp → ℕ) → 0 < f p → one_if_same q p ≤ f q
one_there q p f l = go (one_tells q p)
  where
    go : ((one_if_same q p ≡ 1) × (q ≡ p)) ⊎ ((one_if_same q p ≡ 0) × (q ≢ p)) → one_if_same q p ≤ f q
    go (inl (t, e)) = let a : 0 < f q = subst (λ (x : Pointstamp). 0 < f x) (sym e) l in omega (arith, t, a)
    go (inr (t, n)) = omega (arith, t)

-- what a seal and a close leave active
module _ (graph graph' : Graph) (before middle after : Pointstamp → ℕ) (s : Shown) (kept : IsKept graph before s) (i : ℕ) (takes : (s.stopped ≡ false) × (i < length s.inputs) × ((input_at s i).closed ≡ false))
    (same : graph' ≡ graph) (contents : (q : Pointstamp) → middle q ≡ before q) (opens ends : Pointstamp) (o : opens ≡ at_vertex i (at_epoch ((input_at s i).open_epoch + 1))) (e : ends ≡ at_vertex i (at_epoch (input_at s i).open_epoch))
    (counts : (q : Pointstamp) → after q + times_in (ends ∷ []) q ≡ middle q + times_in (opens ∷ []) q) where
  pub seal_posted : IsKept graph' after (after_seal s i)
  seal_posted =
      seal_kept graph before s kept i takes graph' after (λ q. before q - one_if_same q (at_vertex i (at_epoch (input_at s i).open_epoch))) same
      (λ q. taken (before q) (one_if_same q (at_vertex i (at_epoch (input_at s i).open_epoch))) (there q))
      (λ q. put _ _ _ _ _ _ _ (counts q) (contents q) (ap (one_if_same q) o) (ap (one_if_same q) e) (there q))
    where
      there : (q : Pointstamp) → one_if_same q (at_vertex i (at_epoch (input_at s i).open_epoch)) ≤ before q
      there q = one_there q (at_vertex i (at_epoch (input_at s i).open_epoch)) before (active_input graph before s kept i takes)

      taken : (b r : ℕ) → r ≤ b → b ≡ r + (b - r)
      taken b r l = omega (arith, l)

      put : (a r m b p p' r' : ℕ) → a + (r + 0) ≡ m + (p + 0) → m ≡ b → p ≡ p' → r ≡ r' → r' ≤ b → a ≡ p' + (b - r')
      put a r m b p p' r' x y z w l = omega (arith, x, y, z, w, l)

pub close_posted : (graph graph' : Graph) (before after : Pointstamp → ℕ) (s : Shown) (kept : IsKept graph before s) (i : ℕ) (takes : (s.stopped ≡ false) × (i < length s.inputs) × ((input_at s i).closed ≡ false))
    → graph' ≡ graph → (ends : Pointstamp) → ends ≡ at_vertex i (at_epoch (input_at s i).open_epoch) → ((q : Pointstamp) → after q + times_in (ends ∷ []) q ≡ before q + times_in [] q) → IsKept graph' after (after_close s i)
close_posted graph graph' before after s kept i takes same ends e counts =
    close_kept graph before s kept i takes graph' after same (λ q. order _ _ _ _ (counts q) (ap (one_if_same q) e))
  where
    order : (a r b r' : ℕ) → a + (r + 0) ≡ b + 0 → r ≡ r' → b ≡ r' + a
    order a r b r' x y = omega (arith, x, y)

-- what a merge leaves active
pub merge_posted : (graph graph' : Graph) (before middle after : Pointstamp → ℕ) (s : Shown) (kept : IsKept graph before s) (k : ℕ) (there : k < length s.sides) (free : (side_at s k).place ≡ Home) (runs : s.stopped ≡ false)
    (t : Shown) (at : ℕ) (place : Pointstamp) → MergesMail s t k at place → graph' ≡ graph → ((q : Pointstamp) → middle q ≡ before q) → ((q : Pointstamp) → after q + times_in (place ∷ []) q ≡ middle q + times_in [] q) → IsKept graph' after t
merge_posted graph graph' before middle after s kept k there free runs t at place h same contents counts =
    merging.merge_kept s k there free runs t at place h graph before kept graph' after same (λ q. order _ _ _ _ (counts q) (contents q))
  where
    order : (a r m b : ℕ) → a + (r + 0) ≡ m + 0 → m ≡ b → a + r ≡ b
    order a r m b x y = omega (arith, x, y)
