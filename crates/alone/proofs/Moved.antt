-- What the engine's steps leave of what was fed and emitted.
use Rattle.std.proofs.Common.{◌≡◌, ◌≢◌, ◌∙◌, ◌+◌, ◌<◌, ◌≤◌, ℕ, zero, suc, Bool, true, false, List, [], ◌∷◌, ◌++◌, length, cond, refl, sym, ap, subst, arith, append_assoc, get_or, inl, inr, eq-eqb}
use Rattle.std.specs.List.{AllByRecursion}
use Rattle.std.specs.Prelude.{◌==◌, nat_lt, Option, Some, None, Result, Ok, Err}
use Rattle.std.proofs.lemmas.Bool.Decides.{eqb_tells}
use Rattle.std.proofs.lemmas.List.{append-nil}
use Rattle.semantics.specs.Multiset.{Record}
use Rattle.semantics.specs.PortArity.{HaveFields}
use Rattle.semantics.proofs.MultisetSums.{count_here}
use Rattle.machine.specs.Step.{Step, after_step, put}
use Rattle.ending.specs.Ending.{IsWork}
use Rattle.machine.specs.World.{Held}
use Rattle.events.specs.Jobs.{Job}
use Rattle.tokens.specs.declared.rule.Place.{Place}
use Rattle.tokens.specs.declared.rule.Place.TheVariants.{Home, Lost, Out}
use Rattle.board.specs.Shown.{InputShown, Shown, batches_at, held_of, input_at, net, side_at}
use Rattle.board.specs.Kept.{Goes}
use Rattle.board.specs.Answers.{AnswersOnly, AnswersOr, feed_refusal, first, input_refusal, seal_refusal}
use Rattle.board.specs.Fitting.{arity_in}
use Rattle.board.specs.Promises.{IsOpening}
use Rattle.board.specs.declared.refusal.StepRefusal.{StepRefusal}
use Rattle.board.specs.declared.refusal.StepRefusal.TheVariants as refusal
use Rattle.rows.specs.FlatRows.{arity_of, joined}
use Rattle.graph.specs.Shown.{GraphValue}
use Rattle.std.proofs.lemmas.Bool.{lt-ltb}
use Rattle.alone.specs.Scenes.{AreFreeBut, Closes, Feeds, FeedsAll, Grows, IsLive, IsReady, Seals, SealsOne, Works, fed_at, open_at}

-- ---- workers that are free

pub at_home : (p : Place Job) → held_of p ≡ Held.nothing → p ≡ Home
at_home Home e = refl
at_home (Out j) e = absurd cc
at_home (Lost j) e = absurd cc

-- what a worker that is free holds in the board's world
pub holds_nothing : (s : Shown) (live : IsLive s) (held : List ℕ) → AreFreeBut s held → (k : ℕ) → k < length s.sides → AllByRecursion (λ (j : ℕ). j ≢ k) held → live.0.held k ≡ Held.nothing
holds_nothing s live held f k l others = live.1.held k l ∙ ap held_of (f.home k l others)

pub free_by : (s t : Shown) (taken : Step) (live : IsLive s) → Goes s taken t → (held : List ℕ) → (after_step (net s) live.0 taken).stopped ≡ live.0.stopped → s.stopped ≡ false
    → ((k : ℕ) → k < length s.sides → AllByRecursion (λ (j : ℕ). j ≢ k) held → (after_step (net s) live.0 taken).held k ≡ Held.nothing) → AreFreeBut t held
free_by s t taken live goes held stopped runs nothing =
    let after = (goes.step live.0 live.1).1 in
    record {
      runs = sym after.stopped ∙ stopped ∙ live.1.stopped ∙ runs;
      home = λ k l others.
          let l' : k < length s.sides = omega (arith, l, goes.workers) in
          at_home (side_at t k).place (sym (after.held k l) ∙ nothing k l' others);
    }

-- a step that no worker takes part in
pub still_free : (s t : Shown) (taken : Step) (live : IsLive s) → Goes s taken t → (held : List ℕ) → (after_step (net s) live.0 taken).stopped ≡ live.0.stopped → ((k : ℕ) → (after_step (net s) live.0 taken).held k ≡ live.0.held k) → AreFreeBut s held → AreFreeBut t held
still_free s t taken live goes held stopped same f = free_by s t taken live goes held stopped f.runs (λ k l others. same k ∙ holds_nothing s live held f k l others)

-- ---- steps

grows_by : (s t : Shown) (taken : Step) (live : IsLive s) → Goes s taken t → Grows s t
grows_by s t taken live goes = record { live = (after_step (net s) live.0 taken, (goes.step live.0 live.1).1); graph = goes.graph; sides = goes.workers; emitted = goes.emitted }

works_by : (s t : Shown) (taken : Step) (live : IsLive s) → Goes s taken t
    → ((i e : ℕ) → (after_step (net s) live.0 taken).fed i e ≡ live.0.fed i e) → ((i : ℕ) → (after_step (net s) live.0 taken).open_epoch i ≡ live.0.open_epoch i)
    → ((i : ℕ) → (after_step (net s) live.0 taken).closed i ≡ live.0.closed i) → Works s t
works_by s t taken live goes fed opened closed =
    let after = (goes.step live.0 live.1).1 in
    record {
      grows = grows_by s t taken live goes;
      fed = λ i e. sym (after.fed i e) ∙ fed i e ∙ live.1.fed i e;
      opened = λ i. sym (after.open_epoch i) ∙ opened i ∙ live.1.open_epoch i;
      closed = λ i. sym (after.closed i) ∙ closed i ∙ live.1.closed i;
    }

-- nothing was done
pub works_not : (s : Shown) → IsLive s → Works s s
works_not s live = record { grows = record { live = live; graph = refl; sides = refl; emitted = λ v e. ([], sym (append-nil (batches_at s.emitted v e))) }; fed = λ i e. refl; opened = λ i. refl; closed = λ i. refl }

pub grows_not : (s : Shown) → IsLive s → Grows s s
grows_not s live = (works_not s live).grows

pub grows_on : (s t u : Shown) → Grows s t → Grows t u → Grows s u
grows_on s t u p q = record {
  live = q.live;
  graph = q.graph ∙ p.graph;
  sides = q.sides ∙ p.sides;
  emitted = λ v e.
      let a = p.emitted v e in
      let b = q.emitted v e in
      (a.0 ++ b.0, b.1 ∙ ap (λ (bs : List (List Record)). bs ++ b.0) a.1 ∙ append_assoc (batches_at s.emitted v e) a.0 b.0);
}

pub works_on : (s t u : Shown) → Works s t → Works t u → Works s u
works_on s t u p q = record { grows = grows_on s t u p.grows q.grows; fed = λ i e. q.fed i e ∙ p.fed i e; opened = λ i. q.opened i ∙ p.opened i; closed = λ i. q.closed i ∙ p.closed i }

-- a new board
pub opening_ready : (g : GraphValue) (n : ℕ) (s : Shown) → IsOpening g n s → IsReady s
opening_ready g n s is = record {
  free = record { runs = is.runs; home = λ k l others. (is.idle k l).place };
  unclosed = λ i. ap (λ (x : InputShown). x.closed) (is.unfed i);
}

-- ---- refusals

-- on an open input of a board that runs no call is refused
open_input : (a b c : Bool) → a ≡ false → b ≡ true → c ≡ false → first (cond a (Some refusal.Stopped) None) (first (cond b None (Some refusal.UnknownInput)) (cond c (Some refusal.InputClosed) None)) ≡ None
open_input false true false p q r = refl
open_input true b c p q r = absurd cc
open_input false false c p q r = absurd cc
open_input false true true p q r = absurd cc

pub no_refusal : (s : Shown) (i : ℕ) → s.stopped ≡ false → i < length s.inputs → (input_at s i).closed ≡ false → input_refusal s i ≡ None
no_refusal s i runs there unclosed = open_input s.stopped (nat_lt i (length s.inputs)) (input_at s i).closed runs (lt-ltb i (length s.inputs) there) unclosed

pub no_feed_refusal : (s : Shown) (i : ℕ) (batch : List Record) → IsReady s → i < length s.inputs → arity_of batch ≡ arity_in s.graph i → feed_refusal s i batch ≡ None
no_feed_refusal s i batch ready there fits =
    ap (λ o. first o (cond (arity_of batch == arity_in s.graph i) None (Some refusal.WrongFieldCount))) (no_refusal s i ready.free.runs there (ready.unclosed i))
    ∙ ap (λ t. cond t None (Some refusal.WrongFieldCount)) (eq-eqb (arity_of batch) (arity_in s.graph i) fits)

pub no_seal_refusal : (s : Shown) (i : ℕ) → IsReady s → i < length s.inputs → open_at s i < 4294967295 → seal_refusal s i ≡ None
no_seal_refusal s i ready there below =
    ap (λ o. first o (cond ((input_at s i).open_epoch == 4294967295) (Some refusal.LastEpoch) None)) (no_refusal s i ready.free.runs there (ready.unclosed i))
    ∙ elim (eqb_tells (open_at s i) 4294967295) [
      | inl same ↦ absurd (omega (arith, below, same.1))
      | inr other ↦ ap (λ t. cond t (Some refusal.LastEpoch) None) other.0
    ]

-- where there is no refusal, only memory is lacking
pub only_memory : {T : Type 0} (o : Option StepRefusal) (r : Result T StepRefusal) (e : StepRefusal) → o ≡ None → r ≡ Err e → AnswersOr o r → e ≡ refusal.NoMemory
only_memory None (Err d) e none is h = let same : d ≡ e = cc in sym same ∙ h
only_memory None (Ok t) e none is h = absurd cc
only_memory (Some x) r e none is h = absurd cc

pub never : {T : Type 0} (o : Option StepRefusal) (r : Result T StepRefusal) (e : StepRefusal) → o ≡ None → r ≡ Err e → AnswersOnly o r → ⊥
never None (Err d) e none is h = h
never None (Ok t) e none is h = absurd cc
never (Some x) r e none is h = absurd cc

-- ---- steps of workers

pub steps_work : (s t : Shown) (step : Step) → IsWork step → Goes s step t → IsLive s → Works s t
steps_work s t (Step.feed i records) work goes live = absurd work
steps_work s t (Step.seal i) work goes live = absurd work
steps_work s t (Step.close i) work goes live = absurd work
steps_work s t (Step.claim_message k at m) work goes live = works_by s t (Step.claim_message k at m) live goes (λ i e. refl) (λ i. refl) (λ i. refl)
steps_work s t (Step.claim_request k at n) work goes live = works_by s t (Step.claim_request k at n) live goes (λ i e. refl) (λ i. refl) (λ i. refl)
steps_work s t (Step.merge k at m n) work goes live = works_by s t (Step.merge k at m n) live goes (λ i e. refl) (λ i. refl) (λ i. refl)
steps_work s t (Step.commit k event out) work goes live = works_by s t (Step.commit k event out) live goes (λ i e. refl) (λ i. refl) (λ i. refl)
steps_work s t (Step.abandon k event) work goes live = works_by s t (Step.abandon k event) live goes (λ i e. refl) (λ i. refl) (λ i. refl)

put_true : (b x : Bool) → x ≡ true → cond b true x ≡ true
put_true true x e = refl
put_true false x e = e

put_other : (b x y : Bool) → b ≡ false → cond b y x ≡ x
put_other b x y e = ap (λ t. cond t y x) e

-- ---- closes of one input after another

pub closes_not : (s : Shown) → IsLive s → IsReady s → Closes s s 0
closes_not s live ready = record { grows = grows_not s live; fed = λ i e. refl; free = ready.free; closed = λ i lt. absurd (omega (arith, lt)); others = λ i le. ready.unclosed i }

pub closes_more : (s t u : Shown) (n : ℕ) → Closes s t n → Goes t (Step.close n) u → Closes s u (n + 1)
closes_more s t u n p goes =
    let live = p.grows.live in
    let after = (goes.step live.0 live.1).1 in
    record {
      grows = grows_on s t u p.grows (grows_by t u (Step.close n) live goes);
      fed = λ i e. sym (after.fed i e) ∙ live.1.fed i e ∙ p.fed i e;
      free = still_free t u (Step.close n) live goes [] refl (λ k. refl) p.free;
      closed = λ i lt. sym (after.closed i) ∙ elim (eqb_tells i n) [
        | inl same ↦ ap (λ b. cond b true (live.0.closed i)) same.0
        | inr other ↦ put_true (i == n) (live.0.closed i) (live.1.closed i ∙ p.closed i (omega (arith, lt, other.1)))
      ];
      others = λ i le. sym (after.closed i) ∙ elim (eqb_tells i n) [
        | inl same ↦ absurd (omega (arith, le, same.1))
        | inr other ↦ put_other (i == n) (live.0.closed i) true other.0 ∙ live.1.closed i ∙ p.others i (omega (arith, le))
      ];
    }

pub closes_all : (s t : Shown) (n m : ℕ) → n ≡ m → Closes s t n → Closes s t m
closes_all s t n m e p = subst (Closes s t) e p

-- ---- feeds and seals

pub feed_feeds : (s t : Shown) (i : ℕ) (batch : List Record) → Goes s (Step.feed i batch) t → IsLive s → IsReady s → Feeds s t i batch
feed_feeds s t i batch goes live ready =
    let w = live.0 in
    let after = (goes.step w live.1).1 in
    let same : w.fed ≡ fed_at s = λ k. λ a b. (live.1.fed a b) k in
    record {
      grows = grows_by s t (Step.feed i batch) live goes;
      fed = λ j e.
          sym (after.fed j e) ∙ ap (λ (f : ℕ → ℕ → List Record). put f i (put (f i) (w.open_epoch i) (f i (w.open_epoch i) ++ batch)) j e) same
          ∙ ap (λ (o : ℕ). put (fed_at s) i (put (fed_at s i) o (fed_at s i o ++ batch)) j e) (live.1.open_epoch i);
      opened = λ j. sym (after.open_epoch j) ∙ live.1.open_epoch j;
      ready = record {
        free = still_free s t (Step.feed i batch) live goes [] refl (λ k. refl) ready.free;
        unclosed = λ j. sym (after.closed j) ∙ live.1.closed j ∙ ready.unclosed j;
      };
    }

pub seal_seals : (s t : Shown) (i : ℕ) → Goes s (Step.seal i) t → IsLive s → IsReady s → SealsOne s t i
seal_seals s t i goes live ready =
    let w = live.0 in
    let after = (goes.step w live.1).1 in
    record {
      grows = grows_by s t (Step.seal i) live goes;
      fed = λ j e. sym (after.fed j e) ∙ live.1.fed j e;
      ready = record {
        free = still_free s t (Step.seal i) live goes [] refl (λ k. refl) ready.free;
        unclosed = λ j. sym (after.closed j) ∙ live.1.closed j ∙ ready.unclosed j;
      };
      here = sym (after.open_epoch i) ∙ at_same (w.open_epoch i + 1) (w.open_epoch i) i ∙ ap (λ (n : ℕ). n + 1) (live.1.open_epoch i);
      others = λ j other. sym (after.open_epoch j) ∙ at_other (w.open_epoch i + 1) (w.open_epoch j) j other ∙ live.1.open_epoch j;
    }
  where
    at_same : (x y k : ℕ) → cond (k == k) x y ≡ x
    at_same x y k = elim (eqb_tells k k) [
      | inl yes_way ↦ ap (λ t. cond t x y) yes_way.0
      | inr no_way ↦ absurd (no_way.1 refl)
    ]

    at_other : (x y j : ℕ) → j ≢ i → cond (j == i) x y ≡ y
    at_other x y j other = elim (eqb_tells j i) [
      | inl yes_way ↦ absurd (other yes_way.1)
      | inr no_way ↦ ap (λ t. cond t x y) no_way.0
    ]

-- ---- feeds of one batch after another

pub feeds_none : (s : Shown) (i : ℕ) → IsLive s → IsReady s → FeedsAll s s i []
feeds_none s i live ready = record { grows = grows_not s live; here = sym (append-nil (fed_at s i (open_at s i))); others = λ j e apart. refl; opened = λ j. refl; ready = ready }

-- where a feed puts its records
put_here : {X : Type 0} (f : ℕ → X) (i : ℕ) (x : X) → put f i x i ≡ x
put_here f i x = elim (eqb_tells i i) [
  | inl same ↦ ap (λ t. cond t x (f i)) same.0
  | inr other ↦ absurd (other.1 refl)
]

put_apart : {X : Type 0} (f : ℕ → X) (i j : ℕ) (x : X) → j ≢ i → put f i x j ≡ f j
put_apart f i j x apart = elim (eqb_tells j i) [
  | inl same ↦ absurd (apart same.1)
  | inr other ↦ ap (λ t. cond t x (f j)) other.0
]

pub feeds_one : (s t : Shown) (i : ℕ) (batch : List Record) → Feeds s t i batch → FeedsAll s t i batch
feeds_one s t i batch f =
    let o = open_at s i in
    let at = put (fed_at s i) o (fed_at s i o ++ batch) in
    record {
      grows = f.grows;
      here = f.fed i o ∙ ap (λ (g : ℕ → List Record). g o) (put_here (fed_at s) i at) ∙ put_here (fed_at s i) o (fed_at s i o ++ batch);
      others = λ j e apart. f.fed j e ∙ elim (eqb_tells j i) [
        | inl same ↦ elim (eqb_tells e o) [
          | inl there ↦ absurd (apart same.1 there.1)
          | inr away ↦ ap (λ (k : ℕ). put (fed_at s) i at k e) same.1 ∙ ap (λ (g : ℕ → List Record). g e) (put_here (fed_at s) i at) ∙ put_apart (fed_at s i) o e (fed_at s i o ++ batch) away.1
              ∙ ap (λ (k : ℕ). fed_at s k e) (sym same.1)
        ]
        | inr other ↦ ap (λ (g : ℕ → List Record). g e) (put_apart (fed_at s) i j at other.1)
      ];
      opened = f.opened;
      ready = f.ready;
    }

pub feeds_more : (s t u : Shown) (i : ℕ) (records batch all : List Record) → all ≡ records ++ batch → FeedsAll s t i records → FeedsAll t u i batch → FeedsAll s u i all
feeds_more s t u i records batch all is p q =
    let o = p.opened i in
    record {
      grows = grows_on s t u p.grows q.grows;
      here = subst (λ (n : ℕ). fed_at u i n ≡ fed_at t i n ++ batch) o q.here ∙ ap (λ (xs : List Record). xs ++ batch) p.here ∙ append_assoc (fed_at s i (open_at s i)) records batch
          ∙ ap (λ (xs : List Record). fed_at s i (open_at s i) ++ xs) (sym is);
      others = λ j e apart. q.others j e (λ same there. apart same (there ∙ o)) ∙ p.others j e apart;
      opened = λ j. q.opened j ∙ p.opened j;
      ready = q.ready;
    }

-- each batch has the arity of all records
rear : (arity : ℕ) (xs ys : List Record) → HaveFields arity (xs ++ ys) → HaveFields arity ys
rear arity [] ys all = all
rear arity (x ∷ xs) ys all = rear arity xs ys (λ r some. all r (omega (arith, some)))

first_fits : (arity : ℕ) (batch more : List Record) → 1 ≤ arity_of batch → HaveFields arity (batch ++ more) → arity_of batch ≡ arity
first_fits arity [] more some all = absurd (omega (arith, some))
first_fits arity (r ∷ rs) more some all = all r (count_here r (rs ++ more))

pub each_fits : (arity : ℕ) (batches : List (List Record)) (k : ℕ) (batch : List Record) → k < length batches → batch ≡ get_or batches k batch → 1 ≤ arity_of batch
    → HaveFields arity (joined batches) → arity_of batch ≡ arity
each_fits arity [] k batch lt is some all = absurd (omega (arith, lt))
each_fits arity (b ∷ batches) zero batch lt is some all = ap arity_of is ∙ first_fits arity b (joined batches) (subst (λ (x : List Record). 1 ≤ arity_of x) is some) all
each_fits arity (b ∷ batches) (suc k) batch lt is some all = each_fits arity batches k batch (omega (arith, lt)) is some (rear arity b (joined batches) all)

-- ---- seals of one input after another

pub seals_not : (s : Shown) → IsLive s → IsReady s → Seals s s 0
seals_not s live ready = record { ready = ready; grows = grows_not s live; fed = λ i e. refl; sealed = λ i lt. absurd (omega (arith, lt)); others = λ i le. refl }

pub seals_more : (s t u : Shown) (n : ℕ) → Seals s t n → SealsOne t u n → Seals s u (n + 1)
seals_more s t u n p q = record {
  ready = q.ready;
  grows = grows_on s t u p.grows q.grows;
  fed = λ i e. q.fed i e ∙ p.fed i e;
  sealed = λ i lt. elim (eqb_tells i n) [
    | inl same ↦ ap (open_at u) same.1 ∙ q.here ∙ ap (λ (k : ℕ). k + 1) (p.others n (omega arith) ∙ ap (open_at s) (sym same.1))
    | inr other ↦ q.others i other.1 ∙ p.sealed i (omega (arith, lt, other.1))
  ];
  others = λ i le. let apart : i ≢ n = λ e. absurd (omega (arith, le, e)) in q.others i apart ∙ p.others i (omega (arith, le));
}
