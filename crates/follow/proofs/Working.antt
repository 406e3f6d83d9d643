-- Each step of a round leaves less to do, and a round in which no worker had an event leaves a board at rest.
use Rattle.std.proofs.Common.{◌≡◌, ◌<◌, ◌≤◌, ◌⊎◌, ◌+◌, ◌∙◌, ℕ, zero, suc, List, [], ◌∷◌, length, refl, sym, ap, subst, arith, inl, inr, slice_get, Some, eq-eqb, false, cond, drop, remove, take}
use Rattle.std.specs.List.{AllByRecursion}
use Rattle.std.proofs.lemmas.List.{length-append, length-map, map-append}
use Rattle.std.proofs.Math.Seq.{take-append_seam}
use Rattle.semantics.specs.Multiset.{Record}
use Rattle.machine.specs.Choices.{IsClaimBy}
use Rattle.std.specs.Prelude.{◌≢◌, ◌++◌, ◌==◌, slice_index_or, Option, None, Result, Ok, Err, IfNone, IfOk, IfSome, OnOk, is_ok, true}
use Rattle.std.proofs.lemmas.Bool.Decides.{eqb_tells}
use Rattle.graph.specs.Shown.{GraphValue}
use Rattle.machine.specs.World.{Event, Held, World}
use Rattle.machine.specs.Step.{Step, after_step, merged}
use Rattle.events.specs.Jobs.{Pass}
use Rattle.board.specs.Answers.{Claims, Gathers, Hands, HasNoChoice, Merges, MergesAll}
use Rattle.board.specs.Kept.{Goes}
use Rattle.board.specs.Promises.{IsOpening}
use Rattle.board.specs.Reached.{IsReached}
use Rattle.board.specs.Shown.{Shown, Side, held_of, net, side_at, tables}
use Rattle.board.specs.Showing.{Shows}
use Rattle.board.specs.WorkerShown.{IsIdle}
use Rattle.board.specs.declared.claimed.Claimed.{Claimed}
use Rattle.board.specs.declared.claimed.Claimed.TheVariants.{Busy, Drained, Idle, Stopped}
use Rattle.alone.specs.Rests.{IsAtRest}
use Rattle.alone.proofs.Less.{gathers_lead, left, left_less, reached_on}
use Rattle.alone.proofs.Resting.{passed_over}
use Rattle.follow.specs.Slots.{event_in, workers_of}
use Rattle.follow.specs.declared.slot.Slot.{Slot}
use Rattle.alone.specs.Moves.{Advances, LeadsBy, Moves}
use Rattle.follow.specs.Working.{EndsAlone, IsFreeAt, TakesAlone, HasEnded, HasNoEvent, HasWorked, HaveNoEvent, IsBusy, IsWorkedOff, TookNothing}
use Rattle.alone.specs.Scenes.{AreFree, AreFreeBut, IsLive}
use Rattle.follow.specs.declared.outcome.Halt.{Halt}
use Rattle.follow.specs.declared.rounds.Round.{Round}
use Rattle.follow.specs.declared.rounds.Round.TheVariants as round
use Rattle.alone.proofs.Moved.{free_by, holds_nothing, still_free}
use Rattle.alone.proofs.Stepping.{advances_move, advances_on, then_advances}

-- what further steps lead to, with less or as much left
record LeadsTo (s t : Shown) (n : ℕ) : Type 0 where
  reached : IsReached t
  less : left t + n ≤ left s

leads_to : (n : ℕ) (s t : Shown) → IsReached s → LeadsBy n s t → LeadsTo s t n
leads_to zero s t r same = record { reached = subst IsReached (sym same) r; less = let e : left t ≡ left s = ap left same in omega (arith, e) }
leads_to (suc n) s t r (u, before, (step, work, goes)) =
    let a = leads_to n s u r before in
    let l = left_less u t a.reached step work goes in
    record { reached = reached_on u t a.reached step work goes; less = let b = a.less in omega (arith, b, l) }

pub advances_less : (s t : Shown) → IsReached s → Advances s t → left t < left s
advances_less s t r (n, steps) = let a = (leads_to (suc n) s t r steps).less in omega (arith, a)

-- ---- workers that hold events

all_front : (P : ℕ → Type 0) (xs : List ℕ) (y : ℕ) → AllByRecursion P (xs ++ y ∷ []) → AllByRecursion P xs × P y
all_front P [] y h = (tt, h.0)
all_front P (x ∷ xs) y h = let r = all_front P xs y h.1 in ((h.0, r.0), r.1)

pub all_push : (P : ℕ → Type 0) (xs : List ℕ) (y : ℕ) → AllByRecursion P xs → P y → AllByRecursion P (xs ++ y ∷ [])
all_push P [] y h last = (last, tt)
all_push P (x ∷ xs) y h last = (h.0, all_push P xs y h.1 last)

-- workers below another one
pub all_below : (n : ℕ) (ks : List ℕ) → AllByRecursion (λ (k : ℕ). k < n) ks → AllByRecursion (λ (k : ℕ). k ≢ n) ks
all_below n [] h = tt
all_below n (k ∷ ks) h = (λ e. let l = h.0 in absurd (omega (arith, l, e)), all_below n ks h.1)

pub all_wider : (n : ℕ) (ks : List ℕ) → AllByRecursion (λ (k : ℕ). k < n) ks → AllByRecursion (λ (k : ℕ). k < n + 1) ks
all_wider n [] h = tt
all_wider n (k ∷ ks) h = (let l = h.0 in omega (arith, l), all_wider n ks h.1)

-- boards with the same tables have as many workers
pub as_many : (s t : Shown) → tables s ≡ tables t → length s.sides ≡ length t.sides
as_many s t same = let a = length-map s.sides (λ (x : Side). x.table) in let b = length-map t.sides (λ (x : Side). x.table) in let e = ap length same in omega (arith, a, b, e)

pub nothing_pushed : {X : Type 0} (xs : List X) (x : X) → xs ++ x ∷ [] ≡ [] → ⊥
nothing_pushed xs x e = let n = length-append xs (x ∷ []) in let m = ap length e in absurd (omega (arith, n, m))

merges_free : (k : ℕ) (places : List ℕ) (s u : Shown) → IsReached s → MergesAll k places s u → (held : List ℕ) → AreFreeBut s held → AreFreeBut u held
merges_free k [] s u r same held f = subst (λ x. AreFreeBut x held) (sym same) f
merges_free k (at ∷ places) s u r (v, before, (first, second, goes)) held f =
    let there = (gathers_lead k s v r (places, before)).reached in
    still_free v u (Step.merge k at first second) (there.world, there.shows) goes held refl (λ j. refl) (merges_free k places s v r before held f)

merges_workers : (k : ℕ) (places : List ℕ) (s u : Shown) → MergesAll k places s u → length u.sides ≡ length s.sides
merges_workers k [] s u same = ap (λ (x : Shown). length x.sides) same
merges_workers k (at ∷ places) s u (v, before, (first, second, goes)) = goes.workers ∙ merges_workers k places s v before

-- another worker holds nothing
other_held : (u : Shown) (live : IsLive u) (held : List ℕ) (k k' : ℕ) (x : Held) → k' ≡ k → AreFreeBut u held → (j : ℕ) → j < length u.sides → AllByRecursion (λ (i : ℕ). i ≢ j) (held ++ k ∷ []) → cond (j == k') x (live.0.held j) ≡ Held.nothing
other_held u live held k k' x by f j l others = elim (eqb_tells j k') [
  | inl same ↦ absurd ((all_front (λ (i : ℕ). i ≢ j) held k others).1 (sym (same.1 ∙ by)))
  | inr other ↦ ap (λ b. cond b x (live.0.held j)) other.0 ∙ holds_nothing u live held f j l (all_front (λ (i : ℕ). i ≢ j) held k others).0
]

-- the claim of a worker takes away its freedom alone
claim_free : (u t : Shown) (k : ℕ) (taken : Step) (live : IsLive u) → IsClaimBy k taken → Goes u taken t → TakesAlone u t k
claim_free u t k (Step.feed i records) live by goes held f = absurd by
claim_free u t k (Step.seal i) live by goes held f = absurd by
claim_free u t k (Step.close i) live by goes held f = absurd by
claim_free u t k (Step.merge j at m n) live by goes held f = absurd by
claim_free u t k (Step.commit j event out) live by goes held f = absurd by
claim_free u t k (Step.abandon j event) live by goes held f = absurd by
claim_free u t k (Step.claim_message k' at m) live by goes held f = free_by u t (Step.claim_message k' at m) live goes (held ++ k ∷ []) refl f.runs (λ j l others. other_held u live held k k' (Held.holding false (Event.arrival m)) by f j l others)
claim_free u t k (Step.claim_request k' at n) live by goes held f = free_by u t (Step.claim_request k' at n) live goes (held ++ k ∷ []) refl f.runs (λ j l others. other_held u live held k k' (Held.holding false (Event.notification n)) by f j l others)

pub takes_alone : (s u t : Shown) (k : ℕ) (p : Pass) → IsReached s → Gathers s k u → Hands u k t p → TakesAlone s t k
takes_alone s u t k p r gathers h held f =
    let there = (gathers_lead k s u r gathers).reached in
    claim_free u t k h.taken (there.world, there.shows) h.by h.goes held (merges_free k gathers.0 s u r gathers.1 held f)

-- the commit of its event gives it back
pub ends_alone : (s t : Shown) (k : ℕ) (event : Event) (out : ℕ → List Record) → IsReached s → Goes s (Step.commit k event out) t → EndsAlone s t k
ends_alone s t k event out r goes held f = free_by s t (Step.commit k event out) (r.world, r.shows) goes held refl f.runs (λ j l others. elim (eqb_tells j k) [
  | inl same ↦ ap (λ b. cond b Held.nothing (r.world.held j)) same.0
  | inr other ↦ ap (λ b. cond b Held.nothing (r.world.held j)) other.0 ∙ holds_nothing s (r.world, r.shows) (held ++ k ∷ []) f j l (all_push (λ (i : ℕ). i ≢ j) held k others (λ e. other.1 (sym e)))
])

-- a claim of a free worker isn't refused
not_stopped : (s u t : Shown) (k : ℕ) → IsReached s → Gathers s k u → IsFreeAt s k → Claims u t k Stopped → ⊥
not_stopped s u t k r gathers f refused = absurd (let p : false ≡ true = sym (merges_free k gathers.0 s u r gathers.1 f.0 f.2).runs ∙ refused.0 in cc)

not_busy : (s u t : Shown) (k : ℕ) → IsReached s → Gathers s k u → k < length s.sides → IsFreeAt s k → Claims u t k Busy → ⊥
not_busy s u t k r gathers there f refused =
    let l : k < length u.sides = omega (arith, there, merges_workers k gathers.0 s u gathers.1) in
    refused.1 l ((merges_free k gathers.0 s u r gathers.1 f.0 f.2).home k l f.1)

pub not_refused : (s u t : Shown) (k : ℕ) (claimed : Claimed) → IsReached s → Gathers s k u → k < length s.sides → IsFreeAt s k → Claims u t k claimed → (claimed ≡ Stopped) ⊎ (claimed ≡ Busy) → ⊥
not_refused s u t k claimed r gathers there f h (inl is) = not_stopped s u t k r gathers f (subst (Claims u t k) is h)
not_refused s u t k claimed r gathers there f h (inr is) = not_busy s u t k r gathers there f (subst (Claims u t k) is h)

pub take_first : (xs ys : List Slot) (n : ℕ) → n ≡ length xs → take n (xs ++ ys) ≡ xs
take_first xs ys n is = ap (λ (k : ℕ). take k (xs ++ ys)) is ∙ take-append_seam xs ys

-- the events of slots, as they are computed
pub same_workers : (xs ys : List Slot) → length ys ≡ length xs → ((i : ℕ) (d : Slot) → i < length xs → event_in (slice_index_or ys i d) ≡ event_in (slice_index_or xs i d)) → workers_of ys ≡ workers_of xs
same_workers [] [] size same = refl
same_workers [] (y ∷ ys) size same = absurd (omega (arith, size))
same_workers (x ∷ xs) [] size same = absurd (omega (arith, size))
same_workers (x ∷ xs) (y ∷ ys) size same =
    let first : (event_in y).worker ≡ (event_in x).worker = ap (λ (p : Pass). p.worker) (same 0 x (omega arith)) in
    let more : workers_of ys ≡ workers_of xs = same_workers xs ys (omega (arith, size)) (λ i d l. same (suc i) d (omega (arith, l))) in
    ap (λ (k : ℕ). k ∷ workers_of ys) first ∙ ap (λ (ks : List ℕ). (event_in x).worker ∷ ks) more

-- the workers of one more event, the last
pub workers_push : (xs : List Slot) (x : Slot) → workers_of (xs ++ x ∷ []) ≡ workers_of xs ++ (event_in x).worker ∷ []
workers_push xs x = map-append (λ (y : Slot). (event_in y).worker) xs (x ∷ [])

-- ---- claims

-- a merge leaves a message, which its worker may claim
merges_leave : (s u : Shown) (k at : ℕ) → IsReached s → Merges s k at u → HasNoChoice u k → ⊥
merges_leave s u k at r (first, second, goes) none =
    let went = goes.step r.world r.shows in
    let may = went.0.0 in
    let workers = goes.workers in
    let rest = remove (drop 1 (r.world.mail k)) at in
    let there : k < length u.sides = let l = may.0 in omega (arith, l, workers) in
    none (after_step (net s) r.world (Step.merge k at first second)) (Step.claim_message k 0 (merged first second)) went.1
    ((there, may.1, may.2), ap (λ b. slice_get (cond b (merged first second ∷ rest) (r.world.mail k)) 0) (eq-eqb k k refl)) refl

-- so a worker without an event had nothing to merge
gathers_nothing : (s u : Shown) (k : ℕ) → IsReached s → Gathers s k u → HasNoChoice u k → u ≡ s
gathers_nothing s u k r ([], same) none = same
gathers_nothing s u k r (at ∷ places, (v, before, last)) none = absurd (merges_leave v u k at (gathers_lead k s v r (places, before)).reached last none)

none_in : {X : Type 0} (xs : List X) (at : ℕ) (x : X) → xs ≡ [] → slice_get xs at ≡ Some x → ⊥
none_in [] at x e s = cc
none_in (y ∷ xs) at x e s = cc

-- idle workers leave no choice
no_choice : (s : Shown) (k : ℕ) → ((j : ℕ) → j < length s.sides → IsIdle (side_at s j)) → HasNoChoice s k
no_choice s k is w (Step.feed i records) shows ok by = absurd by
no_choice s k is w (Step.seal i) shows ok by = absurd by
no_choice s k is w (Step.close i) shows ok by = absurd by
no_choice s k is w (Step.merge j at m n) shows ok by = absurd by
no_choice s k is w (Step.commit j event out) shows ok by = absurd by
no_choice s k is w (Step.abandon j event) shows ok by = absurd by
no_choice s k is w (Step.claim_message j at m) shows ok by = none_in (w.mail j) at m (shows.mail j ok.0.0 ∙ (is j ok.0.0).mail) ok.1
no_choice s k is w (Step.claim_request j at n) shows ok by = none_in (w.requests j) at n (shows.requests j ok.0.0 ∙ (is j ok.0.0).requests) ok.1

-- a claim that found nothing, after nothing was merged
finds_nothing : (s u t : Shown) (k : ℕ) → IsReached s → Gathers s k u → t ≡ u → HasNoEvent u k → (t ≡ s) × HasNoEvent s k
finds_nothing s u t k r gathers same without = let e = gathers_nothing s u k r gathers without.none in (same ∙ e, subst (λ x. HasNoEvent x k) e without)

pub idle_nothing : (s u t : Shown) (k : ℕ) (claimed : Claimed) → IsReached s → Gathers s k u → Claims u t k claimed → (claimed ≡ Idle) ⊎ (claimed ≡ Drained) → (t ≡ s) × HasNoEvent s k
idle_nothing s u t k claimed r gathers h (inl is) =
    let idle : Claims u t k Idle = subst (Claims u t k) is h in
    finds_nothing s u t k r gathers idle.5 (record { runs = idle.0; home = idle.2; none = idle.3 })
idle_nothing s u t k claimed r gathers h (inr is) =
    let drained : Claims u t k Drained = subst (Claims u t k) is h in
    finds_nothing s u t k r gathers drained.3 (record { runs = drained.0; home = (drained.2.idle k drained.1).place; none = no_choice u k drained.2.idle })

-- ---- rounds

-- one more worker without an event
pub none_more : (s : Shown) (n : ℕ) → HaveNoEvent s n → HasNoEvent s n → HaveNoEvent s (n + 1)
none_more s n before last k l = elim (eqb_tells k n) [
  | inl same ↦ subst (HasNoEvent s) (sym same.1) last
  | inr other ↦ before k (let p = other.1 in omega (arith, l, p))
]

pub nothing_more : (s t u : Shown) (n : ℕ) → t ≡ s → HaveNoEvent s n → u ≡ t → HasNoEvent t n → (u ≡ s) × HaveNoEvent s (n + 1)
nothing_more s t u n same before still last = (still ∙ same, none_more s n before (subst (λ x. HasNoEvent x n) same last))

pub round_moves : (r : Round) (n : ℕ) (s t : Shown) → HasWorked r n s t → Moves s t
round_moves round.Idle n s t h = (0, h.0)
round_moves (round.Sent rows) n s t h = advances_move s t h

pub turn_nothing : (r : Round) (n : ℕ) (s t u : Shown) → HasWorked r n s t → (u ≡ t) × HasNoEvent t n → HasWorked r (n + 1) s u
turn_nothing round.Idle n s t u h last = nothing_more s t u n h.0 h.1 last.0 last.1
turn_nothing (round.Sent rows) n s t u h last = subst (Advances s) (sym last.0) h

pub round_all : (r : Round) (n m : ℕ) (s t : Shown) → m ≤ n → HasWorked r n s t → HasWorked r m s t
round_all round.Idle n m s t le h = (h.0, λ k l. h.1 k (omega (arith, l, le)))
round_all (round.Sent rows) n m s t le h = h

busy_worked : (r : Round) (n : ℕ) (s t : Shown) → IsBusy r → Advances s t → HasWorked r n s t
busy_worked round.Idle n s t busy a = absurd busy
busy_worked (round.Sent rows) n s t busy a = a

pub turn_some : (r q : Round) (n m : ℕ) (s t u v : Shown) → HasWorked r n s t → Advances t u → Advances u v → IsBusy q → HasWorked q m s v
turn_some r q n m s t u v h claims ends busy = busy_worked q m s v busy (advances_on s u v (then_advances s t u (round_moves r n s t h) claims) (advances_move u v ends))

pub round_ends : (r : Round) {X : Type 0} (rest all : List X) (s t : Shown) → HasEnded r rest all s t → Moves s t
round_ends round.Idle rest all s t h = (0, h.1)
round_ends (round.Sent rows) rest all s t h = advances_move s t h

-- one more event is ended
pub ends_more : {T E : Type 0} {X : Type 0} (first : Result Round E) (second : Result T E) (whole : Result Round E) (rest fewer all : List X) (s t u : Shown) → IfOk whole (λ r. (is_ok first ≡ true) × (is_ok second ≡ true)) → IfOk whole IsBusy
    → IfOk first (λ r. HasEnded r rest all s t) → OnOk second (Advances t u) → IfOk whole (λ r. HasEnded r fewer all s u)
ends_more (Ok r) (Ok x) (Ok round.Idle) rest fewer all s t u both busy h a = absurd busy
ends_more (Ok r) (Ok x) (Ok (round.Sent rows)) rest fewer all s t u both busy h a = then_advances s t u (round_ends r rest all s t h) a
ends_more (Err e) second (Ok q) rest fewer all s t u both busy h a = absurd (let p : false ≡ true = both.0 in cc)
ends_more (Ok r) (Err e) (Ok q) rest fewer all s t u both busy h a = absurd (let p : false ≡ true = both.1 in cc)
ends_more first second (Err e) rest fewer all s t u both busy h a = tt

empty : {X : Type 0} (xs : List X) → length xs ≡ 0 → xs ≡ []
empty [] e = refl
empty (x ∷ xs) e = absurd (omega (arith, e))

-- what a call that answers an option says of each case
pub some_of : {X : Type 0} (P : X → Type 0) (o : Option X) (x : X) → o ≡ Some x → IfSome o P → P x
some_of P (Some y) x is h = subst P (let e : y ≡ x = cc in e) h
some_of P None x is h = absurd cc

pub none_of : {X : Type 0} (A : Type 0) (o : Option X) → o ≡ None → IfNone o A → A
none_of A None is h = h
none_of A (Some y) is h = absurd cc

-- events were claimed, and all were ended
pub parallel_worked : (r : Round) {X : Type 0} (claimed computed : List X) (n : ℕ) (s t u : Shown) → Moves s t → TookNothing claimed n s t → length computed ≡ length claimed → HasEnded r [] computed t u → HasWorked r n s u
parallel_worked round.Idle claimed computed n s t u moves none same ended =
    let a = none (empty claimed (let e : length computed ≡ 0 = ap length ended.0 in omega (arith, e, same))) in
    (ended.1 ∙ a.0, a.1)
parallel_worked (round.Sent rows) claimed computed n s t u moves none same ended = then_advances s t u moves ended

-- the last of the events is ended
pub free_more : {T : Type 0} (first : Result Round Halt) (second : Result T Halt) (whole : Result Round Halt) (all xs ys : List Slot) (y : Slot) (s t u : Shown) → xs ≡ ys ++ y ∷ [] → IfOk whole (λ r. (is_ok first ≡ true) × (is_ok second ≡ true))
    → OnOk first (AreFreeBut s (workers_of all) → AreFreeBut t (workers_of xs)) → OnOk second (EndsAlone t u (event_in y).worker) → OnOk whole (AreFreeBut s (workers_of all) → AreFreeBut u (workers_of ys))
free_more (Ok r) (Ok x) (Ok q) all xs ys y s t u last both before alone = λ f. alone (workers_of ys) (subst (AreFreeBut t) (ap workers_of last ∙ workers_push ys y) (before f))
free_more (Ok r) (Ok x) (Err e) all xs ys y s t u last both before alone = tt
free_more (Ok r) (Err x) (Ok q) all xs ys y s t u last both before alone = λ f. absurd (let e : false ≡ true = both.1 in cc)
free_more (Ok r) (Err x) (Err e) all xs ys y s t u last both before alone = tt
free_more (Err r) second (Ok q) all xs ys y s t u last both before alone = λ f. absurd (let e : false ≡ true = both.0 in cc)
free_more (Err r) second (Err e) all xs ys y s t u last both before alone = tt

-- ---- at rest

nothing_held : (s : Shown) → HaveNoEvent s (length s.sides) → (w : World) → Shows s w → (j : ℕ) (event : Event) → j < length s.sides → w.held j ≡ Held.holding false event → ⊥
nothing_held s without w shows j event m e = let z : Held.nothing ≡ Held.holding false event = sym (ap held_of (without j m).home) ∙ sym (shows.held j m) ∙ e in cc

at_rest : (s : Shown) → HaveNoEvent s (length s.sides) → IsAtRest s
at_rest s without w shows (Step.feed i records) work ok = absurd work
at_rest s without w shows (Step.seal i) work ok = absurd work
at_rest s without w shows (Step.close i) work ok = absurd work
at_rest s without w shows (Step.claim_message j at m) work ok = (without j ok.0.0).none w (Step.claim_message j at m) shows ok refl
at_rest s without w shows (Step.claim_request j at n) work ok = (without j ok.0.0).none w (Step.claim_request j at n) shows ok refl
at_rest s without w shows (Step.merge j at m n) work ok = (without j ok.0.0).none w (Step.claim_message j 0 m) shows (ok.0, ok.1) refl
at_rest s without w shows (Step.commit j event out) work ok = nothing_held s without w shows j event ok.0 ok.1
at_rest s without w shows (Step.abandon j event) work ok = nothing_held s without w shows j event ok.0 ok.1

pub idle_off : (s t : Shown) → IsReached s → AreFree t → HasWorked round.Idle (length s.sides) s t → IsWorkedOff t
idle_off s t r free h =
    let rest = at_rest s h.1 in
    let done : IsWorkedOff s = record { free = subst AreFree h.0 free; rests = rest; passed = passed_over s r (h.1 0 r.some).runs rest } in
    subst IsWorkedOff (sym h.0) done

-- a new board has nothing to do
pub opening_off : (g : GraphValue) (n : ℕ) (s : Shown) → IsReached s → IsOpening g n s → IsWorkedOff s
opening_off g n s r is = idle_off s s r (record { runs = is.runs; home = λ k l none. (is.idle k l).place }) (refl, λ k l. record { runs = is.runs; home = (is.idle k l).place; none = no_choice s k is.idle })
