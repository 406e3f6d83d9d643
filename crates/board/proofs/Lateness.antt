-- The numbers of waiting batches, by the views.
use Rattle.std.proofs.Common.{◌≡◌, ◌≢◌, ◌⊎◌, inl, inr, ◌<◌, ◌≤◌, ◌+◌, ℕ, zero, suc, ◌==◌, Bool, true, false, cond, nat_lt, List, [], ◌∷◌, ◌++◌, length, refl, sym, ap, ◌∙◌, subst, arith, slice_index_or}
use Rattle.std.proofs.lemmas.Bool.Decides.{eqb_tells}
use Rattle.std.proofs.lemmas.Bool.{cases_lt}
use Rattle.semantics.specs.Could.{Pointstamp}
use Rattle.semantics.specs.Multiset.{total}
use Rattle.machine.specs.Views.{Changes}
use Rattle.machine.specs.Active.{sum_below}
use Rattle.machine.proofs.Counting.{below_same}
use Rattle.views.specs.Waiting.{IsApplied, IsSeenBy, Posted, Waiting, after_post, all_waiting, batch}
use Rattle.board.specs.Lateness.{BoardShown, IsUpToDate, KeepsCalled, Posts, all_waits, counts_of, first_of, one_more, waits_for}
use Rattle.board.specs.Shown.{Shown}

-- a board by its views
abbrev pub board_of : (s : Shown) (viewers : ℕ) → Waiting → (behind : ℕ → List Posted) → (passed : ℕ) → BoardShown
board_of s n waiting behind passed = record { shown = s; waits = counts_of n waiting; behind = first_of (suc n) behind; passed = passed }

-- the same where what is behind doesn't matter
abbrev pub counted : (s : Shown) (viewers : ℕ) → Waiting → (passed : ℕ) → BoardShown
counted s n waiting passed = board_of s n waiting (λ k. []) passed

pub at_first : {A : Type 0} (n : ℕ) (f : ℕ → A) (d : A) (k : ℕ) → k < n → slice_index_or (first_of n f) k d ≡ f k
at_first zero f d k l = absurd (omega (arith, l))
at_first (suc n) f d zero l = refl
at_first (suc n) f d (suc k) l = at_first n (λ i. f (suc i)) d k (omega (arith, l))

pub past_first : {A : Type 0} (n : ℕ) (f : ℕ → A) (d : A) (k : ℕ) → n ≤ k → slice_index_or (first_of n f) k d ≡ d
past_first zero f d k l = refl
past_first (suc n) f d zero l = absurd (omega (arith, l))
past_first (suc n) f d (suc k) l = past_first n (λ i. f (suc i)) d k (omega (arith, l))

nothing_long : {A : Type 0} (xs : List A) → length xs ≡ 0 → xs ≡ []
nothing_long [] e = refl
nothing_long (x ∷ xs) e = absurd (omega (arith, e))

one_longer : {A : Type 0} (xs : List A) (x : A) → length (xs ++ (x ∷ [])) ≡ length xs + 1
one_longer [] x = refl
one_longer (y ∷ xs) x = let e = one_longer xs x in omega (arith, e)

module _ (s : Shown) (n : ℕ) (waiting : Waiting) (passed : ℕ) where
  pub waits_at : (w k : ℕ) → w < n → k < suc n → waits_for (counted s n waiting passed) w k ≡ length (waiting w k)
  waits_at w k lw lk =
      ap (λ (xs : List ℕ). slice_index_or xs k 0) (at_first n (λ i. first_of (suc n) (λ j. length (waiting i j))) [] w lw) ∙ at_first (suc n) (λ j. length (waiting w j)) 0 k lk

  pub no_worker : (w k : ℕ) → n ≤ w → waits_for (counted s n waiting passed) w k ≡ 0
  no_worker w k l = ap (λ (xs : List ℕ). slice_index_or xs k 0) (past_first n (λ i. first_of (suc n) (λ j. length (waiting i j))) [] w l)

  pub no_sender : (w k : ℕ) → suc n ≤ k → waits_for (counted s n waiting passed) w k ≡ 0
  no_sender w k l = go (cases_lt w n)
    where
      go : (w < n) ⊎ (n ≤ w) → waits_for (counted s n waiting passed) w k ≡ 0
      go (inl lw) = ap (λ (xs : List ℕ). slice_index_or xs k 0) (at_first n (λ i. first_of (suc n) (λ j. length (waiting i j))) [] w lw) ∙ past_first (suc n) (λ j. length (waiting w j)) 0 k l
      go (inr lw) = no_worker w k lw

  pub up_to_date : (w : ℕ) → ((k : ℕ) → w < n → k < suc n → waiting w k ≡ []) → IsUpToDate (counted s n waiting passed) w
  up_to_date w none k = go (cases_lt w n) (cases_lt k (suc n))
    where
      go : (w < n) ⊎ (n ≤ w) → (k < suc n) ⊎ (suc n ≤ k) → waits_for (counted s n waiting passed) w k ≡ 0
      go (inl lw) (inl lk) = waits_at w k lw lk ∙ ap length (none k lw lk)
      go (inl lw) (inr lk) = no_sender w k lk
      go (inr lw) (inl lk) = no_worker w k lw
      go (inr lw) (inr lk) = no_worker w k lw

  pub none_waits : (w : ℕ) → w < n → IsUpToDate (counted s n waiting passed) w → (k : ℕ) → k < suc n → waiting w k ≡ []
  none_waits w lw up k lk = nothing_long (waiting w k) (sym (waits_at w k lw lk) ∙ up k)

  -- compared with other views
  module _ (t : Shown) (waiting' : Waiting) (passed' : ℕ) where
    pub waits_same : (w k : ℕ) → (w < n → k < suc n → waiting' w k ≡ waiting w k) → waits_for (counted t n waiting' passed') w k ≡ waits_for (counted s n waiting passed) w k
    waits_same w k same = go (cases_lt w n) (cases_lt k (suc n))
      where
        here : w < n → k < suc n → waits_for (counted t n waiting' passed') w k ≡ waits_for (counted s n waiting passed) w k
        here lw lk =
            ap (λ (xs : List ℕ). slice_index_or xs k 0) (at_first n (λ i. first_of (suc n) (λ j. length (waiting' i j))) [] w lw) ∙ at_first (suc n) (λ j. length (waiting' w j)) 0 k lk
            ∙ ap length (same lw lk) ∙ sym (waits_at w k lw lk)

        past_worker : n ≤ w → waits_for (counted t n waiting' passed') w k ≡ waits_for (counted s n waiting passed) w k
        past_worker l = ap (λ (xs : List ℕ). slice_index_or xs k 0) (past_first n (λ i. first_of (suc n) (λ j. length (waiting' i j))) [] w l) ∙ sym (no_worker w k l)

        past_sender : w < n → suc n ≤ k → waits_for (counted t n waiting' passed') w k ≡ waits_for (counted s n waiting passed) w k
        past_sender lw l =
            ap (λ (xs : List ℕ). slice_index_or xs k 0) (at_first n (λ i. first_of (suc n) (λ j. length (waiting' i j))) [] w lw) ∙ past_first (suc n) (λ j. length (waiting' w j)) 0 k l
            ∙ sym (no_sender w k l)

        go : (w < n) ⊎ (n ≤ w) → (k < suc n) ⊎ (suc n ≤ k) → waits_for (counted t n waiting' passed') w k ≡ waits_for (counted s n waiting passed) w k
        go (inl lw) (inl lk) = here lw lk
        go (inl lw) (inr lk) = past_sender lw lk
        go (inr lw) (inl lk) = past_worker lw
        go (inr lw) (inr lk) = past_worker lw

    posts_more : (late : Bool) (by : ℕ) (added removed : List Pointstamp) → length s.sides ≡ n → ((w k : ℕ) → w < n → waiting' w k ≡ after_post late waiting (batch by added removed) w k)
        → (w k : ℕ) → w < length s.sides → k < suc (length s.sides) → waits_for (counted t n waiting' passed') w k ≡ waits_for (counted s n waiting passed) w k + one_more late by k
    posts_more late by added removed many after w k lw lk =
        let lw' : w < n = omega (arith, lw, many) in
        let lk' : k < suc n = omega (arith, lk, many) in
        ap (λ (xs : List ℕ). slice_index_or xs k 0) (at_first n (λ i. first_of (suc n) (λ j. length (waiting' i j))) [] w lw') ∙ at_first (suc n) (λ j. length (waiting' w j)) 0 k lk'
        ∙ ap length (after w k lw') ∙ longer late ∙ ap (λ m. m + one_more late by k) (sym (waits_at w k lw' lk'))
      where
        if_same : (b : Bool) → length (cond b (waiting w k ++ (batch by added removed ∷ [])) (waiting w k)) ≡ length (waiting w k) + cond b 1 0
        if_same true = one_longer (waiting w k) (batch by added removed)
        if_same false = omega arith

        longer : (b : Bool) → length (after_post b waiting (batch by added removed) w k) ≡ length (waiting w k) + one_more b by k
        longer true = if_same (k == by)
        longer false = omega arith

    pub posts : (late : Bool) (by : ℕ) (added removed : List Pointstamp) (behind behind' : ℕ → List Posted) → length s.sides ≡ n → ((w k : ℕ) → w < n → waiting' w k ≡ after_post late waiting (batch by added removed) w k)
        → KeepsCalled (board_of s n waiting behind passed) (board_of t n waiting' behind' passed') → Posts late by (board_of s n waiting behind passed) (board_of t n waiting' behind' passed')
    posts late by added removed behind behind' many after called = record { waits = posts_more late by added removed many after; called = called }

-- the same batches give the same number
pub counts_same : (n n' : ℕ) (waiting waiting' : Waiting) → n' ≡ n → ((w k : ℕ) → waiting' w k ≡ waiting w k) → counts_of n' waiting' ≡ counts_of n waiting
counts_same n n' waiting waiting' e same = λ i. counts_of (e i) (λ w k. same w k i)

pub firsts_same : {A : Type 0} (n : ℕ) (f f' : ℕ → A) → ((k : ℕ) → k < n → f' k ≡ f k) → first_of n f' ≡ first_of n f
firsts_same zero f f' same = refl
firsts_same (suc n) f f' same = λ i. same 0 (omega arith) i ∷ firsts_same n (λ k. f (suc k)) (λ k. f' (suc k)) (λ k l. same (suc k) (omega (arith, l))) i

-- the same if they agree below the number of workers
pub counts_alike : (n : ℕ) (waiting waiting' : Waiting) → ((w k : ℕ) → w < n → waiting' w k ≡ waiting w k) → counts_of n waiting' ≡ counts_of n waiting
counts_alike n waiting waiting' same =
    firsts_same n (λ w. first_of (suc n) (λ k. length (waiting w k))) (λ w. first_of (suc n) (λ k. length (waiting' w k)))
    (λ w lw. firsts_same (suc n) (λ k. length (waiting w k)) (λ k. length (waiting' w k)) (λ k lk. ap length (same w k lw)))

-- a sum taken from the front
below_front : (n : ℕ) (f : ℕ → ℕ) → sum_below (suc n) f ≡ f 0 + sum_below n (λ k. f (suc k))
below_front zero f = omega arith
below_front (suc n) f = let e = below_front n f in omega (arith, e)

total_first : {A : Type 0} (h : A → ℕ) (n : ℕ) (f : ℕ → A) → total h (first_of n f) ≡ sum_below n (λ k. h (f k))
total_first h zero f = refl
total_first h (suc n) f = ap (λ m. h (f 0) + m) (total_first h n (λ k. f (suc k))) ∙ sym (below_front n (λ k. h (f k)))

pub all_wait : (s : Shown) (n : ℕ) (waiting : Waiting) (passed : ℕ) → all_waiting waiting n ≡ all_waits (counted s n waiting passed)
all_wait s n waiting passed =
    sym (total_first (λ (ns : List ℕ). total (λ k. k) ns) n (λ w. first_of (suc n) (λ k. length (waiting w k)))
    ∙ below_same n _ _ (λ w l. total_first (λ k. k) (suc n) (λ k. length (waiting w k))))

-- ---- what waits after a post

more_than_none : (m : ℕ) → 0 < m → nat_lt 0 m ≡ true
more_than_none m l = grind arith

-- nothing, where views aren't late
pub prompt_after : (late : Bool) → late ≡ false → (some : Bool) (waiting : Waiting) (b : Changes) (w k : ℕ) → cond some (after_post late waiting b w k) (waiting w k) ≡ waiting w k
prompt_after true e some waiting b w k = absurd cc
prompt_after false e true waiting b w k = refl
prompt_after false e false waiting b w k = refl

-- the batch, if there is one
pub posted_some : (late : Bool) (middle old new : Waiting) (b : Changes) (m n : ℕ) → 0 < m → ((w k : ℕ) → middle w k ≡ old w k)
    → ((w k : ℕ) → w < n → new w k ≡ cond (nat_lt 0 m) (after_post late middle b w k) (middle w k)) → (w k : ℕ) → w < n → new w k ≡ after_post late old b w k
posted_some late middle old new b m n some same after w k l =
    let e : middle ≡ old = λ i x y. same x y i in
    after w k l ∙ ap (λ t. cond t (after_post late middle b w k) (middle w k)) (more_than_none m some) ∙ ap (λ (f : Waiting). after_post late f b w k) e

-- views that aren't late stay so
pub posted_prompt : (late : Bool) (middle old new : Waiting) (b : Changes) (m n : ℕ) → ((w k : ℕ) → middle w k ≡ old w k)
    → ((w k : ℕ) → w < n → new w k ≡ cond (nat_lt 0 m) (after_post late middle b w k) (middle w k))
    → (late ≡ false → (w k : ℕ) → w < n → k < suc n → old w k ≡ []) → late ≡ false → (w k : ℕ) → w < n → k < suc n → new w k ≡ []
posted_prompt late middle old new b m n same after prompt e w k l lk = after w k l ∙ prompt_after late e (nat_lt 0 m) middle b w k ∙ same w k ∙ prompt e w k l lk

-- applying everything for a worker makes nothing else wait
pub caught_prompt : (n worker : ℕ) (old new : Waiting) → ((k : ℕ) → k < n + 1 → new worker k ≡ []) → ((w k : ℕ) → (w ≡ worker → ⊥) → new w k ≡ old w k)
    → ((w k : ℕ) → w < n → k < suc n → old w k ≡ []) → (w k : ℕ) → w < n → k < suc n → new w k ≡ []
caught_prompt n worker old new none others prompt w k lw lk = go (eqb_tells w worker)
  where
    go : ((w == worker) ≡ true) × (w ≡ worker) ⊎ ((w == worker) ≡ false) × (w ≢ worker) → new w k ≡ []
    go (inl (t, e)) = subst (λ (x : ℕ). new x k ≡ []) (sym e) (none k (omega (arith, lk)))
    go (inr (t, ne)) = others w k ne ∙ prompt w k lw lk

-- no more waits than before
pub caught_fewer : (s : Shown) (n worker : ℕ) (old new : Waiting) (passed passed' : ℕ) → worker < n → ((k : ℕ) → k < n + 1 → new worker k ≡ []) → (k : ℕ)
    → waits_for (counted s n new passed') worker k ≤ waits_for (counted s n old passed) worker k
caught_fewer s n worker old new passed passed' l none k = let e = up_to_date s n new passed' worker (λ j lw lk. none j (omega (arith, lk))) k in omega (arith, e)

-- what one application leaves, in terms of what waits
pub applied_one : (s : Shown) (n : ℕ) (old new : Waiting) (passed passed' : ℕ) (w k : ℕ) → w < n → k < suc n → IsApplied w k old new true
    → waits_for (counted s n old passed) w k ≡ suc (waits_for (counted s n new passed') w k)
applied_one s n old new passed passed' w k lw lk (IsApplied.took b e) =
    waits_at s n old passed w k lw lk ∙ ap length e ∙ ap suc (sym (waits_at s n new passed' w k lw lk))

pub applied_none : (s : Shown) (n : ℕ) (old new : Waiting) (passed : ℕ) (w k : ℕ) → w < n → k < suc n → IsApplied w k old new false → waits_for (counted s n old passed) w k ≡ 0
applied_none s n old new passed w k lw lk (IsApplied.none e f) = waits_at s n old passed w k lw lk ∙ ap length e

-- where none was applied, everything waits as before
pub applied_nothing : (worker sender : ℕ) (old new : Waiting) → IsApplied worker sender old new false → ((w k : ℕ) → (w ≡ worker → k ≡ sender → ⊥) → new w k ≡ old w k) → (w k : ℕ) → new w k ≡ old w k
applied_nothing worker sender old new (IsApplied.none e f) others w k = go (eqb_tells w worker) (eqb_tells k sender)
  where
    go : ((w == worker) ≡ true) × (w ≡ worker) ⊎ ((w == worker) ≡ false) × (w ≢ worker) → ((k == sender) ≡ true) × (k ≡ sender) ⊎ ((k == sender) ≡ false) × (k ≢ sender) → new w k ≡ old w k
    go (inl (t, a)) (inl (u, b)) = (λ i. new (a i) (b i)) ∙ f ∙ sym e ∙ (λ i. old (sym a i) (sym b i))
    go (inl (t, a)) (inr (u, b)) = others w k (λ x y. b y)
    go (inr (t, a)) r = others w k (λ x y. a x)

-- a batch is applied only where one waits
pub applied_some : (worker sender : ℕ) (old new : Waiting) → IsApplied worker sender old new true → old worker sender ≡ [] → ⊥
applied_some worker sender old new (IsApplied.took b e) none = nothing (sym e ∙ none)
  where
    nothing : b ∷ new worker sender ≡ [] → ⊥
    nothing x = cc

-- what doesn't wait still doesn't, whether a batch was applied or not
pub none_still : (worker sender : ℕ) (old new : Waiting) (b : Bool) → IsApplied worker sender old new b → ((w k : ℕ) → (w ≡ worker → k ≡ sender → ⊥) → new w k ≡ old w k) → (w k : ℕ) → old w k ≡ [] → new w k ≡ []
none_still worker sender old new b is others w k none = go (eqb_tells w worker) (eqb_tells k sender)
  where
    here : (b : Bool) → IsApplied worker sender old new b → old worker sender ≡ [] → new worker sender ≡ []
    here true took e = absurd (applied_some worker sender old new took e)
    here false (IsApplied.none e f) g = f

    go : ((w == worker) ≡ true) × (w ≡ worker) ⊎ ((w == worker) ≡ false) × (w ≢ worker) → ((k == sender) ≡ true) × (k ≡ sender) ⊎ ((k == sender) ≡ false) × (k ≢ sender) → new w k ≡ []
    go (inl (t, a)) (inl (u, c)) = (λ i. new (a i) (c i)) ∙ here b is ((λ i. old (sym a i) (sym c i)) ∙ none)
    go (inl (t, a)) (inr (u, c)) = others w k (λ x y. c y) ∙ none
    go (inr (t, a)) r = others w k (λ x y. a x) ∙ none

-- a worker for which the same batches wait sees no more than before
pub sees_same : (content content' : Pointstamp → ℕ) (old new : Waiting) (n w : ℕ) → ((q : Pointstamp) → content' q ≡ content q) → ((k : ℕ) → new w k ≡ old w k) → (q : Pointstamp) → IsSeenBy content' new n w q → IsSeenBy content old n w q
sees_same content content' old new n w c same q seen =
    let row : new w ≡ old w = λ i k. same k i in
    let A : (ℕ → List Changes) → Type 0 = λ r. sum_below (suc n) (λ s. total (λ b. b.adds q) (r s)) < content q + sum_below (suc n) (λ s. total (λ b. b.removes q) (r s)) in
    let e = c q in
    let now : A (new w) = omega (arith, seen, e) in
    subst A row now
