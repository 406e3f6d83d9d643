-- What waits on the board and in the state that it shows.
use Rattle.std.proofs.Common.{◌≡◌, ◌<◌, ◌≤◌, ◌+◌, ◌∙◌, ◌⊎◌, inl, inr, ℕ, suc, Bool, true, false, List, length, refl, sym, ap, arith}
use Rattle.std.proofs.lemmas.Bool.{cases_lt}
use Rattle.std.proofs.lemmas.Bool.Decides.{eqb_tells}
use Rattle.machine.specs.World.{World, opening}
use Rattle.machine.specs.Step.{put}
use Rattle.machine.proofs.Progress.{put_here}
use Rattle.board.specs.Shown.{Shown, Side, side_in}
use Rattle.board.specs.Showing.{Shows}
use Rattle.board.specs.Lateness.{AreUpToDate, BoardShown, IsAsLate, IsUpToDate, KeepsCalled, Posts, PostsSome, one_more, waits_for}
use Rattle.replay.specs.Replays.{FeedPosts}
use Rattle.replay.specs.Steps.{ShowsState, ShowsWaits, setting_of}
use Rattle.replay.specs.Waits.{SeesAll, State, Waits, added, kind_of, posted, waiting_now}
use Rattle.replay.proofs.Holding.{put_other}

-- nothing waits where there is no such worker or sender
abbrev pub IsWithin : BoardShown → Type 0
IsWithin b = (worker sender : ℕ) → (length b.shown.sides ≤ worker) ⊎ (length b.shown.sides < sender) → waits_for b worker sender ≡ 0

-- the same, and where views aren't late nothing waits
pub record KnowsWaits (late : Bool) (b : BoardShown) : Type 0 where
  pub prompt : late ≡ false → AreUpToDate b
  pub within : IsWithin b

-- a worker that sees everything has an up-to-date view
pub up_to_date : (late : Bool) (b : BoardShown) (x : State) (k : ℕ) → KnowsWaits late b → ShowsState b x → SeesAll (kind_of late) (length b.shown.sides) x.waits k → IsUpToDate b k
up_to_date false b x k knows shows sees = knows.prompt refl k
up_to_date true b x k knows shows sees = λ j. elim (cases_lt k (length b.shown.sides)) [
  | inl there ↦ elim (cases_lt (length b.shown.sides) j) [
    | inl past ↦ knows.within k j (inr past)
    | inr within ↦ shows.waits k j there within ∙ sees j within
  ]
  | inr gone ↦ knows.within k j (inl gone)
]

-- what a post adds is the same on the board and in the state
added_same : (late : Bool) (by j : ℕ) → one_more late by j ≡ added (kind_of late) by j
added_same false by j = refl
added_same true by j = refl

pub shows_posted : (late : Bool) (by : ℕ) (b c : BoardShown) (waits : Waits) → length c.shown.sides ≡ length b.shown.sides → ShowsWaits b waits → Posts late by b c → ShowsWaits c (posted (kind_of late) by waits)
shows_posted late by b c waits same shows posts = λ k j there within.
    let first : k < length b.shown.sides = omega (arith, there, same) in
    let second : j ≤ length b.shown.sides = omega (arith, within, same) in
    posts.waits k j first (omega (arith, second)) ∙ ap (λ (n : ℕ). n + one_more late by j) (shows k j first second) ∙ ap (λ (n : ℕ). waits k j + n) (added_same late by j)

pub shows_same : (b c : BoardShown) (waits : Waits) → length c.shown.sides ≡ length b.shown.sides → c.waits ≡ b.waits → ShowsWaits b waits → ShowsWaits c waits
shows_same b c waits same are shows = λ k j there within.
    let on_board : waits_for c k j ≡ waits_for b k j = ap (λ (all : List (List ℕ)). waits_for (record { shown = b.shown; waits = all; behind = b.behind; passed = 0 }) k j) are in
    on_board ∙ shows k j (omega (arith, there, same)) (omega (arith, within, same))

-- what waits after a feed
pub feed_posts : (late : Bool) (b c : BoardShown) (x : State) (v : World) → length c.shown.sides ≡ length b.shown.sides → ShowsState b x → Shows c.shown v → PostsSome late (length b.shown.sides) b c
    → (waits : Waits) × ShowsWaits c waits × FeedPosts (setting_of late b.shown) x (record { world = v; waits = waits; told = x.told })
feed_posts late b c x v same shows after (inl posts) = (posted (kind_of late) (length b.shown.sides) x.waits, shows_posted late (length b.shown.sides) b c x.waits same shows.waits posts, inl refl)
feed_posts late b c x v same shows after (inr none) = (
  x.waits,
  shows_same b c x.waits same none.1 shows.waits,
  inr (refl, λ k there. after.mail k (omega (arith, there, same)) ∙ ap (λ (xs : List Side). (side_in xs k).mail) none.0 ∙ sym (shows.world.mail k there)),
)

-- whether a feed posts a batch or not, what was called passed still is
pub feed_called : (late : Bool) (by : ℕ) (b c : BoardShown) → PostsSome late by b c → KeepsCalled b c
feed_called late by b c (inl posts) = posts.called
feed_called late by b c (inr none) = none.2

-- what waits once a batch was applied
pub shows_applied : (b c : BoardShown) (waits : Waits) (worker sender : ℕ) → c.shown ≡ b.shown → ShowsWaits b waits → ((k j : ℕ) → (k ≡ worker → j ≡ sender → ⊥) → waits_for c k j ≡ waits_for b k j)
    → ShowsWaits c (waiting_now waits worker sender (waits_for c worker sender))
shows_applied b c waits worker sender same shows others = λ k j there within.
    let size : length c.shown.sides ≡ length b.shown.sides = ap (λ (s : Shown). length s.sides) same in
    let first : k < length b.shown.sides = omega (arith, there, size) in
    let second : j ≤ length b.shown.sides = omega (arith, within, size) in
    let row = put (waits worker) sender (waits_for c worker sender) in
    elim (eqb_tells k worker) [
      | inl here ↦ ap (λ (n : ℕ). waits_for c n j) here.1 ∙ at_worker j (λ no. others worker j (λ e f. no f)) (ap (λ (n : ℕ). waits_for b n j) (sym here.1) ∙ shows k j first second ∙ ap (λ (n : ℕ). waits n j) here.1)
          ∙ sym (ap (λ (n : ℕ). put waits worker row n j) here.1 ∙ ap (λ (f : ℕ → ℕ). f j) (put_here waits worker row))
      | inr other ↦ others k j (λ e f. other.1 e) ∙ shows k j first second ∙ sym (ap (λ (f : ℕ → ℕ). f j) (put_other waits worker row k other.1))
    ]
  where
    at_worker : (j : ℕ) → ((j ≡ sender → ⊥) → waits_for c worker j ≡ waits_for b worker j) → waits_for b worker j ≡ waits worker j → waits_for c worker j ≡ put (waits worker) sender (waits_for c worker sender) j
    at_worker j rest before = elim (eqb_tells j sender) [
      | inl here ↦ ap (waits_for c worker) here.1 ∙ sym (ap (put (waits worker) sender (waits_for c worker sender)) here.1 ∙ put_here (waits worker) sender (waits_for c worker sender))
      | inr other ↦ rest other.1 ∙ before ∙ sym (put_other (waits worker) sender (waits_for c worker sender) j other.1)
    ]

-- a batch waits only if the worker and the sender exist
pub there_if_some : (b : BoardShown) (k j rest : ℕ) → IsWithin b → waits_for b k j ≡ suc rest → (k < length b.shown.sides) × (j ≤ length b.shown.sides)
there_if_some b k j rest knows some = elim (cases_lt k (length b.shown.sides)) [
  | inl there ↦ elim (cases_lt (length b.shown.sides) j) [
    | inl past ↦ absurd (omega (arith, some, knows k j (inr past)))
    | inr within ↦ (there, within)
  ]
  | inr gone ↦ absurd (omega (arith, some, knows k j (inl gone)))
]

-- the state of a new board
pub shows_first : (b : BoardShown) → Shows b.shown opening → AreUpToDate b → ShowsState b (record { world = opening; waits = λ worker sender. 0; told = λ output epoch. false })
shows_first b shows prompt = record { world = shows; waits = λ k j there within. prompt k j; told = λ k e no. absurd cc }

pub board_same : (b c : BoardShown) → c.shown ≡ b.shown → IsAsLate b c → c ≡ b
board_same b c shown late = λ j. record { shown = shown j; waits = late.waits j; behind = late.behind j; passed = late.passed j }
