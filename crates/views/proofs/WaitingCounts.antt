-- What callers conclude from a view's answers.
use Rattle.std.proofs.Common.{◌≡◌, ◌≢◌, ◌⊎◌, inl, inr, ℕ, zero, suc, ◌+◌, ◌<◌, Bool, true, false, eqb, List, [], ◌∷◌, length, refl, ap, ◌∙◌, arith}
use Rattle.std.proofs.lemmas.Bool.Decides.{eqb_tells}
use Rattle.semantics.specs.Multiset.{total}
use Rattle.semantics.specs.Could.{Pointstamp, NoneOf}
use Rattle.machine.specs.Active.{sum_below}
use Rattle.machine.specs.Views.{Changes}
use Rattle.views.specs.Waiting.{Waiting, waiting_adds, waiting_removes, IsSeenBy, after_post, all_waiting}
use Rattle.views.proofs.SenderSums.{sum_posted, sum_same}

sum_zero : (n : ℕ) → sum_below n (λ s. 0) ≡ 0
sum_zero zero = refl
sum_zero (suc n) = let a = sum_zero n in omega arith

module _ (content : Pointstamp → ℕ) (waiting : Waiting) (workers worker : ℕ) (none : (s : ℕ) → s < suc workers → waiting worker s ≡ []) (q : Pointstamp) where
  no_adds : waiting_adds waiting workers worker q ≡ 0
  no_adds =
      sum_same (suc workers) (λ s. 0) (λ s. total (λ (b : Changes). b.adds q) (waiting worker s)) (λ s l. ap (total (λ (b : Changes). b.adds q)) (none s l)) ∙ sum_zero (suc workers)

  no_removes : waiting_removes waiting workers worker q ≡ 0
  no_removes =
      sum_same (suc workers) (λ s. 0) (λ s. total (λ (b : Changes). b.removes q) (waiting worker s)) (λ s l. ap (total (λ (b : Changes). b.removes q)) (none s l)) ∙ sum_zero (suc workers)

  pub seen_is_there : IsSeenBy content waiting workers worker q → 0 < content q
  seen_is_there h = let a = no_removes in let x : waiting_adds waiting workers worker q < content q + waiting_removes waiting workers worker q = h in omega arith

  pub there_is_seen : 0 < content q → IsSeenBy content waiting workers worker q
  there_is_seen h = let a = no_adds in let x : waiting_adds waiting workers worker q < content q + waiting_removes waiting workers worker q = omega arith in x

term_none : (n : ℕ) (f : ℕ → ℕ) → sum_below n f ≡ 0 → (i : ℕ) → i < n → f i ≡ 0
term_none zero f e i l = absurd (omega arith)
term_none (suc n) f e i l = go (eqb_tells i n) (term_none n f (omega arith) i)
  where
    go : ((eqb i n ≡ true) × (i ≡ n)) ⊎ ((eqb i n ≡ false) × (i ≢ n)) → (i < n → f i ≡ 0) → f i ≡ 0
    go (inl x) ih = ap f x.1 ∙ (omega arith)
    go (inr x) ih = let d = x.1 in ih (omega arith)

nil_of : (xs : List Changes) → length xs ≡ 0 → xs ≡ []
nil_of [] e = refl
nil_of (x ∷ xs) e = absurd (omega arith)

pub none_waits_at : (waiting : Waiting) (workers : ℕ) → all_waiting waiting workers ≡ 0 → (w s : ℕ) → w < workers → s < suc workers → waiting w s ≡ []
none_waits_at waiting workers e w s l m =
    nil_of (waiting w s) (term_none (suc workers) (λ t. length (waiting w t)) (term_none workers (λ u. sum_below (suc workers) (λ t. length (waiting u t))) e w l) s m)

module _ (could : Pointstamp → Pointstamp → Type 0) (old new : Pointstamp → ℕ) (waiting waiting' : Waiting) (workers worker : ℕ) (b : Changes) (sends : b.sender < suc workers)
    (content : (q : Pointstamp) → new q + b.removes q ≡ old q + b.adds q) (p : Pointstamp) (adds : (q : Pointstamp) → 0 < b.adds q → could q p → ⊥) where
  waits_of : Bool → Type 0
  waits_of late = (s : ℕ) → waiting' worker s ≡ after_post late waiting b worker s

  moved : (f : Changes → ℕ) → ((s : ℕ) → waiting' worker s ≡ after_post true waiting b worker s) → sum_below (suc workers) (λ s. total f (waiting' worker s)) ≡ sum_below (suc workers) (λ s. total f (waiting worker s)) + f b
  moved f is = sum_posted f (suc workers) (waiting worker) (waiting' worker) b sends is

  pub stays_posted : (late : Bool) → ((s : ℕ) → waiting' worker s ≡ after_post late waiting b worker s) → NoneOf could (IsSeenBy old waiting workers worker) p → NoneOf could (IsSeenBy new waiting' workers worker) p
  stays_posted true is none q seen c =
      none q
      (let a = moved (λ x. x.adds q) is in let r = moved (λ x. x.removes q) is in let e = content q in
      let x : waiting_adds waiting' workers worker q < new q + waiting_removes waiting' workers worker q = seen in
      let y : waiting_adds waiting workers worker q < old q + waiting_removes waiting workers worker q = omega arith in y) c
  stays_posted false is none q seen c = go (b.adds q) refl
    where
      la : waiting_adds waiting' workers worker q ≡ waiting_adds waiting workers worker q
      la = sum_same (suc workers) (λ s. total (λ (x : Changes). x.adds q) (waiting worker s)) (λ s. total (λ (x : Changes). x.adds q) (waiting' worker s)) (λ s l. ap (total (λ (x : Changes). x.adds q)) (is s))

      lr : waiting_removes waiting' workers worker q ≡ waiting_removes waiting workers worker q
      lr = sum_same (suc workers) (λ s. total (λ (x : Changes). x.removes q) (waiting worker s)) (λ s. total (λ (x : Changes). x.removes q) (waiting' worker s)) (λ s l. ap (total (λ (x : Changes). x.removes q)) (is s))

      go : (n : ℕ) → b.adds q ≡ n → ⊥
      go (suc n) e = adds q (omega arith) c
      go zero e =
          none q
          (let a = la in let r = lr in let k = content q in
          let x : waiting_adds waiting' workers worker q < new q + waiting_removes waiting' workers worker q = seen in
          let y : waiting_adds waiting workers worker q < old q + waiting_removes waiting workers worker q = omega arith in y) c
