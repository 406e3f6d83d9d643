-- Histories are continued: a batch is posted, or a worker applies the next batch of a sender.
use Rattle.std.proofs.Common.{◌≡◌, ◌≢◌, ◌⊎◌, inl, inr, ℕ, suc, ◌+◌, ◌≤◌, ◌<◌, ◌-◌, ◌==◌, Bool, true, false, cond, eqb, List, [], ◌∷◌, ◌++◌, refl, sym, ap, subst, ◌∙◌, arith}
use Rattle.std.proofs.lemmas.Bool.{true≢false}
use Rattle.std.proofs.lemmas.Bool.Decides.{eqb_tells}
use Rattle.semantics.specs.Multiset.{total}
use Rattle.semantics.specs.Graph.{Graph, input_count}
use Rattle.semantics.specs.Could.{Pointstamp, CouldResultIn, NoneOf, NoOtherOf}
use Rattle.semantics.specs.Dataflow.{IsDataflow}
use Rattle.machine.specs.Active.{one_if_same}
use Rattle.machine.proofs.Active.{one_tells}
use Rattle.machine.proofs.LocalViews.{none as seen_none, no_other as seen_no_other, applied as seen_stays}
use Rattle.std.proofs.Math.Logic.{∥∥₁_elim}
use Rattle.semantics.proofs.MultisetSums.{total-append}
use Rattle.machine.specs.Views.{Changes, when, all_removes, seen_adds, seen_removes, InOrder, NoneApplied, AppliesMore, IsSeen, IsThere}
use Rattle.machine.specs.Posting.{MayPost, ArePosted, IsView, content_after}
use Rattle.views.specs.Waiting.{Waiting, waiting_adds, waiting_removes, IsSeenBy, pending, IsHistory}
use Rattle.views.proofs.SenderSums.{sum_posted, sum_applied}

-- ---- posting

abbrev after_all : (Pointstamp → ℕ) → List Changes → Pointstamp → ℕ
after_all content [] = content
after_all content (b ∷ log) = after_all (content_after content b) log

after_sum : (could : Pointstamp → Pointstamp → Type 0) (inputs feeder : ℕ) (first : Pointstamp → ℕ) (log : List Changes) → ArePosted could inputs feeder first log → (q : Pointstamp) → after_all first log q + all_removes log q ≡ first q + total (λ b. b.adds q) log
after_sum could inputs feeder first [] posted q = omega arith
after_sum could inputs feeder first (b ∷ log) posted q =
    let a : b.removes q ≤ first q = posted.0.there q in
    let r : after_all (content_after first b) log q + all_removes log q ≡ first q + b.adds q - b.removes q + total (λ b. b.adds q) log = after_sum could inputs feeder (content_after first b) log posted.1 q in
    omega arith

posted_next : (could : Pointstamp → Pointstamp → Type 0) (inputs feeder : ℕ) (first : Pointstamp → ℕ) (log : List Changes) (b : Changes) → ArePosted could inputs feeder first log → MayPost could inputs feeder (after_all first log) b → ArePosted could inputs feeder first (log ++ (b ∷ []))
posted_next could inputs feeder first [] b posted may = (may, tt)
posted_next could inputs feeder first (c ∷ log) b posted may = (posted.0, posted_next could inputs feeder (content_after first c) log b posted.1 may)

none_applied_next : (t : ℕ) (log : List Changes) (b : Changes) → b.applied ≡ false → NoneApplied t log → NoneApplied t (log ++ (b ∷ []))
none_applied_next t [] b e n = (λ _. e, tt)
none_applied_next t (c ∷ log) b e n = (n.0, none_applied_next t log b e n.1)

in_order_next : (log : List Changes) (b : Changes) → b.applied ≡ false → InOrder log → InOrder (log ++ (b ∷ []))
in_order_next [] b e o = (λ _. tt, tt)
in_order_next (c ∷ log) b e o = (λ u. none_applied_next c.sender log b e (o.0 u), in_order_next log b e o.1)

pending_true : (s : ℕ) (c : Changes) (log : List Changes) → c.applied ≡ true → pending s (c ∷ log) ≡ pending s log
pending_true s c log e = ap (λ a. cond a (pending s log) (cond (s == c.sender) (c ∷ pending s log) (pending s log))) e

pending_false : (s : ℕ) (c : Changes) (log : List Changes) (x : Bool) → c.applied ≡ false → (s == c.sender) ≡ x → pending s (c ∷ log) ≡ cond x (c ∷ pending s log) (pending s log)
pending_false s c log x e d = ap (λ a. cond a (pending s log) (cond (s == c.sender) (c ∷ pending s log) (pending s log))) e ∙ ap (λ y. cond y (c ∷ pending s log) (pending s log)) d

pub pending_next : (s : ℕ) (log : List Changes) (b : Changes) → b.applied ≡ false → pending s (log ++ (b ∷ [])) ≡ cond (s == b.sender) (pending s log ++ (b ∷ [])) (pending s log)
pending_next s [] b e = pending_false s b [] (s == b.sender) e refl
pending_next s (c ∷ log) b e = go c.applied (s == c.sender) (s == b.sender) (pending_next s log b e)
  where
    go : (a x y : Bool) → pending s (log ++ (b ∷ [])) ≡ cond y (pending s log ++ (b ∷ [])) (pending s log)
        → cond a (pending s (log ++ (b ∷ []))) (cond x (c ∷ pending s (log ++ (b ∷ []))) (pending s (log ++ (b ∷ []))))
        ≡ cond y (cond a (pending s log) (cond x (c ∷ pending s log) (pending s log)) ++ (b ∷ [])) (cond a (pending s log) (cond x (c ∷ pending s log) (pending s log)))
    go true x y ih = ih
    go false true true ih = ap (λ (l : List Changes). c ∷ l) ih
    go false true false ih = ap (λ (l : List Changes). c ∷ l) ih
    go false false y ih = ih

pub history_posted : (g : Graph) (workers worker : ℕ) (content content' : Pointstamp → ℕ) (waiting waiting' : Waiting) (b : Changes)
    → IsHistory g workers content waiting worker → b.applied ≡ false → b.sender < suc workers
    → MayPost (CouldResultIn g) (input_count g) workers content b
    → ((q : Pointstamp) → content' q + b.removes q ≡ content q + b.adds q)
    → ((s : ℕ) → waiting' worker s ≡ cond (s == b.sender) (waiting worker s ++ (b ∷ [])) (waiting worker s))
    → IsHistory g workers content' waiting' worker
history_posted g workers worker content content' waiting waiting' b h e l may c w =
    let same : (q : Pointstamp) → content q ≡ after_all h.first h.log q =
    λ q. let a = after_sum (CouldResultIn g) (input_count g) workers h.first h.log h.posted q in let t = h.there q in omega arith in
    record {
      first = h.first;
      log = h.log ++ (b ∷ []);
      posted = posted_next (CouldResultIn g) (input_count g) workers h.first h.log b h.posted (subst (λ (f : Pointstamp → ℕ). MayPost (CouldResultIn g) (input_count g) workers f b) (λ i q. same q i) may);
      order = in_order_next h.log b e h.order;
      seen = λ q.
          let a = total-append (λ (x : Changes). when x.applied (x.adds q)) h.log (b ∷ []) in
          let r = total-append (λ (x : Changes). when x.applied (x.removes q)) h.log (b ∷ []) in
          let a0 : when b.applied (b.adds q) ≡ 0 = ap (λ x. when x (b.adds q)) e in
          let r0 : when b.applied (b.removes q) ≡ 0 = ap (λ x. when x (b.removes q)) e in
          let wa = sum_posted (λ x. x.adds q) (suc workers) (waiting worker) (waiting' worker) b l w in
          let wr = sum_posted (λ x. x.removes q) (suc workers) (waiting worker) (waiting' worker) b l w in
          let m = c q in
          let k = h.seen q in omega arith;
      there = λ q.
          let a = total-append (λ (x : Changes). x.adds q) h.log (b ∷ []) in
          let r = total-append (λ (x : Changes). x.removes q) h.log (b ∷ []) in
          let k = h.there q in let m = c q in omega arith;
      waits_for = λ s k. pending_next s h.log b e ∙ ap (λ (p : List Changes). cond (s == b.sender) (p ++ (b ∷ [])) p) (h.waits_for s k) ∙ sym (w s);
    }

-- ---- applying

abbrev with_applied : Changes → Changes
with_applied b = record { sender = b.sender; adds = b.adds; removes = b.removes; applied = true }

-- the sender's first batch that isn't applied is applied
abbrev apply_next : ℕ → List Changes → List Changes
apply_next s [] = []
apply_next s (b ∷ log) = cond b.applied (b ∷ apply_next s log) (cond (s == b.sender) (with_applied b ∷ log) (b ∷ apply_next s log))

posted_with : (could : Pointstamp → Pointstamp → Type 0) (inputs feeder : ℕ) (first : Pointstamp → ℕ) (b : Changes) → MayPost could inputs feeder first b → MayPost could inputs feeder first (with_applied b)
posted_with could inputs feeder first b m = record { there = m.there; justified = m.justified; feeder_only = m.feeder_only }

posted_applied : (could : Pointstamp → Pointstamp → Type 0) (inputs feeder s : ℕ) (first : Pointstamp → ℕ) (log : List Changes) → ArePosted could inputs feeder first log → ArePosted could inputs feeder first (apply_next s log)
posted_applied could inputs feeder s first [] posted = posted
posted_applied could inputs feeder s first (b ∷ log) posted = go b.applied (s == b.sender) (posted_applied could inputs feeder s (content_after first b) log posted.1)
  where
    go : (a x : Bool) → ArePosted could inputs feeder (content_after first b) (apply_next s log) → ArePosted could inputs feeder first (cond a (b ∷ apply_next s log) (cond x (with_applied b ∷ log) (b ∷ apply_next s log)))
    go true x ih = (posted.0, ih)
    go false true ih = (posted_with could inputs feeder first b posted.0, posted.1)
    go false false ih = (posted.0, ih)

none_applied_still : (t s : ℕ) (log : List Changes) → (t ≡ s → ⊥) → NoneApplied t log → NoneApplied t (apply_next s log)
none_applied_still t s [] d n = n
none_applied_still t s (b ∷ log) d n = go b.applied (s == b.sender) refl (none_applied_still t s log d n.1)
  where
    is : (s == b.sender) ≡ true → s ≡ b.sender
    is e = grind (arith, eqb_tells s b.sender)

    go : (a x : Bool) → (s == b.sender) ≡ x → NoneApplied t (apply_next s log) → NoneApplied t (cond a (b ∷ apply_next s log) (cond x (with_applied b ∷ log) (b ∷ apply_next s log)))
    go true x e ih = (n.0, ih)
    go false true e ih = (λ k. absurd (d (sym k ∙ sym (is e))), n.1)
    go false false e ih = (n.0, ih)

in_order_applied : (s : ℕ) (log : List Changes) → InOrder log → InOrder (apply_next s log)
in_order_applied s [] o = o
in_order_applied s (b ∷ log) o = go b.applied (s == b.sender) refl refl (in_order_applied s log o.1)
  where
    differs : (s == b.sender) ≡ false → b.sender ≡ s → ⊥
    differs e k = grind (arith, eqb_tells s b.sender)

    go : (a x : Bool) → b.applied ≡ a → (s == b.sender) ≡ x → InOrder (apply_next s log) → InOrder (cond a (b ∷ apply_next s log) (cond x (with_applied b ∷ log) (b ∷ apply_next s log)))
    go true x u e ih = (λ f. absurd (true≢false (sym u ∙ f)), ih)
    go false true u e ih = (λ f. absurd (true≢false f), o.1)
    go false false u e ih = (λ f. none_applied_still b.sender s log (differs e) (o.0 f), ih)

-- what is pending for others stays
pending_others : (s t : ℕ) (log : List Changes) → (t ≡ s → ⊥) → pending t (apply_next s log) ≡ pending t log
pending_others s t [] d = refl
pending_others s t (b ∷ log) d = go b.applied (s == b.sender) refl refl (pending_others s t log d)
  where
    other : (s == b.sender) ≡ true → (t == b.sender) ≡ false
    other e = grind (arith, eqb_tells s b.sender, eqb_tells t b.sender)

    go : (a x : Bool) → b.applied ≡ a → (s == b.sender) ≡ x → pending t (apply_next s log) ≡ pending t log
        → pending t (cond a (b ∷ apply_next s log) (cond x (with_applied b ∷ log) (b ∷ apply_next s log))) ≡ pending t (b ∷ log)
    go true x u e ih = pending_true t b (apply_next s log) u ∙ ih ∙ sym (pending_true t b log u)
    go false true u e ih = sym (pending_false t b log false u (other e))
    go false false u e ih =
        pending_false t b (apply_next s log) (t == b.sender) u refl ∙ ap (λ (l : List Changes). cond (t == b.sender) (b ∷ l) l) ih ∙ sym (pending_false t b log (t == b.sender) u refl)

-- the effect on the sender
record Took (s : ℕ) (log new : List Changes) (b : Changes) (rest : List Changes) : Type 0 where
  left : pending s new ≡ rest
  adds : (q : Pointstamp) → total (λ x. when x.applied (x.adds q)) new ≡ b.adds q + total (λ x. when x.applied (x.adds q)) log
  removes : (q : Pointstamp) → total (λ x. when x.applied (x.removes q)) new ≡ b.removes q + total (λ x. when x.applied (x.removes q)) log
  all_added : (q : Pointstamp) → total (λ x. x.adds q) new ≡ total (λ x. x.adds q) log
  all_removed : (q : Pointstamp) → total (λ x. x.removes q) new ≡ total (λ x. x.removes q) log

first_same : (b c : Changes) (xs ys : List Changes) → b ∷ xs ≡ c ∷ ys → b ≡ c
first_same b c xs ys e = cc

rest_same : (b c : Changes) (xs ys : List Changes) → b ∷ xs ≡ c ∷ ys → xs ≡ ys
rest_same b c xs ys e = cc

took_later : (s : ℕ) (c : Changes) (log new : List Changes) (b : Changes) (rest : List Changes) → pending s (c ∷ new) ≡ pending s new → Took s log new b rest → Took s (c ∷ log) (c ∷ new) b rest
took_later s c log new b rest e k =
    record {
      left = e ∙ k.left;
      adds = λ q. let a = k.adds q in omega arith;
      removes = λ q. let a = k.removes q in omega arith;
      all_added = λ q. let a = k.all_added q in omega arith;
      all_removed = λ q. let a = k.all_removed q in omega arith;
    }

took : (s : ℕ) (log : List Changes) (b : Changes) (rest : List Changes) → pending s log ≡ b ∷ rest → Took s log (apply_next s log) b rest
took s [] b rest e = absurd (let k = e in cc)
took s (c ∷ log) b rest e = go c.applied (s == c.sender) refl refl (took s log b rest)
  where
    go : (a x : Bool) → c.applied ≡ a → (s == c.sender) ≡ x → (pending s log ≡ b ∷ rest → Took s log (apply_next s log) b rest)
        → Took s (c ∷ log) (cond a (c ∷ apply_next s log) (cond x (with_applied c ∷ log) (c ∷ apply_next s log))) b rest
    go true x u y ih = took_later s c log (apply_next s log) b rest (pending_true s c (apply_next s log) u) (ih (sym (pending_true s c log u) ∙ e))
    go false false u y ih =
        took_later s c log (apply_next s log) b rest (pending_false s c (apply_next s log) false u y) (ih (sym (pending_false s c log false u y) ∙ e))
    go false true u y ih =
        let f : c ∷ pending s log ≡ b ∷ rest = sym (pending_false s c log true u y) ∙ e in
        let is = first_same c b (pending s log) rest f in
        record {
          left = rest_same c b (pending s log) rest f;
          adds = λ q.
              let z : when c.applied (c.adds q) ≡ 0 = ap (λ x. when x (c.adds q)) u in
              let w : c.adds q ≡ b.adds q = ap (λ (d : Changes). d.adds q) is in
              omega arith;
          removes = λ q.
              let z : when c.applied (c.removes q) ≡ 0 = ap (λ x. when x (c.removes q)) u in
              let w : c.removes q ≡ b.removes q = ap (λ (d : Changes). d.removes q) is in
              omega arith;
          all_added = λ q. refl;
          all_removed = λ q. refl;
        }

applies_more : (s : ℕ) (log : List Changes) → AppliesMore log (apply_next s log)
applies_more s [] = tt
applies_more s (b ∷ log) = go b.applied (s == b.sender) (applies_more s log)
  where
    same : (xs : List Changes) → AppliesMore xs xs
    same [] = tt
    same (c ∷ xs) = (refl, refl, refl, λ e. e, same xs)

    go : (a x : Bool) → AppliesMore log (apply_next s log) → AppliesMore (b ∷ log) (cond a (b ∷ apply_next s log) (cond x (with_applied b ∷ log) (b ∷ apply_next s log)))
    go true x ih = (refl, refl, refl, λ e. e, ih)
    go false true ih = (refl, refl, refl, λ e. refl, same log)
    go false false ih = (refl, refl, refl, λ e. e, ih)

view_of : (g : Graph) (workers : ℕ) (content : Pointstamp → ℕ) (waiting : Waiting) (worker : ℕ) → (h : IsHistory g workers content waiting worker) → 0 < workers → IsDataflow g → IsView g workers h.first h.log
view_of g workers content waiting worker h some flow = record { flows = flow; some = some; posted = h.posted; order = h.order }

is_seen : (g : Graph) (workers : ℕ) (content : Pointstamp → ℕ) (waiting : Waiting) (worker : ℕ) → (h : IsHistory g workers content waiting worker) → (q : Pointstamp) → IsSeen h.first h.log q → IsSeenBy content waiting workers worker q
is_seen g workers content waiting worker h q s =
    let e = h.seen q in let x : waiting_adds waiting workers worker q < content q + waiting_removes waiting workers worker q = omega arith in x

module _ (g : Graph) (workers : ℕ) (some : 0 < workers) (flow : ∥ IsDataflow g ∥₁) (content : Pointstamp → ℕ) (waiting : Waiting) (worker : ℕ) (h : IsHistory g workers content waiting worker) (p : Pointstamp) where
  is_there : (q : Pointstamp) → 0 < content q → IsThere h.first h.log q
  is_there q s = let e = h.there q in omega arith

  pub none_there : NoneOf (CouldResultIn g) (IsSeenBy content waiting workers worker) p → NoneOf (CouldResultIn g) (λ q. 0 < content q) p
  none_there none q there could =
      ∥∥₁_elim flow (λ a b. absurd a) (λ f. seen_none g workers h.first h.log (view_of g workers content waiting worker h some f) p (λ o s c. none o (is_seen g workers content waiting worker h o s) c) q (is_there q there) could)

  pub no_other_there : NoOtherOf (CouldResultIn g) (IsSeenBy content waiting workers worker) p → NoOtherOf (CouldResultIn g) (λ q. 0 < content q) p
  no_other_there none q there could = go (one_tells q p)
    where
      go : ((one_if_same q p ≡ 1) × (q ≡ p)) ⊎ ((one_if_same q p ≡ 0) × (q ≢ p)) → q ≡ p
      go (inl x) = x.1
      go (inr x) =
          absurd (∥∥₁_elim flow (λ a b. absurd a) (λ f. x.1 (seen_no_other g workers h.first h.log (view_of g workers content waiting worker h some f) p (λ o s c. none o (is_seen g workers content waiting worker h o s) c) q (is_there q there) could)))

module _ (g : Graph) (workers worker s : ℕ) (content : Pointstamp → ℕ) (waiting waiting' : Waiting) (b : Changes)
    (h : IsHistory g workers content waiting worker) (l : s < suc workers)
    (e : waiting worker s ≡ b ∷ waiting' worker s)
    (others : (t : ℕ) → (t ≡ s → ⊥) → waiting' worker t ≡ waiting worker t) where
  took_next : Took s h.log (apply_next s h.log) b (waiting' worker s)
  took_next = took s h.log b (waiting' worker s) (h.waits_for s l ∙ e)

  seen_next : (q : Pointstamp) → seen_removes (apply_next s h.log) q + (content q + waiting_removes waiting' workers worker q) ≡ seen_adds h.first (apply_next s h.log) q + waiting_adds waiting' workers worker q
  seen_next q =
      let k = took_next in
      let a = k.adds q in let r = k.removes q in let i = h.seen q in
      let wa = sum_applied (λ x. x.adds q) (suc workers) s (waiting worker) (waiting' worker) b l e others in
      let wr = sum_applied (λ x. x.removes q) (suc workers) s (waiting worker) (waiting' worker) b l e others in
      omega arith

  pub history_applied : IsHistory g workers content waiting' worker
  history_applied =
      record {
        first = h.first;
        log = apply_next s h.log;
        posted = posted_applied (CouldResultIn g) (input_count g) workers s h.first h.log h.posted;
        order = in_order_applied s h.log h.order;
        seen = seen_next;
        there = λ q. let k = took_next in let a = k.all_added q in let r = k.all_removed q in let i = h.there q in omega arith;
        waits_for = λ t m. go t m (eqb_tells t s);
      }
    where
      go : (t : ℕ) → t < suc workers → ((eqb t s ≡ true) × (t ≡ s)) ⊎ ((eqb t s ≡ false) × (t ≢ s)) → pending t (apply_next s h.log) ≡ waiting' worker t
      go t m (inl x) = subst (λ (i : ℕ). pending i (apply_next s h.log) ≡ waiting' worker i) (sym x.1) (took s h.log b (waiting' worker s) (h.waits_for s l ∙ e)).left
      go t m (inr x) = pending_others s t h.log x.1 ∙ h.waits_for t m ∙ sym (others t x.1)

  -- what is clear stays clear
  pub none_stays : 0 < workers → ∥ IsDataflow g ∥₁ → (p : Pointstamp) → NoneOf (CouldResultIn g) (IsSeenBy content waiting workers worker) p → NoneOf (CouldResultIn g) (IsSeenBy content waiting' workers worker) p
  none_stays some flow p none q there could =
      ∥∥₁_elim flow (λ a b. absurd a)
      (λ f. seen_stays g workers h.first h.log (view_of g workers content waiting worker h some f) p (apply_next s h.log) (applies_more s h.log) (λ o x c. none o (is_seen g workers content waiting worker h o x) c) q still could)
    where
      still : IsSeen h.first (apply_next s h.log) q
      still = let k = seen_next q in let x : waiting_adds waiting' workers worker q < content q + waiting_removes waiting' workers worker q = there in omega arith
