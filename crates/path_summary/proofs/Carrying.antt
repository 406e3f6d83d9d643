-- Summaries do to counters what their paths do, and the test of two summaries shows which leads less far.
use Rattle.std.proofs.Common.{◌≡◌, inl, inr, ℕ, zero, suc, ◌+◌, ◌-◌, ◌≤◌, ◌<◌, nat_lt, nat_eq, Bool, true, false, cond, ◌&&◌, ◌||◌, List, [], ◌∷◌, ◌++◌, length, refl, sym, ap, ap₂, subst, ◌∙◌, arith, append-nil, get_or, take, drop, append_assoc, length-append}
use Rattle.std.proofs.lemmas.Bool.Decides.{nat_tests}
use Rattle.std.proofs.Math.Seq.{take-length}
use Rattle.semantics.specs.Time.{Action, is_before, front, last}
use Rattle.semantics.specs.Summary.{Summary, raised, applied, left_by, turned_by, then_action}
use Rattle.semantics.proofs.OneFlow.{lex_head, lex_tail}
use Rattle.semantics.proofs.PathSummaries.{MayTake, then_applied}
use Rattle.semantics.proofs.VertexFlows.{front-push, last_from-push}
use Rattle.path_summary.specs.Order.{Later, in_order}
use Rattle.path_summary.specs.Carried.{raised_at, kept, carried, counters_after, identity, Sits, Below}
use Rattle.path_summary.specs.Rows.{is_below}
use Rattle.path_summary.proofs.InOrder.{order_cases, order_self, order_later, later_behind}

kept_raised : (k j : ℕ) (cs : List ℕ) → k ≤ length cs → kept k j cs ≡ raised j (take k cs)
kept_raised zero j cs h = refl
kept_raised (suc k) j [] h = absurd (omega arith)
kept_raised (suc zero) j (c ∷ cs) h = refl
kept_raised (suc (suc k)) j (c ∷ []) h = absurd (omega arith)
kept_raised (suc (suc k)) j (c ∷ d ∷ ds) h = ap (λ (l : List ℕ). c ∷ l) (kept_raised (suc k) j (d ∷ ds) (omega arith))

-- a summary does to counters what the definition's does
carried_applied : (f : Summary) (cs : List ℕ) → f.keep ≤ length cs → carried f cs ≡ applied f cs
carried_applied f cs h = ap (λ (l : List ℕ). l ++ f.tail) (kept_raised f.keep f.add cs h)

kept_all : (cs : List ℕ) → kept (length cs) 0 cs ≡ cs
kept_all [] = refl
kept_all (c ∷ cs) = ap₂ (λ (a : ℕ) (l : List ℕ). a ∷ l) (plain (length cs) c) (kept_all cs)
  where
    plain : (k c : ℕ) → raised_at k 0 c ≡ c
    plain zero c = omega arith
    plain (suc k) c = refl

pub carried-identity : (d : ℕ) (cs : List ℕ) → length cs ≡ d → carried (identity d) cs ≡ cs
carried-identity d cs l = append-nil (kept d 0 cs) ∙ subst (λ n. kept n 0 cs ≡ cs) l (kept_all cs)

-- it still keeps at most as many as there are, and raises nothing if it keeps nothing
pub sits_then : (a : Action) (f : Summary) (d : ℕ) → Sits d f → MayTake a f → Sits d (then_action a f)
sits_then Action.stay f d h m = h
sits_then Action.enter f d h m = record { short = h.short; still = h.still }
sits_then Action.leave f d h m = go f.tail
  where
    go : (tail : List ℕ) → Sits d (left_by tail f)
    go [] = record { short = omega (arith, h.short); still = λ e. refl }
    go (c ∷ cs) = record { short = h.short; still = h.still }
sits_then Action.next f d h m = go f.tail m
  where
    go : (tail : List ℕ) → 0 < f.keep + length tail → Sits d (turned_by tail f)
    go [] n = record { short = h.short; still = λ e. absurd (omega arith) }
    go (c ∷ cs) n = record { short = h.short; still = h.still }

-- a summary, then an action
pub carried_then : (a : Action) (f : Summary) (cs : List ℕ) → Sits (length cs) f → MayTake a f → carried (then_action a f) cs ≡ counters_after a (carried f cs)
carried_then a f cs h m =
    carried_applied (then_action a f) cs (sits_then a f (length cs) h m).short
    ∙ then_applied a f cs h.short m
    ∙ ap (counters_after a) (sym (carried_applied f cs h.short))

-- how many counters there are after
pub length-carried : (f : Summary) (cs : List ℕ) → f.keep ≤ length cs → length (carried f cs) ≡ f.keep + length f.tail
length-carried f cs h = length-append (kept f.keep f.add cs) f.tail ∙ ap (λ n. n + length f.tail) (length-kept f.keep f.add cs h)
  where
    length-kept : (k j : ℕ) (cs : List ℕ) → k ≤ length cs → length (kept k j cs) ≡ k
    length-kept zero j cs h = refl
    length-kept (suc k) j [] h = absurd (omega arith)
    length-kept (suc k) j (c ∷ cs) h = ap suc (length-kept k j cs (omega arith))

-- ---- the test of two summaries

-- the same counters are kept, and the second adds more
more_raised : (k i j : ℕ) (as' bs cs : List ℕ) → suc k ≤ length cs → i < j → is_before (kept (suc k) i cs ++ as') (kept (suc k) j cs ++ bs) ≡ true
more_raised k i j as' bs [] l h = absurd (omega arith)
more_raised zero i j as' bs (c ∷ cs) l h = lex_head (c + i) (c + j) as' bs (omega arith)
more_raised (suc k) i j as' bs (c ∷ cs) l h = lex_tail c c (kept (suc k) i cs ++ as') (kept (suc k) j cs ++ bs) refl (more_raised k i j as' bs cs (omega arith) h)

-- the second keeps fewer, and raises
pub fewer_kept : (k m i j : ℕ) (as' bs cs : List ℕ) → suc m ≤ length cs → k < m → 0 < j → is_before (kept (suc m) i cs ++ as') (kept (suc k) j cs ++ bs) ≡ true
fewer_kept k m i j as' bs [] l h n = absurd (omega arith)
fewer_kept zero zero i j as' bs (c ∷ cs) l h n = absurd (omega arith)
fewer_kept zero (suc m) i j as' bs (c ∷ cs) l h n = lex_head c (c + j) (kept (suc m) i cs ++ as') bs (omega arith)
fewer_kept (suc k) zero i j as' bs (c ∷ cs) l h n = absurd (omega arith)
fewer_kept (suc k) (suc m) i j as' bs (c ∷ cs) l h n = lex_tail c c (kept (suc m) i cs ++ as') (kept (suc k) j cs ++ bs) refl (fewer_kept k m i j as' bs cs (omega arith) (omega arith) n)

-- the test of a summary with itself
pub below_self : (f : Summary) → is_below f f ≡ true
below_self f = go (order_self f.tail)
  where
    go : in_order f.tail f.tail ≡ true → is_below f f ≡ true
    go e = grind (arith, nat_tests)

-- what the test shows
data Told (f h : Summary) : Type 0 where
  adds : f.keep ≡ h.keep → f.add < h.add → Told f h
  tails : f.keep ≡ h.keep → f.add ≡ h.add → in_order f.tail h.tail ≡ true → Told f h
  fewer : h.keep < f.keep → 0 < h.add → Told f h

told : (f h : Summary) → is_below f h ≡ true → Told f h
told f h b = go (nat_eq f.keep h.keep) refl b
  where
    go : (b : Bool) → nat_eq f.keep h.keep ≡ b → cond b (nat_lt f.add h.add || (nat_eq f.add h.add && in_order f.tail h.tail)) (nat_lt h.keep f.keep && nat_lt 0 h.add) ≡ true → Told f h
    go true e b = let k : f.keep ≡ h.keep = grind (arith, nat_tests) in elim (order_cases f.add h.add (in_order f.tail h.tail) b) [ inl a ↦ Told.adds k a | inr a ↦ Told.tails k a.0 a.1 ]
    go false e b = let a : h.keep < f.keep = grind (arith, nat_tests) in let c : 0 < h.add = grind (arith, nat_tests) in Told.fewer a c

raised_more : (k i j : ℕ) (as' bs cs : List ℕ) → k ≤ length cs → (k ≡ 0 → j ≡ 0) → i < j → Later (kept k i cs ++ as') (kept k j cs ++ bs)
raised_more zero i j as' bs cs l z h = let e = z refl in absurd (omega arith)
raised_more (suc k) i j as' bs cs l z h = inr (more_raised k i j as' bs cs l h)

kept_fewer : (k m i j : ℕ) (as' bs cs : List ℕ) → m ≤ length cs → (k ≡ 0 → j ≡ 0) → k < m → 0 < j → Later (kept m i cs ++ as') (kept k j cs ++ bs)
kept_fewer k zero i j as' bs cs l z h n = absurd (omega arith)
kept_fewer zero (suc m) i j as' bs cs l z h n = let e = z refl in absurd (omega arith)
kept_fewer (suc k) (suc m) i j as' bs cs l z h n = inr (fewer_kept k m i j as' bs cs l (omega arith) n)

pub below_from : (d : ℕ) (f h : Summary) → Sits d f → Sits d h → is_below f h ≡ true → Below d f h
below_from d f h a b t = record { at = λ cs l. go cs l (told f h t) }
  where
    go : (cs : List ℕ) → length cs ≡ d → Told f h → Later (carried f cs) (carried h cs)
    go cs l (Told.adds k m) = subst (λ n. Later (kept n f.add cs ++ f.tail) (carried h cs)) (sym k) (raised_more h.keep f.add h.add f.tail h.tail cs (omega (arith, b.short)) b.still m)
    go cs l (Told.tails k m e) = subst (λ n. Later (kept n f.add cs ++ f.tail) (carried h cs)) (sym k) (subst (λ n. Later (kept h.keep n cs ++ f.tail) (carried h cs)) (sym m) (later_behind (kept h.keep h.add cs) f.tail h.tail (order_later f.tail h.tail e)))
    go cs l (Told.fewer k m) = kept_fewer h.keep f.keep f.add h.add f.tail h.tail cs (omega (arith, a.short)) b.still k m

-- ---- counters pushed one by one

pub raised_first : (k j c : ℕ) → k ≡ 0 → raised_at k j c ≡ c + j
raised_first zero j c e = refl
raised_first (suc k) j c e = absurd (omega arith)

pub raised_later : (k j c : ℕ) → 0 < k → raised_at k j c ≡ c
raised_later zero j c h = absurd (omega arith)
raised_later (suc k) j c h = refl

pub kept_none : (k j : ℕ) (cs : List ℕ) → k ≡ 0 → kept k j cs ≡ []
kept_none zero j cs e = refl
kept_none (suc k) j cs e = absurd (omega arith)

kept_some : (k j c : ℕ) (cs : List ℕ) → 0 < k → kept k j (c ∷ cs) ≡ raised_at (k - 1) j c ∷ kept (k - 1) j cs
kept_some zero j c cs h = absurd (omega arith)
kept_some (suc k) j c cs h = let e : suc k - 1 ≡ k = omega arith in ap (λ n. raised_at n j c ∷ kept n j cs) (sym e)

-- what a pop leaves, and what it takes
pub popped_front : (old new : List ℕ) (c : ℕ) → old ≡ new ++ (c ∷ []) → front old ≡ new
popped_front old new c e = ap front e ∙ front-push new c

pub popped_last : (old new : List ℕ) (c : ℕ) → old ≡ new ++ (c ∷ []) → last old ≡ c
popped_last old new c e = ap last e ∙ last_from-push 0 new c

pub pushed_kept : (out out1 out2 cs : List ℕ) (k j v : ℕ) → 0 < k → 1 ≤ length cs → v ≡ raised_at (k - 1) j (get_or cs 0 0) → out1 ≡ out ++ (v ∷ []) → out2 ≡ out1 ++ kept (k - 1) j (take (length cs - 1) (drop 1 cs)) → out2 ≡ out ++ kept k j cs
pushed_kept out out1 out2 [] k j v h l e f g = absurd (omega arith)
pushed_kept out out1 out2 (c ∷ cs) k j v h l e f g =
    let n : suc (length cs) - 1 ≡ length cs = omega arith in
    let m : take (suc (length cs) - 1) cs ≡ cs = ap (λ i. take i cs) n ∙ take-length cs in
    g ∙ ap₂ (λ (x y : List ℕ). x ++ kept (k - 1) j y) f m ∙ append_assoc out (v ∷ []) (kept (k - 1) j cs)
    ∙ ap (λ (x : List ℕ). out ++ x) (ap (λ (x : ℕ). x ∷ kept (k - 1) j cs) e ∙ sym (kept_some k j c cs h))

-- summaries with equal parts are equal
pub same_parts : (f h : Summary) → f.keep ≡ h.keep → f.add ≡ h.add → f.tail ≡ h.tail → f ≡ h
same_parts f h a b c = λ i. record { keep = a i; add = b i; tail = c i }
