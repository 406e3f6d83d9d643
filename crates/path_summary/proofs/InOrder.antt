-- The test of the order of counters.
use Rattle.std.proofs.Common.{◌≡◌, ◌⊎◌, inl, inr, ℕ, ◌≤◌, ◌<◌, Some, nat_lt, nat_eq, Bool, true, ◌&&◌, ◌||◌, List, [], ◌∷◌, ◌++◌, length, refl, sym, ap, ap₂, subst, ◌∙◌, arith}
use Rattle.std.proofs.lemmas.Bool.{true≢false}
use Rattle.std.proofs.lemmas.Bool.Decides.{nat_tests}
use Rattle.semantics.specs.Time.{Time, Action, after_action, is_before}
use Rattle.semantics.proofs.LexicographicOrder.{lex_cases}
use Rattle.semantics.proofs.OneFlow.{lex_head, lex_tail}
use Rattle.semantics.proofs.CouldRises.{at_most_after, at_most_trans}
use Rattle.path_summary.specs.Order.{Later, in_order}
use Rattle.semantics.specs.Summary.{Summary}
use Rattle.std.specs.Bool.{Decides}
use Rattle.std.proofs.lemmas.Option.{same_Some}
use Rattle.path_summary.specs.Carried.{carried, counters_after}
use Rattle.path_summary.specs.Tables.{Covers}

-- by cases on the first counters
pub order_cases : (c d : ℕ) (r : Bool) → (nat_lt c d || (nat_eq c d && r)) ≡ true → (c < d) ⊎ ((c ≡ d) × (r ≡ true))
order_cases c d r h = grind (arith, nat_tests)

order_head : (c d : ℕ) (r : Bool) → c < d → (nat_lt c d || (nat_eq c d && r)) ≡ true
order_head c d r h = grind (arith, nat_tests)

order_tail : (c d : ℕ) (r : Bool) → c ≡ d → r ≡ true → (nat_lt c d || (nat_eq c d && r)) ≡ true
order_tail c d r h k = grind (arith, nat_tests)

pub order_self : (cs : List ℕ) → in_order cs cs ≡ true
order_self [] = refl
order_self (c ∷ cs) = order_tail c c (in_order cs cs) refl (order_self cs)

-- if the test passes, the order holds
pub order_later : (cs ds : List ℕ) → in_order cs ds ≡ true → Later cs ds
order_later [] [] h = inl refl
order_later [] (d ∷ ds) h = inr refl
order_later (c ∷ cs) [] h = absurd (true≢false (sym h))
order_later (c ∷ cs) (d ∷ ds) h = go (order_cases c d (in_order cs ds) h) (order_later cs ds)
  where
    more : c ≡ d → Later cs ds → Later (c ∷ cs) (d ∷ ds)
    more e (inl x) = inl (ap₂ (λ (a : ℕ) (as' : List ℕ). a ∷ as') e x)
    more e (inr x) = inr (lex_tail c d cs ds e x)

    go : (c < d) ⊎ ((c ≡ d) × (in_order cs ds ≡ true)) → (in_order cs ds ≡ true → Later cs ds) → Later (c ∷ cs) (d ∷ ds)
    go (inl a) ih = inr (lex_head c d cs ds a)
    go (inr a) ih = more a.0 (ih a.1)

before_order : (cs ds : List ℕ) → is_before cs ds ≡ true → in_order cs ds ≡ true
before_order [] ds h = refl
before_order (c ∷ cs) [] h = absurd (true≢false (sym h))
before_order (c ∷ cs) (d ∷ ds) h = go (lex_cases c d cs ds h) (before_order cs ds)
  where
    go : (c < d) ⊎ ((c ≡ d) × (is_before cs ds ≡ true)) → (is_before cs ds ≡ true → in_order cs ds ≡ true) → (nat_lt c d || (nat_eq c d && in_order cs ds)) ≡ true
    go (inl a) ih = order_head c d (in_order cs ds) a
    go (inr a) ih = order_tail c d (in_order cs ds) a.0 (ih a.1)

-- if the order holds, the test passes
pub later_order : (cs ds : List ℕ) → Later cs ds → in_order cs ds ≡ true
later_order cs ds (inl e) = subst (λ (x : List ℕ). in_order cs x ≡ true) e (order_self cs)
later_order cs ds (inr h) = before_order cs ds h

abbrev with_counters : List ℕ → Time
with_counters cs = record { epoch = 0; counters = cs }

pub later_trans : (as' bs cs : List ℕ) → Later as' bs → Later bs cs → Later as' cs
later_trans as' bs cs h k =
    (at_most_trans (with_counters as') (with_counters bs) (with_counters cs) (record { epochs = omega arith; counters = h }) (record { epochs = omega arith; counters = k })).counters

-- an action keeps the order of counters
pub later_after : (a : Action) (cs ds : List ℕ) → length cs ≡ length ds → Later cs ds → Later (counters_after a cs) (counters_after a ds)
later_after a cs ds l h = (at_most_after a (with_counters cs) (with_counters ds) l (record { epochs = omega arith; counters = h })).counters

-- after equal counters
pub later_behind : (xs cs ds : List ℕ) → Later cs ds → Later (xs ++ cs) (xs ++ ds)
later_behind [] cs ds h = h
later_behind (x ∷ xs) cs ds h = go (later_behind xs cs ds h)
  where
    go : Later (xs ++ cs) (xs ++ ds) → Later (x ∷ (xs ++ cs)) (x ∷ (xs ++ ds))
    go (inl e) = inl (ap (λ (l : List ℕ). x ∷ l) e)
    go (inr e) = inr (lex_tail x x (xs ++ cs) (xs ++ ds) refl e)

-- an action does to a time what it does to its counters
pub after_is : (a : Action) (t : Time) → after_action a t ≡ record { epoch = t.epoch; counters = counters_after a t.counters }
after_is Action.stay t = refl
after_is Action.enter t = refl
after_is Action.leave t = refl
after_is Action.next t = refl

-- whether an entry covers, in terms of the test
pub covers_in : (a : Action) (t u : Time) (f : Summary) (b : Bool) → t.epoch ≤ u.epoch → b ≡ in_order (counters_after a (carried f t.counters)) u.counters → Decides b (Covers (Some f) a t u)
covers_in a t u f b h e = (
  λ m. record { epochs = h; least = f; known = refl; counters = order_later (counters_after a (carried f t.counters)) u.counters (sym e ∙ m) },
  λ c. e ∙ later_order (counters_after a (carried f t.counters)) u.counters
      (subst (λ (g : Summary). Later (counters_after a (carried g t.counters)) u.counters) (same_Some c.least f (sym c.known)) c.counters),
)
