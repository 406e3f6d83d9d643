-- A map of states by time, with one state written.
use Rattle.std.proofs.Common.{◌≡◌, ℕ, nat_eq, ◌==◌, Bool, true, false, cond, ◌&&◌, List, [], ◌++◌, Some, None, refl, sym, ap, subst, append-nil}
use Rattle.std.proofs.lemmas.Bool.{true≢false}
use mathlib.Core.Path.{fun_ext}
use Rattle.std.specs.Cmp.Lexicographic.{pointwise, pointwise_decides}
use Rattle.std.proofs.lemmas.Bool.Decides.{Decides-eqb}
use Rattle.indexmap.specs.IndexMap.{IndexMap, get}
use Rattle.semantics.specs.Multiset.{Record}
use Rattle.semantics.specs.Time.{Time, same_time}
use Rattle.semantics.specs.Shard.{Absorbed, with_records}
use Rattle.vertices.specs.ByTime.{IsStateOf, AreStatesOf, Forgets}

both_true : (x y : Bool) → x && y ≡ true → (x ≡ true) × (y ≡ true)
both_true true y e = (refl, e)
both_true false y e = (e, absurd (true≢false (sym e)))

pub one_time : (t u : Time) → same_time t u ≡ true → t ≡ u
one_time t u e =
    let both = both_true (nat_eq t.epoch u.epoch) (pointwise nat_eq t.counters u.counters) e in
    let a : t.epoch ≡ u.epoch = (Decides-eqb t.epoch u.epoch).0 both.0 in
    let b : t.counters ≡ u.counters = (pointwise_decides (λ x y. Decides-eqb x y) t.counters u.counters).0 both.1 in
    (λ j. record { epoch = a j; counters = b j })

module _ {S H : Type 0} (m : IndexMap Time S H) (time : Time) (P : S → (ℕ → List Record) → Type 0) (a : Absorbed) where
  -- what is found at a time
  pub state_there : (s : S) → get same_time m time ≡ Some s → AreStatesOf P m a → P s (λ p. a p time)
  state_there s e h = subst (λ o. IsStateOf P o (λ p. a p time)) e (h time)

  pub none_there : get same_time m time ≡ None → AreStatesOf P m a → (p : ℕ) → a p time ≡ []
  none_there e h = subst (λ o. IsStateOf P o (λ p. a p time)) e (h time)

  -- what is so of no records, where there is no state
  pub so_of_none : (Q : (ℕ → List Record) → Type 0) → get same_time m time ≡ None → AreStatesOf P m a → Q (λ p. []) → Q (λ p. a p time)
  so_of_none Q e h made = subst Q (fun_ext (λ p. sym (none_there e h p))) made

  -- a state that is made where there is none
  pub state_made : (s : S) → get same_time m time ≡ None → AreStatesOf P m a → P s (λ p. []) → P s (λ p. a p time)
  state_made s e h made = so_of_none (P s) e h made

module _ {S H : Type 0} (m n : IndexMap Time S H) (time : Time) (v : S) (e : (t : Time) → get same_time n t ≡ cond (same_time time t) (Some v) (get same_time m t)) where
  -- the states of one time more
  pub states_more : (P : S → (ℕ → List Record) → Type 0) (a : Absorbed) (port : ℕ) (batch : List Record) → AreStatesOf P m a → P v (λ p. a p time ++ cond (port == p) batch []) → AreStatesOf P n (with_records a port time batch)
  states_more P a port batch h now t = subst (λ o. IsStateOf P o (λ p. with_records a port time batch p t)) (sym (e t)) (go (same_time time t) refl)
    where
      unchanged : (p : ℕ) (b : Bool) → a p t ≡ a p t ++ cond b [] []
      unchanged p true = sym (append-nil (a p t))
      unchanged p false = sym (append-nil (a p t))

      go : (b : Bool) → same_time time t ≡ b → IsStateOf P (cond b (Some v) (get same_time m t)) (λ p. a p t ++ cond (port == p) (cond b batch []) [])
      go true s = subst (λ u. P v (λ p. a p u ++ cond (port == p) batch [])) (one_time time t s) now
      go false s = subst (IsStateOf P (get same_time m t)) (fun_ext (λ p. unchanged p (port == p))) (h t)

-- without what came at a time
pub without : Time → Absorbed → Absorbed
without time a p t = cond (same_time time t) [] (a p t)

module _ {S H : Type 0} (m n : IndexMap Time S H) (time : Time) (e : (t : Time) → get same_time n t ≡ cond (same_time time t) None (get same_time m t)) where
  -- the state of a time is let go
  pub states_forgotten : (P : S → (ℕ → List Record) → Type 0) → Forgets (AreStatesOf P m) (AreStatesOf P n) time
  unfolding without
  states_forgotten P a h = (without time a, (λ t. subst (λ o. IsStateOf P o (λ p. cond (same_time time t) [] (a p t))) (sym (e t)) (go t (same_time time t))), (λ u s p. ap (λ b. cond b [] (a p u)) s))
    where
      go : (t : Time) (b : Bool) → IsStateOf P (cond b None (get same_time m t)) (λ p. cond b [] (a p t))
      go t true = λ p. refl
      go t false = h t
