-- A state of records is a state of the same records in any other order.
use Rattle.std.proofs.Common.{◌≡◌, ℕ, ◌<◌, List, [], ◌∷◌, length, Some, None, refl, ap, arith}
use Rattle.std.specs.Prelude.{Option}
use Rattle.indexmap.specs.IndexMap.{IndexMap, get}
use Rattle.rows.specs.Counts.{RunList}
use Rattle.semantics.specs.Multiset.{Record, count, ◌≈◌}
use Rattle.semantics.specs.Time.{Time, same_time}
use Rattle.semantics.specs.Shard.{Absorbed}
use Rattle.semantics.proofs.MultisetSums.{count_here, ≈-trans}
use Rattle.vertices.specs.ByTime.{AreStatesOf, IsStateOf}
use Rattle.vertices.specs.Joins.{IsSideOf, IsSidesOf}
use Rattle.vertices.specs.Piles.{Piled, IsPileThen}
use Rattle.vertices.specs.States.{IsSetOf}
use Rattle.vertices.specs.declared.join_plan.JoinPlan.{JoinPlan}
use Rattle.vertices.specs.declared.sides.Side.{Side}
use Rattle.vertices.specs.declared.sides.Sides.{Sides}

pub nothing_same : (xs ys : List Record) → xs ≈ ys → xs ≡ [] → ys ≡ []
nothing_same xs [] e n = refl
nothing_same xs (y ∷ ys) e n = let k = ap (count y) n in absurd (omega (arith, k, e.counts y, count_here y ys))

pub some_same : (xs ys : List Record) → xs ≈ ys → 0 < length xs → 0 < length ys
some_same [] ys e h = absurd (omega (arith, h))
some_same (x ∷ xs) [] e h = absurd (omega (arith, e.counts x, count_here x xs))
some_same (x ∷ xs) (y ∷ ys) e h = omega arith

-- the records are the same at each port and time
pub states_same : {S H : Type 0} (P : S → (ℕ → List Record) → Type 0) → ((s : S) (f g : ℕ → List Record) → ((p : ℕ) → f p ≈ g p) → P s f → P s g) → (m : IndexMap Time S H) (a b : Absorbed) → ((p : ℕ) (t : Time) → a p t ≈ b p t) → AreStatesOf P m a → AreStatesOf P m b
states_same {S = S} P same m a b e h t = go (get same_time m t) (h t)
  where
    go : (o : Option S) → IsStateOf P o (λ p. a p t) → IsStateOf P o (λ p. b p t)
    go None n = λ p. nothing_same (a p t) (b p t) (e p t) (n p)
    go (Some s) now = same s (λ p. a p t) (λ p. b p t) (λ p. e p t) now

-- of a distinct
set_same : (n : ℕ) (tally : RunList) (f g : ℕ → List Record) → ((p : ℕ) → f p ≈ g p) → IsSetOf n tally f → IsSetOf n tally g
set_same n tally f g e h = (h.0, ≈-trans h.1 (e 0))

pub distinct_same_states : {H : Type 0} (n : ℕ) (m : IndexMap Time RunList H) (a b : Absorbed) → ((p : ℕ) (t : Time) → a p t ≈ b p t) → AreStatesOf (IsSetOf n) m a → AreStatesOf (IsSetOf n) m b
distinct_same_states n m a b e h = states_same (IsSetOf n) (set_same n) m a b e h

-- of a group
pub group_same_states : {H : Type 0} (n : ℕ) (m : IndexMap Time Piled H) (a b : Absorbed) → ((p : ℕ) (t : Time) → a p t ≈ b p t) → AreStatesOf (IsPileThen n) m a → AreStatesOf (IsPileThen n) m b
group_same_states n m a b e h = states_same (IsPileThen n) (λ pile f g s k. ((k.0.0, ≈-trans k.0.1 (s 0)), some_same (f 0) (g 0) (s 0) k.1)) m a b e h

-- of a join
side_same : (plan : JoinPlan) (port : ℕ) (side : Side) (xs ys : List Record) → xs ≈ ys → IsSideOf plan port side xs → IsSideOf plan port side ys
side_same plan port side xs ys e h = record { columns = h.columns; arity = h.arity; whole = h.whole; all = ≈-trans h.all e }

sides_same : (plan : JoinPlan) (sides : Sides) (f g : ℕ → List Record) → ((p : ℕ) → f p ≈ g p) → IsSidesOf plan sides f → IsSidesOf plan sides g
sides_same plan sides f g e h = record {
  left = side_same plan 0 sides.left (f 0) (g 0) (e 0) h.left;
  right = side_same plan 1 sides.right (f 1) (g 1) (e 1) h.right;
}

pub join_same_states : {H : Type 0} (plan : JoinPlan) (m : IndexMap Time Sides H) (a b : Absorbed) → ((p : ℕ) (t : Time) → a p t ≈ b p t) → AreStatesOf (IsSidesOf plan) m a → AreStatesOf (IsSidesOf plan) m b
join_same_states plan m a b e h = states_same (IsSidesOf plan) (sides_same plan) m a b e h
