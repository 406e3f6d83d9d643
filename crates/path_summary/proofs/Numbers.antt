-- The numbers of a walk's summary are at most its number of edges, so there is room for one more action.
use Rattle.std.proofs.Common.{◌≡◌, ℕ, zero, suc, ◌≤◌, ◌<◌, List, [], ◌∷◌, ◌++◌, length, Some, slice_get, refl, sym, ap, subst, ◌∙◌, arith, length-append}
use Rattle.std.proofs.Math.Bridge.{le_prop}
use Rattle.std.proofs.Math.Logic.{∥∥₁_elim}
use Rattle.semantics.specs.Dataflow.{Goes}
use Rattle.semantics.specs.Time.{Action, last, last_from, front_from}
use Rattle.semantics.specs.Limits.{max_loops}
use Rattle.semantics.specs.Summary.{Summary, left_by, turned_by, then_action}
use Rattle.semantics.proofs.PathSummaries.{MayTake}
use Rattle.path_summary.specs.Linking.{Link, Links}
use Rattle.path_summary.specs.Rows.{HasRoom}
use Rattle.path_summary.specs.Walks.{HaveLoops, Walk, every, IsOfWalk}
use Rattle.path_summary.proofs.Passes.{may_by, stands_by}

-- each number is at most n
abbrev AreAtMost : ℕ → List ℕ → Type 0
AreAtMost n [] = Unit {0}
AreAtMost n (c ∷ cs) = (c ≤ n) × AreAtMost n cs

at_most_more : (n m : ℕ) (cs : List ℕ) → n ≤ m → AreAtMost n cs → AreAtMost m cs
at_most_more n m [] l h = tt
at_most_more n m (c ∷ cs) l h = (let a = h.0 in omega arith, at_most_more n m cs l h.1)

at_most_push : (n c : ℕ) (cs : List ℕ) → c ≤ n → AreAtMost n cs → AreAtMost n (cs ++ (c ∷ []))
at_most_push n c [] l h = (l, tt)
at_most_push n c (d ∷ cs) l h = (h.0, at_most_push n c cs l h.1)

at_most_front : (n c : ℕ) (cs : List ℕ) → AreAtMost n (c ∷ cs) → AreAtMost n (front_from c cs)
at_most_front n c [] h = tt
at_most_front n c (d ∷ cs) h = (h.0, at_most_front n d cs h.1)

at_most_last : (n c : ℕ) (cs : List ℕ) → AreAtMost n (c ∷ cs) → last_from c cs ≤ n
at_most_last n c [] h = h.0
at_most_last n c (d ∷ cs) h = at_most_last n d cs h.1

-- no number of the summary is above n
record IsSmall (n : ℕ) (f : Summary) : Type 0 where
  add : f.add ≤ n
  tail : AreAtMost n f.tail

small_then : (n : ℕ) (a : Action) (f : Summary) → IsSmall n f → IsSmall (suc n) (then_action a f)
small_then n Action.stay f s = record { add = let l = s.add in omega arith; tail = at_most_more n (suc n) f.tail (omega arith) s.tail }
small_then n Action.enter f s = record { add = let l = s.add in omega arith; tail = at_most_push (suc n) 0 f.tail (omega arith) (at_most_more n (suc n) f.tail (omega arith) s.tail) }
small_then n Action.leave f s = go f.tail s.tail
  where
    go : (tail : List ℕ) → AreAtMost n tail → IsSmall (suc n) (left_by tail f)
    go [] h = record { add = omega arith; tail = tt }
    go (c ∷ cs) h = record { add = let l = s.add in omega arith; tail = at_most_more n (suc n) (front_from c cs) (omega arith) (at_most_front n c cs h) }
small_then n Action.next f s = go f.tail refl s.tail
  where
    go : (tail : List ℕ) → f.tail ≡ tail → AreAtMost n tail → IsSmall (suc n) (turned_by tail f)
    go [] q h = record { add = let l = s.add in omega arith; tail = subst (AreAtMost (suc n)) (sym q) tt }
    go (c ∷ cs) q h = record {
      add = let l = s.add in omega arith;
      tail = at_most_push (suc n) (suc (last_from c cs)) (front_from c cs) (let l = at_most_last n c cs h in omega arith) (at_most_more n (suc n) (front_from c cs) (omega arith) (at_most_front n c cs h));
    }

walk_small : (w : Links) (v n x : ℕ) (f : Summary) → Walk w v every n x f → IsSmall n f
walk_small w v zero x f h = subst (IsSmall 0) (sym h.1) (record { add = omega arith; tail = tt })
walk_small w v (suc n) x f h = subst (IsSmall (suc n)) (sym h.6) (small_then n h.1.acts h.2 (walk_small w v n h.1.source h.2 h.4))

module _ (w : Links) (some : ∥ HaveLoops w ∥₁) (v : ℕ) (known : v < length w.depths) where
  places : (l : HaveLoops w) (b e : ℕ) (k : Link) (f : Summary) → slice_get w.edges e ≡ Some k → IsOfWalk w v b k.source f → k.acts ≡ Action.enter → length f.tail < max_loops
  places l b e k f h o q = go k.acts q (l.nested.goes e k h)
    where
      deep : length (l.loops k.target) ≤ max_loops
      deep = let n = l.nested.into e k h in omega (arith, l.nested.homes k.target n, l.nested.shallow k.target n)

      never : {X : Type 0} → (a b : Action) → a ≡ Action.enter → a ≡ b → (b ≡ Action.enter → ⊥) → X
      never a b p q r = absurd (r (sym q ∙ p))

      go : (a : Action) → a ≡ Action.enter → Goes l.loops k.source k.target a → length f.tail < max_loops
      go a q (Goes.same_loop e m) = absurd (let p = q in cc)
      go a q (Goes.into_loop e p m) = let s = stands_by w some v known l b k.source f o in omega (arith, s.long, deep, ap length p, length-append (l.loops k.source) (e ∷ []))
      go a q (Goes.out_of_loop p m) = absurd (let p = q in cc)
      go a q (Goes.round_loop e m) = absurd (let p = q in cc)

  -- there is room for what an edge adds to a walk's summary
  pub room_by : (b e : ℕ) (k : Link) (f : Summary) → b < 1000000000 → slice_get w.edges e ≡ Some k → IsOfWalk w v b k.source f → HasRoom k.acts f
  room_by b e k f n h o = go k.acts refl (may_by w some v known b e k f h o)
    where
      small : IsSmall b f
      small =
          let s = walk_small w v o.steps k.source f o.walk in
          let l = o.few in
          record { add = let a = s.add in omega arith; tail = at_most_more o.steps b f.tail l s.tail }

      last_small : (cs : List ℕ) → AreAtMost b cs → last cs ≤ b
      last_small [] h = omega arith
      last_small (c ∷ cs) h = at_most_last b c cs h

      go : (a : Action) → k.acts ≡ a → MayTake a f → HasRoom a f
      go Action.stay q m = tt
      go Action.enter q m = ∥∥₁_elim some (λ a b. le_prop a b) (λ l. places l b e k f h o q)
      go Action.leave q m = m
      go Action.next q m = let s = small in (m, (let a = s.add in omega arith), (let a = last_small f.tail s.tail in omega arith))
