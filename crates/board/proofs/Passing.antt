-- The number of passed epochs.
use Rattle.std.proofs.Common.{◌≡◌, ◌≢◌, ◌⊎◌, inl, inr, ◌<◌, ◌≤◌, ◌+◌, ℕ, zero, suc, ◌==◌, true, false, List, [], ◌∷◌, length, refl, sym, subst, arith, slice_index_or}
use Rattle.std.proofs.lemmas.Bool.Decides.{eqb_tells}
use Rattle.std.proofs.lemmas.Bool.{cases_lt}
use Rattle.semantics.specs.Graph.{Graph, output_number, output_numbers}
use Rattle.semantics.specs.Could.{Pointstamp, IsTimeAt, Location, at_vertex}
use Rattle.semantics.proofs.OutputNumbers.{output_is_there}
use Rattle.semantics.specs.Time.{at_epoch}
use Rattle.graph.specs.Shown.{shown_graph}
use Rattle.machine.specs.World.{World}
use Rattle.machine.specs.Frontier.{PassedBelow, SealedTo, Passed}
use Rattle.machine.proofs.PassedOutputs.{passed_below}
use Rattle.board.specs.Shown.{InputShown, Shown, net, input_at, no_input}
use Rattle.board.specs.Showing.{Shows}
use Rattle.board.specs.Kept.{IsKept}
use Rattle.board.specs.Promises.{CountsPassed, HasPassed, IsOutputPlace}
use Rattle.board.specs.Seals.{AreOutputsIn, HavePassed, IsMostSeals, IsMostSeen, NoneLeft, NoneLeftAtAll}
use Rattle.board.proofs.Counts.{passed_there}
use Rattle.board.proofs.Worlds.{none, none_back}

-- one more epoch
pub passed_next : (P : ℕ → Type 0) (start n : ℕ) → P n → ((e : ℕ) → start ≤ e → e < n → P e) → (e : ℕ) → start ≤ e → e < n + 1 → P e
passed_next P start n here before e l m = go (eqb_tells e n)
  where
    go : ((e == n) ≡ true) × (e ≡ n) ⊎ ((e == n) ≡ false) × (e ≢ n) → P e
    go (inl (t, q)) = subst P (sym q) here
    go (inr (t, q)) = before e l (omega (arith, m, q))

-- there is one greatest number of seals
pub seals_one : (s : Shown) (m n : ℕ) → IsMostSeals s m → IsMostSeals s n → m ≡ n
seals_one s m n a b = let l = below m n a b in let g = below n m b a in omega (arith, l, g)
  where
    below : (m n : ℕ) → IsMostSeals s m → IsMostSeals s n → m ≤ n
    below m n a b = go a.some
      where
        go : (m ≡ 0) ⊎ ((i : ℕ) × (i < length s.inputs) × ((input_at s i).open_epoch ≡ m)) → m ≤ n
        go (inl e) = omega (arith, e)
        go (inr (i, l, e)) = let x = b.most i l in omega (arith, e, x)

-- there is a greatest number of seals
pub most_seals : (s : Shown) → (m : ℕ) × IsMostSeals s m
most_seals s = let r = of s.inputs in (r.0, record { most = r.1; some = r.2 })
  where
    Most : List InputShown → ℕ → Type 0
    Most xs m = (i : ℕ) → i < length xs → (slice_index_or xs i no_input).open_epoch ≤ m

    Some : List InputShown → ℕ → Type 0
    Some xs m = (m ≡ 0) ⊎ ((i : ℕ) × (i < length xs) × ((slice_index_or xs i no_input).open_epoch ≡ m))

    next : (x : InputShown) (xs : List InputShown) (m : ℕ) → Some xs m → 0 < m → Some (x ∷ xs) m
    next x xs m (inl e) l = absurd (omega (arith, e, l))
    next x xs m (inr (i, l, e)) k = inr (suc i, omega (arith, l), e)

    of : (xs : List InputShown) → (m : ℕ) × Most xs m × Some xs m
    of [] = (0, (λ i l. absurd (omega (arith, l))), inl refl)
    of (x ∷ xs) = let r = of xs in go r.0 r.1 r.2 (cases_lt r.0 x.open_epoch)
      where
        go : (m : ℕ) → Most xs m → Some xs m → (m < x.open_epoch) ⊎ (x.open_epoch ≤ m) → (k : ℕ) × Most (x ∷ xs) k × Some (x ∷ xs) k
        go m most some (inl l) = (x.open_epoch, most_here, inr (0, omega arith, refl))
          where
            most_here : Most (x ∷ xs) x.open_epoch
            most_here zero k = omega arith
            most_here (suc i) k = let a = most i (omega (arith, k)) in omega (arith, a, l)
        go zero most some (inr l) = (0, most_here, inl refl)
          where
            most_here : Most (x ∷ xs) 0
            most_here zero k = l
            most_here (suc i) k = most i (omega (arith, k))
        go (suc m) most some (inr l) = (suc m, most_here, next x xs (suc m) some (omega arith))
          where
            most_here : Most (x ∷ xs) (suc m)
            most_here zero k = l
            most_here (suc i) k = most i (omega (arith, k))

module _ (graph : Graph) (content : Pointstamp → ℕ) (s : Shown) (kept : IsKept graph content s) where
  pub outputs_there : AreOutputsIn graph s
  outputs_there k e l =
      let there = output_is_there (shown_graph s.graph) k l in
      let P : Graph → Type 0 = λ g. IsTimeAt g (Location.vertex (output_number (shown_graph s.graph) k)) (at_epoch e) in
      subst P (sym kept.same) (there.0, sym (kept.flows.shaped.flat (output_number (shown_graph s.graph) k) there.0 (inr there.1)))

  pub has_passed : (k e : ℕ) → NoneLeft graph (λ q. 0 < content q) s k e → HasPassed s k e
  has_passed k e h w is = none graph content s kept w is (at_vertex (output_number (shown_graph s.graph) k) (at_epoch e)) h

  pub has_passed_back : (k e : ℕ) → HasPassed s k e → NoneLeft graph (λ q. 0 < content q) s k e
  has_passed_back k e h = none_back graph content s kept kept.world kept.shows (at_vertex (output_number (shown_graph s.graph) k) (at_epoch e)) (h kept.world kept.shows)

  module _ (seals : ℕ) (most : IsMostSeals s seals) where
    sealed_most : (w : World) → Shows s w → (n : ℕ) → n ≤ seals → SealedTo (net s) w n
    sealed_most w is n within = by most.some
      where
        by : (seals ≡ 0) ⊎ ((i : ℕ) × (i < length s.inputs) × ((input_at s i).open_epoch ≡ seals)) → SealedTo (net s) w n
        by (inl e) = inl (omega (arith, e, within))
        by (inr (i, l, e)) = inr (i, (let c = kept.inputs in omega (arith, l, c)), (let o = is.open_epoch i in omega (arith, e, o, within)))

    pub at_most_seals : (w : World) → Shows s w → (n : ℕ) → SealedTo (net s) w n → n ≤ seals
    at_most_seals w is n (inl e) = omega (arith, e)
    at_most_seals w is n (inr (i, l, e)) =
        let o = is.open_epoch i in
        let c = kept.inputs in
        let m = most.most i (omega (arith, l, c)) in
        omega (arith, e, o, m)

    -- A number below which each epoch has passed can be raised over further epochs that have passed.
    pub have_further : (start : ℕ) → HavePassed s start → (n : ℕ) → n ≤ seals → ((e : ℕ) → start ≤ e → e < n → NoneLeftAtAll graph (λ q. 0 < content q) s e) → HavePassed s n
    have_further start before n within passed w is =
        (sealed_most w is n within, (passed_below (shown_graph s.graph) (length s.sides) w n).1 (λ k e l b. at k e l b (cases_lt e start)))
      where
        at : (k e : ℕ) → k < length (output_numbers (shown_graph s.graph)) → e < n → (e < start) ⊎ (start ≤ e) → Passed (net s) w (output_number (shown_graph s.graph) k) e
        at k e l b (inl early) = (passed_below (shown_graph s.graph) (length s.sides) w start).0 (before w is).1 k e l early
        at k e l b (inr late) = has_passed k e (passed e late b k l) w is

    -- If each epoch below n has passed, and some active pointstamp could still result at an output for the epoch n, then n is the number.
    pub counts : (n : ℕ) → HavePassed s n → n ≤ seals → (n < seals → NoneLeftAtAll graph (λ q. 0 < content q) s n → ⊥) → CountsPassed s n
    counts n have within first w is = record {
      sealed = (have w is).0;
      passed = (have w is).1;
      greatest = λ m to all. least m (at_most_seals w is m to) all (cases_lt n m);
    }
      where
        least : (m : ℕ) → m ≤ seals → PassedBelow (net s) w m → (n < m) ⊎ (m ≤ n) → m ≤ n
        least m l all (inr x) = x
        least m l all (inl x) =
            let each = (passed_below (shown_graph s.graph) (length s.sides) w m).0 all in
            absurd (first (omega (arith, l, x)) (λ k there. has_passed_back k n (λ w' is'. passed_there s kept.flows kept.some w w' is is' (output_number (shown_graph s.graph) k) n (each k n there x))))

  -- a number known to have passed is at most the number
  pub known_most : (n : ℕ) → HavePassed s n → (m : ℕ) → CountsPassed s m → n ≤ m
  known_most n have m counts = let h = have kept.world kept.shows in (counts kept.world kept.shows).greatest n h.0 h.1

  pub known_passed : (n : ℕ) → HavePassed s n → (e : ℕ) → e < n → (k : ℕ) → IsOutputPlace s k → HasPassed s k e
  known_passed n have e l k there w is = (passed_below (shown_graph s.graph) (length s.sides) w n).0 (have w is).1 k e there l

  -- where exactly what is active is seen, the seen number is the number
  pub seen_counts : (n : ℕ) (these : Pointstamp → Type 0) → ((q : Pointstamp) → these q → 0 < content q) → HavePassed s n → IsMostSeen graph these s n → CountsPassed s n
  seen_counts n these active have most =
      let seals = most_seals s in
      let m = most seals.0 seals.1 in
      counts seals.0 seals.1 n have m.0 (λ l none. m.1 l (λ k there q is could. none k there q (active q is) could))
