-- Passes over the edges: how a row progresses, so that it is closed after as many passes as there are vertices.
use Rattle.std.proofs.Common.{◌≡◌, ◌⊎◌, inl, inr, ℕ, zero, suc, ◌≤◌, ◌<◌, nat_eq, Bool, true, false, cond, List, length, Option, Some, None, slice_get, slice_index_or, refl, sym, ap, subst, ◌∙◌, arith}
use Rattle.std.proofs.lemmas.Bool.{true≢false, eqb-true, eq-eqb}
use Rattle.std.proofs.Math.Bool.{Bool-set}
use Rattle.std.proofs.Math.Bridge.{le_prop}
use Rattle.std.proofs.Math.Logic.{∥∥₁_elim}
use Rattle.semantics.specs.Time.{Action}
use Rattle.semantics.specs.Summary.{Summary, then_action}
use Rattle.semantics.proofs.PathSummaries.{MayTake, may_take}
use Rattle.path_summary.specs.Order.{in_order}
use Rattle.path_summary.specs.Carried.{identity}
use Rattle.path_summary.specs.Linking.{Link, Links}
use Rattle.path_summary.specs.Rows.{is_below, entry, HasBelow, IsClosed}
use Rattle.path_summary.specs.Walks.{AreNested, HaveLoops, Walk, every, size, IsOfWalk, HasGot}
use Rattle.path_summary.proofs.WalksAndLoops.{Stands, stands_home, stands_over, order_trans, below_total, below_trans, below_after, start_below, rank_from, rank_over, rank_start, rank_self}

-- ---- sets of vertices

-- a set without one vertex
abbrev pub without : ℕ → (ℕ → Bool) → ℕ → Bool
without z within y = cond (nat_eq y z) false (within y)

without_same : (z : ℕ) (within : ℕ → Bool) (b : Bool) → nat_eq z z ≡ b → cond b false (within z) ≡ true → ⊥
without_same z within true e h = true≢false (sym h)
without_same z within false e h = true≢false (sym (eq-eqb z z refl) ∙ e)

size_same : (z : ℕ) (within : ℕ → Bool) (n : ℕ) → n ≤ z → size (without z within) n ≡ size within n
size_same z within zero l = refl
size_same z within (suc n) l = go (nat_eq n z) refl (size_same z within n (omega arith))
  where
    go : (b : Bool) → nat_eq n z ≡ b → size (without z within) n ≡ size within n → cond (cond b false (within n)) (suc (size (without z within) n)) (size (without z within) n) ≡ cond (within n) (suc (size within n)) (size within n)
    go true e h = absurd (let a = eqb-true n z e in omega arith)
    go false e h = ap (λ m. cond (within n) (suc m) m) h

-- a set without one vertex is smaller by one
size_fewer : (z : ℕ) (within : ℕ → Bool) (n : ℕ) → within z ≡ true → z < n → suc (size (without z within) n) ≡ size within n
size_fewer z within zero w l = absurd (omega arith)
size_fewer z within (suc n) w l = go (nat_eq n z) refl (size_fewer z within n w)
  where
    here : n ≡ z → suc (size (without z within) n) ≡ cond (within n) (suc (size within n)) (size within n)
    here e = ap suc (size_same z within n (omega arith)) ∙ sym (ap (λ b. cond b (suc (size within n)) (size within n)) (ap within e ∙ w))

    more : (b : Bool) → suc (size (without z within) n) ≡ size within n → suc (cond b (suc (size (without z within) n)) (size (without z within) n)) ≡ cond b (suc (size within n)) (size within n)
    more true h = ap suc h
    more false h = h

    less : nat_eq n z ≡ false → (z < n) ⊎ (n ≡ z) → z < n
    less e (inl a) = a
    less e (inr a) = absurd (true≢false (sym (eq-eqb n z a) ∙ e))

    cases : (z < n) ⊎ (n ≡ z)
    cases = grind arith

    go : (b : Bool) → nat_eq n z ≡ b → (z < n → suc (size (without z within) n) ≡ size within n) → suc (cond (cond b false (within n)) (suc (size (without z within) n)) (size (without z within) n)) ≡ cond (within n) (suc (size within n)) (size within n)
    go true e h = here (eqb-true n z e)
    go false e h = more (within n) (h (less e cases))

size_every : (n : ℕ) → size every n ≡ n
size_every zero = refl
size_every (suc n) = ap suc (size_every n)

-- a set with one of the first vertices is not empty
size_some : (z : ℕ) (within : ℕ → Bool) (n : ℕ) → within z ≡ true → z < n → 0 < size within n
size_some z within n w l = let e = size_fewer z within n w l in omega arith

-- ---- walks

module _ (w : Links) (loops : ℕ → List ℕ) (nested : AreNested w loops) (v : ℕ) (known : v < length w.depths) where
  abbrev home : Summary
  home = identity (slice_index_or w.depths v 0)

  home_stands : Stands loops v v (identity (slice_index_or w.depths v 0))
  home_stands = stands_home loops v (slice_index_or w.depths v 0) (nested.homes v known)

  pub walk_stands : (within : ℕ → Bool) (n x : ℕ) (f : Summary) → Walk w v within n x f → Stands loops v x f
  walk_stands within zero x f h = subst (λ (y : ℕ). Stands loops v y f) (sym h.0) (subst (Stands loops v v) (sym h.1) home_stands)
  walk_stands within (suc n) x f h =
      let k = h.1 in
      let s = stands_over loops v k.source k.target k.acts (nested.goes h.0 k h.3) h.2 (walk_stands within n k.source h.2 h.4) in
      subst (λ (y : ℕ). Stands loops v y f) (sym h.5) (subst (Stands loops v k.target) (sym h.6) s)

  walk_within : (within : ℕ → Bool) (n x : ℕ) (f : Summary) → Walk w v within n x f → within x ≡ true
  walk_within within zero x f h = h.2
  walk_within within (suc n) x f h = h.7

  walk_known : (within : ℕ → Bool) (n x : ℕ) (f : Summary) → Walk w v within n x f → x < length w.depths
  walk_known within zero x f h = let e = h.0 in omega arith
  walk_known within (suc n) x f h = let e = h.5 in let l = nested.into h.0 h.1 h.3 in omega arith

  pub walk_size : (within : ℕ → Bool) (n x : ℕ) (f : Summary) → Walk w v within n x f → 0 < size within (length w.depths)
  walk_size within n x f h = size_some x within (length w.depths) (walk_within within n x f h) (walk_known within n x f h)

  -- how a walk reaches z for the first time
  data Comes (within : ℕ → Bool) (z : ℕ) (f : Summary) : Type 0 where
    at_home : z ≡ v → f ≡ identity (slice_index_or w.depths v 0) → Comes within z f
    over : (e : ℕ) (k : Link) (g : Summary) (n : ℕ) → slice_get w.edges e ≡ Some k → Walk w v (without z within) n k.source g → z ≡ k.target → f ≡ then_action k.acts g → Comes within z f

  -- the walk to x reaches z, first with f, and rises from there
  record First (within : ℕ → Bool) (z x : ℕ) (h : Summary) : Type 0 where
    least : Summary
    comes : Comes within z least
    stands : Stands loops v z least
    rises : in_order (rank_from loops v z least) (rank_from loops v x h) ≡ true

  -- the walk reaches z, or it does not
  split : (within : ℕ → Bool) (z n x : ℕ) (f : Summary) → Walk w v within n x f → Walk w v (without z within) n x f ⊎ First within z x f
  split within z zero x f h = go (nat_eq x z) refl
    where
      go : (b : Bool) → nat_eq x z ≡ b → ((x ≡ v) × (f ≡ identity (slice_index_or w.depths v 0)) × (cond b false (within x) ≡ true)) ⊎ First within z x f
      go true e =
          let q = eqb-true x z e in
          inr (record {
            least = f;
            comes = Comes.at_home (sym q ∙ h.0) h.1;
            stands = subst (λ (y : ℕ). Stands loops v y f) q (walk_stands within zero x f h);
            rises = subst (λ (y : ℕ). in_order (rank_from loops v y f) (rank_from loops v x f) ≡ true) q (rank_self loops v x f);
          })
      go false e = inl (h.0, h.1, h.2)
  split within z (suc n) x f h = go (split within z n h.1.source h.2 h.4)
    where
      up : Stands loops v h.1.source h.2 → in_order (rank_from loops v h.1.source h.2) (rank_from loops v x f) ≡ true
      up s =
          subst (λ (y : ℕ). in_order (rank_from loops v h.1.source h.2) (rank_from loops v y f) ≡ true) (sym h.5)
          (subst (λ (z' : Summary). in_order (rank_from loops v h.1.source h.2) (rank_from loops v h.1.target z') ≡ true) (sym h.6)
          (rank_over loops v h.1.source h.1.target h.1.acts (nested.goes h.0 h.1 h.3) h.2 s))

      here : Walk w v (without z within) n h.1.source h.2 → (b : Bool) → nat_eq x z ≡ b
          → ((e : ℕ) × (k : Link) × (g : Summary) × (slice_get w.edges e ≡ Some k) × Walk w v (without z within) n k.source g × (x ≡ k.target) × (f ≡ then_action k.acts g) × (cond b false (within x) ≡ true)) ⊎ First within z x f
      here a true e =
          let q = eqb-true x z e in
          inr (record {
            least = f;
            comes = Comes.over h.0 h.1 h.2 n h.3 a (sym q ∙ h.5) h.6;
            stands = subst (λ (y : ℕ). Stands loops v y f) q (walk_stands within (suc n) x f h);
            rises = subst (λ (y : ℕ). in_order (rank_from loops v y f) (rank_from loops v x f) ≡ true) q (rank_self loops v x f);
          })
      here a false e = inl (h.0, h.1, h.2, h.3, a, h.5, h.6, h.7)

      go : Walk w v (without z within) n h.1.source h.2 ⊎ First within z h.1.source h.2
          → ((e : ℕ) × (k : Link) × (g : Summary) × (slice_get w.edges e ≡ Some k) × Walk w v (without z within) n k.source g × (x ≡ k.target) × (f ≡ then_action k.acts g) × (cond (nat_eq x z) false (within x) ≡ true)) ⊎ First within z x f
      go (inl a) = here a (nat_eq x z) refl
      go (inr a) = inr (record {
        least = a.least;
        comes = a.comes;
        stands = a.stands;
        rises = order_trans (rank_from loops v z a.least) (rank_from loops v h.1.source h.2) (rank_from loops v x f) a.rises (up (walk_stands within n h.1.source h.2 h.4));
      })

  -- ---- a pass

  stands_of : (b x : ℕ) (f : Summary) → IsOfWalk w v b x f → Stands loops v x f
  stands_of b x f o = walk_stands every o.steps x f o.walk

  has_on : (row : List (Option Summary)) (b x : ℕ) (f h : Summary) → ((x : ℕ) (f : Summary) → entry row x ≡ Some f → IsOfWalk w v b x f) → HasBelow row x f → Stands loops v x f → Stands loops v x h → is_below f h ≡ true → HasBelow row x h
  has_on row b x f h of a s t l = record { least = a.least; known = a.known; below = below_trans loops v x a.least f h (stands_of b x a.least (of x a.least a.known)) s t a.below l }

  -- if each entry's next steps are there, the row is one pass further
  pub passed : (b c m : ℕ) (old new : List (Option Summary)) → HasGot w v b m old → ((x : ℕ) (f : Summary) → entry new x ≡ Some f → IsOfWalk w v c x f)
      → HasBelow new v (identity (slice_index_or w.depths v 0))
      → ((e : ℕ) (k : Link) (f : Summary) → slice_get w.edges e ≡ Some k → entry old k.source ≡ Some f → HasBelow new k.target (then_action k.acts f))
      → (within : ℕ → Bool) → size within (length w.depths) ≤ suc m → (n x : ℕ) (f : Summary) → Walk w v within n x f → HasBelow new x f
  passed b c m old new got of self done within l n x f walk = go (split within x n x f walk)
    where
      come : (z : Summary) → Comes within x z → HasBelow new x z
      come z (Comes.at_home q e) = subst (λ (y : ℕ). HasBelow new y z) (sym q) (subst (λ (s : Summary). HasBelow new v s) (sym e) self)
      come z (Comes.over e k g i h a q is) =
          let fewer = size_fewer x within (length w.depths) (walk_within within n x f walk) (walk_known within n x f walk) in
          let low = got.ahead (without x within) (omega arith) i k.source g a in
          let goes = nested.goes e k h in
          let s = stands_of b k.source low.least (got.of_walks k.source low.least low.known) in
          let t = walk_stands (without x within) i k.source g a in
          let s' = stands_over loops v k.source k.target k.acts goes low.least s in
          let t' = stands_over loops v k.source k.target k.acts goes g t in
          let next = has_on new c k.target (then_action k.acts low.least) (then_action k.acts g) of (done e k low.least h low.known) s' t'
          (start_below loops v k.target (then_action k.acts low.least) (then_action k.acts g) s' t' (below_after loops v k.source k.target k.acts goes low.least g s t low.below)) in
          subst (λ (y : ℕ). HasBelow new y z) (sym q) (subst (λ (y : Summary). HasBelow new k.target y) (sym is) next)

      go : Walk w v (without x within) n x f ⊎ First within x x f → HasBelow new x f
      go (inl a) = absurd (without_same x within (nat_eq x x) refl (walk_within (without x within) n x f a))
      go (inr a) =
          let t = walk_stands within n x f walk in
          has_on new c x a.least f of (come a.least a.comes) a.stands t (rank_start loops v x a.least f a.stands t a.rises)

-- ---- for any loops

-- whether there is an entry at or below f
abbrev below_at : Option Summary → Summary → Bool
below_at None f = false
below_at (Some g) f = is_below g f

has_told : (row : List (Option Summary)) (x : ℕ) (f : Summary) → HasBelow row x f → below_at (entry row x) f ≡ true
has_told row x f h = ap (λ (o : Option Summary). below_at o f) h.known ∙ h.below

told_has : (row : List (Option Summary)) (x : ℕ) (f : Summary) → below_at (entry row x) f ≡ true → HasBelow row x f
told_has row x f h = go (entry row x) refl h
  where
    go : (o : Option Summary) → entry row x ≡ o → below_at o f ≡ true → HasBelow row x f
    go None e h = absurd (true≢false (sym h))
    go (Some g) e h = record { least = g; known = e; below = h }

module _ (w : Links) (some : ∥ HaveLoops w ∥₁) (v : ℕ) (known : v < length w.depths) where
  pub has_by : (row : List (Option Summary)) (x : ℕ) (f : Summary) → (HaveLoops w → HasBelow row x f) → HasBelow row x f
  has_by row x f h = told_has row x f (∥∥₁_elim some (Bool-set (below_at (entry row x) f) true) (λ l. has_told row x f (h l)))

  pub stands_by : (l : HaveLoops w) (b x : ℕ) (f : Summary) → IsOfWalk w v b x f → Stands l.loops v x f
  stands_by l b x f o = stands_of w l.loops l.nested v known b x f o

  pub may_by : (b e : ℕ) (k : Link) (f : Summary) → slice_get w.edges e ≡ Some k → IsOfWalk w v b k.source f → MayTake k.acts f
  may_by b e k f h o = go k.acts refl
    where
      from : (l : HaveLoops w) → MayTake k.acts f
      from l = may_take l.loops k.source k.target k.acts (l.nested.goes e k h) f (stands_by l b k.source f o).long

      go : (a : Action) → k.acts ≡ a → MayTake a f
      go Action.stay q = tt
      go Action.enter q = tt
      go Action.leave q = ∥∥₁_elim some (λ a b. le_prop a b) (λ l. subst (λ (a : Action). MayTake a f) q (from l))
      go Action.next q = ∥∥₁_elim some (λ a b. le_prop a b) (λ l. subst (λ (a : Action). MayTake a f) q (from l))

  pub trans_by : (b c d x : ℕ) (f h k : Summary) → IsOfWalk w v b x f → IsOfWalk w v c x h → IsOfWalk w v d x k → is_below f h ≡ true → is_below h k ≡ true → is_below f k ≡ true
  trans_by b c d x f h k o p q m n = ∥∥₁_elim some (Bool-set (is_below f k) true) (λ l. below_trans l.loops v x f h k (stands_by l b x f o) (stands_by l c x h p) (stands_by l d x k q) m n)

  pub total_by : (b c x : ℕ) (f h : Summary) → IsOfWalk w v b x f → IsOfWalk w v c x h → is_below f h ≡ false → is_below h f ≡ true
  total_by b c x f h o p n = ∥∥₁_elim some (Bool-set (is_below h f) true) (λ l. go (below_total l.loops v x f h (stands_by l b x f o) (stands_by l c x h p)))
    where
      go : (is_below f h ≡ true) ⊎ (is_below h f ≡ true) → is_below h f ≡ true
      go (inl a) = absurd (true≢false (sym a ∙ n))
      go (inr a) = a

  pub after_by : (b c e : ℕ) (k : Link) (f h : Summary) → slice_get w.edges e ≡ Some k → IsOfWalk w v b k.source f → IsOfWalk w v c k.source h → is_below f h ≡ true → is_below (then_action k.acts f) (then_action k.acts h) ≡ true
  after_by b c e k f h q o p n = ∥∥₁_elim some (Bool-set (is_below (then_action k.acts f) (then_action k.acts h)) true) (λ l. go l)
    where
      go : HaveLoops w → is_below (then_action k.acts f) (then_action k.acts h) ≡ true
      go l =
          let goes = l.nested.goes e k q in
          let s = stands_by l b k.source f o in
          let t = stands_by l c k.source h p in
          start_below l.loops v k.target (then_action k.acts f) (then_action k.acts h) (stands_over l.loops v k.source k.target k.acts goes f s) (stands_over l.loops v k.source k.target k.acts goes h t)
          (below_after l.loops v k.source k.target k.acts goes f h s t n)

  -- one edge further
  pub walk_on : (b e : ℕ) (k : Link) (f : Summary) → slice_get w.edges e ≡ Some k → IsOfWalk w v b k.source f → IsOfWalk w v (suc b) k.target (then_action k.acts f)
  walk_on b e k f h o = record { steps = suc o.steps; few = let l = o.few in omega arith; walk = (e, k, f, h, o.walk, refl, refl, refl) }

  -- if the next steps of all entries are there, the row is closed
  pub closed_by : (b : ℕ) (row : List (Option Summary)) → ((x : ℕ) (f : Summary) → entry row x ≡ Some f → IsOfWalk w v b x f)
      → ((e : ℕ) (k : Link) (f : Summary) → slice_get w.edges e ≡ Some k → entry row k.source ≡ Some f → HasBelow row k.target (then_action k.acts f)) → IsClosed w row
  closed_by b row of done = record { steps = λ e k h. record { step = λ f q. (may_by b e k f h (of k.source f q), done e k f h q) } }

  -- after as many passes as there are vertices, the row is closed
  pub closed_last : (b : ℕ) (row : List (Option Summary)) → HasGot w v b (length w.depths) row → IsClosed w row
  closed_last b row got = closed_by b row got.of_walks (λ e k f h q. go e k f h (got.of_walks k.source f q))
    where
      go : (e : ℕ) (k : Link) (f : Summary) → slice_get w.edges e ≡ Some k → IsOfWalk w v b k.source f → HasBelow row k.target (then_action k.acts f)
      go e k f h o = let n = size_every (length w.depths) in got.ahead every (omega arith) (suc o.steps) k.target (then_action k.acts f) (e, k, f, h, o.walk, refl, refl, refl)
