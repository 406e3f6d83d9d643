-- A step over an edge, a pass over all edges, and the passes together.
use Rattle.std.proofs.Common.{◌≡◌, ◌⊎◌, inl, inr, ℕ, zero, suc, ◌+◌, ◌≤◌, ◌<◌, Bool, true, false, List, [], ◌∷◌, length, Option, Some, slice_get, slice_set, slice_index_or, refl, sym, ap, subst, ◌∙◌, arith}
use Rattle.std.proofs.Math.Bridge.{le_prop}
use Rattle.std.proofs.Math.Logic.{∥∥₁_elim}
use Rattle.std.proofs.lemmas.Option.{same_Some, slice_get_within}
use Rattle.semantics.specs.Summary.{Summary, then_action}
use Rattle.semantics.proofs.Cases.{below_or_last}
use Rattle.path_summary.specs.Carried.{identity}
use Rattle.path_summary.specs.Linking.{Link, Links}
use Rattle.path_summary.specs.Rows.{is_below, entry, HasBelow, Follows, Stepped, IsClosed}
use Rattle.path_summary.specs.Walks.{HaveLoops, Walk, size, IsOfWalk, HasGot, HasPassed}
use Rattle.path_summary.proofs.Carrying.{below_self}
use Rattle.path_summary.proofs.RowsMade.{entry_set}
use Rattle.path_summary.proofs.Passes.{has_by, passed, trans_by, total_by, after_by, walk_on, closed_by, walk_size}

-- ---- entries

pub entry_at : (row : List (Option Summary)) (i : ℕ) (o : Option Summary) → i < length row → entry (slice_set row i o) i ≡ o
entry_at [] i o l = absurd (omega arith)
entry_at (r ∷ row) zero o l = refl
entry_at (r ∷ row) (suc i) o l = entry_at row i o (omega arith)

entry_or : (row : List (Option Summary)) (i : ℕ) (o : Option Summary) (x : ℕ) → (entry (slice_set row i o) x ≡ entry row x) ⊎ ((x ≡ i) × (entry (slice_set row i o) x ≡ o))
entry_or [] i o x = inl refl
entry_or (r ∷ row) zero o zero = inr (refl, refl)
entry_or (r ∷ row) zero o (suc x) = inl refl
entry_or (r ∷ row) (suc i) o zero = inl refl
entry_or (r ∷ row) (suc i) o (suc x) = go (entry_or row i o x)
  where
    go : (entry (slice_set row i o) x ≡ entry row x) ⊎ ((x ≡ i) × (entry (slice_set row i o) x ≡ o)) → (entry (slice_set row i o) x ≡ entry row x) ⊎ ((suc x ≡ suc i) × (entry (slice_set row i o) x ≡ o))
    go (inl a) = inl a
    go (inr a) = inr (ap suc a.0, a.1)

pub length-put : (row : List (Option Summary)) (i : ℕ) (o : Option Summary) → length (slice_set row i o) ≡ length row
length-put [] i o = refl
length-put (r ∷ row) zero o = refl
length-put (r ∷ row) (suc i) o = ap suc (length-put row i o)

pub more_steps : (w : Links) (v b c x : ℕ) (f : Summary) → b ≤ c → IsOfWalk w v b x f → IsOfWalk w v c x f
more_steps w v b c x f l o = record { steps = o.steps; few = let k = o.few in omega arith; walk = o.walk }

pub got_more : (w : Links) (v b c m : ℕ) (row : List (Option Summary)) → b ≤ c → HasGot w v b m row → HasGot w v c m row
got_more w v b c m row l got = record {
  long = got.long;
  of_walks = λ x f q. more_steps w v b c x f l (got.of_walks x f q);
  self = got.self;
  ahead = got.ahead;
}

pub got_fewer : (w : Links) (v b m n : ℕ) (row : List (Option Summary)) → n ≤ m → HasGot w v b m row → HasGot w v b n row
got_fewer w v b m n row l got = record {
  long = got.long;
  of_walks = got.of_walks;
  self = got.self;
  ahead = λ within k i x f walk. got.ahead within (omega arith) i x f walk;
}

module _ (w : Links) (some : ∥ HaveLoops w ∥₁) (v : ℕ) (known : v < length w.depths) where
  abbrev pub AreOfWalks : ℕ → List (Option Summary) → Type 0
  AreOfWalks b row = (x : ℕ) (f : Summary) → entry row x ≡ Some f → IsOfWalk w v b x f

  has_to : (b c d x : ℕ) (row : List (Option Summary)) (f h : Summary) → AreOfWalks b row → HasBelow row x f → IsOfWalk w v c x f → IsOfWalk w v d x h → is_below f h ≡ true → HasBelow row x h
  has_to b c d x row f h of a o p l = record { least = a.least; known = a.known; below = trans_by w some v known b c d x a.least f h (of x a.least a.known) o p a.below l }

  target_by : (e : ℕ) (k : Link) → slice_get w.edges e ≡ Some k → k.target < length w.depths
  target_by e k h = ∥∥₁_elim some (λ a b. le_prop a b) (λ l. l.nested.into e k h)

  -- ---- a pass

  -- before the first edge
  pub pass_begins : (b : ℕ) (row : List (Option Summary)) → length row ≡ length w.depths → AreOfWalks b row → HasPassed w v b 0 row row
  pass_begins b row l of = record {
    long = l;
    of_walks = of;
    kept = λ x f q. record { least = f; known = q; below = below_self f };
    done = λ e k f n. absurd (omega arith);
  }

  module _ (b c e : ℕ) (k : Link) (old row : List (Option Summary)) (of : AreOfWalks b old) (p : HasPassed w v c e old row) (h : slice_get w.edges e ≡ Some k) where
    pub stepped_same : ((f : Summary) → entry row k.source ≡ Some f → HasBelow row k.target (then_action k.acts f)) → HasPassed w v (suc c) (e + 1) old row
    stepped_same d = record {
      long = p.long;
      of_walks = λ x f q. more_steps w v c (suc c) x f (omega arith) (p.of_walks x f q);
      kept = p.kept;
      done = λ i j f l h' q. go i j f h' q (below_or_last i e l);
    }
      where
        here : (f : Summary) → entry old k.source ≡ Some f → HasBelow row k.target (then_action k.acts f)
        here f q =
            let a = p.kept k.source f q in
            let o = p.of_walks k.source a.least a.known in
            let u = of k.source f q in
            has_to c (suc c) (suc b) k.target row (then_action k.acts a.least) (then_action k.acts f) p.of_walks (d a.least a.known)
            (walk_on w some v known c e k a.least h o) (walk_on w some v known b e k f h u) (after_by w some v known c b e k a.least f h o u a.below)

        go : (i : ℕ) (j : Link) (f : Summary) → slice_get w.edges i ≡ Some j → entry old j.source ≡ Some f → (i < e) ⊎ (i ≡ e) → HasBelow row j.target (then_action j.acts f)
        go i j f h' q (inl l) = p.done i j f l h' q
        go i j f h' q (inr m) =
            let same : k ≡ j = some_link (sym h ∙ ap (slice_get w.edges) (sym m) ∙ h') in
            subst (λ (z : Link). HasBelow row z.target (then_action z.acts f)) same (here f (subst (λ (z : Link). entry old z.source ≡ Some f) (sym same) q))
          where
            some_link : {j : Link} → Some k ≡ Some j → k ≡ j
            some_link e = cc

    pub stepped_set : (f s : Summary) → entry row k.source ≡ Some f → Follows k.acts f s → ((g : Summary) → entry row k.target ≡ Some g → is_below g s ≡ false) → HasPassed w v (suc c) (e + 1) old (slice_set row k.target (Some s))
    stepped_set f s at follows fresh = record {
      long = length-put row k.target (Some s) ∙ p.long;
      of_walks = λ x g q. walks x g (entry_set row k.target (Some s) x g q);
      kept = λ x g q. lift b x g (p.kept x g q) (of x g q);
      done = λ i j g l h' q. go i j g h' q (below_or_last i e l);
    }
      where
        new : List (Option Summary)
        new = slice_set row k.target (Some s)

        of_s : IsOfWalk w v (suc c) k.target s
        of_s = subst (IsOfWalk w v (suc c) k.target) (sym follows.is) (walk_on w some v known c e k f h (p.of_walks k.source f at))

        walks : (x : ℕ) (g : Summary) → (entry row x ≡ Some g) ⊎ ((x ≡ k.target) × (Some s ≡ Some g)) → IsOfWalk w v (suc c) x g
        walks x g (inl a) = more_steps w v c (suc c) x g (omega arith) (p.of_walks x g a)
        walks x g (inr a) = subst (λ (y : ℕ). IsOfWalk w v (suc c) y g) (sym a.0) (subst (IsOfWalk w v (suc c) k.target) (same_Some s g a.1) of_s)

        lift : (d x : ℕ) (g : Summary) → HasBelow row x g → IsOfWalk w v d x g → HasBelow (slice_set row k.target (Some s)) x g
        lift d x g a o = on (entry_or row k.target (Some s) x)
          where
            on : (entry (slice_set row k.target (Some s)) x ≡ entry row x) ⊎ ((x ≡ k.target) × (entry (slice_set row k.target (Some s)) x ≡ Some s)) → HasBelow (slice_set row k.target (Some s)) x g
            on (inl q) = record { least = a.least; known = q ∙ a.known; below = a.below }
            on (inr q) =
                let of_x : IsOfWalk w v (suc c) x s = subst (λ (y : ℕ). IsOfWalk w v (suc c) y s) (sym q.0) of_s in
                let of_a = p.of_walks x a.least a.known in
                let was : entry row k.target ≡ Some a.least = subst (λ (y : ℕ). entry row y ≡ Some a.least) q.0 a.known in
                let less = total_by w some v known c (suc c) x a.least s of_a of_x (fresh a.least was) in
                record { least = s; known = q.1; below = trans_by w some v known (suc c) c d x s a.least g of_x of_a o less a.below }

        here : (g : Summary) → entry old k.source ≡ Some g → HasBelow (slice_set row k.target (Some s)) k.target (then_action k.acts g)
        here g q =
            let a = p.kept k.source g q in
            let is : a.least ≡ f = same_Some a.least f (sym a.known ∙ at) in
            let below : is_below f g ≡ true = subst (λ (z : Summary). is_below z g ≡ true) is a.below in
            record {
              least = s;
              known = entry_at row k.target (Some s) (let l = target_by e k h in omega (arith, p.long));
              below = subst (λ (z : Summary). is_below z (then_action k.acts g) ≡ true) (sym follows.is)
                  (after_by w some v known c b e k f g h (p.of_walks k.source f at) (of k.source g q) below);
            }

        go : (i : ℕ) (j : Link) (g : Summary) → slice_get w.edges i ≡ Some j → entry old j.source ≡ Some g → (i < e) ⊎ (i ≡ e) → HasBelow (slice_set row k.target (Some s)) j.target (then_action j.acts g)
        go i j g h' q (inl l) = lift (suc b) j.target (then_action j.acts g) (p.done i j g l h' q) (walk_on w some v known b i j g h' (of j.source g q))
        go i j g h' q (inr m) =
            let same : k ≡ j = some_link (sym h ∙ ap (slice_get w.edges) (sym m) ∙ h') in
            subst (λ (z : Link). HasBelow (slice_set row k.target (Some s)) z.target (then_action z.acts g)) same (here g (subst (λ (z : Link). entry old z.source ≡ Some g) (sym same) q))
          where
            some_link : {j : Link} → Some k ≡ Some j → k ≡ j
            some_link e = cc

    pub stepped_on : (new : List (Option Summary)) → Stepped k row new → HasPassed w v (suc c) (e + 1) old new
    stepped_on new (Stepped.same q d) = subst (HasPassed w v (suc c) (e + 1) old) (sym q) (stepped_same d)
    stepped_on new (Stepped.set f s at follows fresh q) = subst (HasPassed w v (suc c) (e + 1) old) (sym q) (stepped_set f s at follows fresh)

  -- ---- the passes

  -- a whole pass
  pub pass_ends : (b c m : ℕ) (old new : List (Option Summary)) → HasGot w v b m old → HasPassed w v c (length w.edges) old new → HasGot w v c (suc m) new
  pass_ends b c m old new got p =
      let self : HasBelow new v (identity (slice_index_or w.depths v 0)) =
      let i = p.kept v got.self.least got.self.known in
      let o : IsOfWalk w v 0 v (identity (slice_index_or w.depths v 0)) = record { steps = 0; few = omega arith; walk = (refl, refl, refl) } in
      has_to c b 0 v new got.self.least (identity (slice_index_or w.depths v 0)) p.of_walks i (got.of_walks v got.self.least got.self.known) o got.self.below in
      record {
        long = p.long;
        of_walks = p.of_walks;
        self = self;
        ahead = λ within l n x f walk. has_by w some v known new x f (λ loops.
            passed w loops.loops loops.nested v known b c m old new got p.of_walks self (λ e k f h q. p.done e k f (slice_get_within w.edges e k h) h q) within l n x f walk);
      }

  -- a pass that changed nothing
  pub pass_closed : (b c : ℕ) (old new : List (Option Summary)) → new ≡ old → HasPassed w v c (length w.edges) old new → IsClosed w new
  pass_closed b c old new q p = closed_by w some v known c new p.of_walks (λ e k f h at. p.done e k f (slice_get_within w.edges e k h) h (subst (λ (row : List (Option Summary)). entry row k.source ≡ Some f) q at))

  -- before the first pass
  pub got_none : (row : List (Option Summary)) → length row ≡ length w.depths → AreOfWalks 0 row → HasBelow row v (identity (slice_index_or w.depths v 0)) → HasGot w v 0 0 row
  got_none row l of self = record { long = l; of_walks = of; self = self; ahead = λ within z n x f walk. has_by w some v known row x f (λ loops. absurd (never loops within z n x f walk)) }
    where
      never : HaveLoops w → (within : ℕ → Bool) → size within (length w.depths) ≤ 0 → (n x : ℕ) (f : Summary) → Walk w v within n x f → ⊥
      never loops within z n x f walk = let l = walk_size w loops.loops loops.nested v known within n x f walk in omega arith
