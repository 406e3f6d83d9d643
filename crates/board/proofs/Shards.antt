-- A property of each worker's shard of each vertex, at home or out, is kept as shards go out and come back.
use Rattle.std.proofs.Common.{◌≡◌, ◌≢◌, ◌⊎◌, inl, inr, ◌<◌, ℕ, ◌==◌, true, false, List, length, refl, sym, ap, ◌∙◌, subst, slice_set, slice_index_or, Option, Some, None}
use Rattle.std.proofs.lemmas.Bool.Decides.{eqb_tells}
use Rattle.graph.specs.Shown.{shown_graph}
use Rattle.vertices.specs.declared.shard.Shard.{Shard}
use Rattle.tokens.specs.declared.rule.Place.{Place}
use Rattle.tokens.specs.declared.rule.Place.TheVariants.{Home, Out}
use Rattle.events.specs.Jobs.{Job}
use Rattle.board.specs.Shown.{Shown, Side, side_at, side_in, no_side}
use Rattle.board.specs.Showing.{OnShard, EachShard, known, known_shard}
use Rattle.board.proofs.Places.{index_set_here, index_set_other}

-- a shard that is known at home is there
pub at_home : (P : Shard → Type 0) (o : Option Shard) → OnShard P (known o Home) → (x : Shard) × (o ≡ Some x)
at_home P None h = absurd h
at_home P (Some x) h = (x, refl)

kept_home : (P : Shard → Type 0) (o : Option Shard) (j : Job) → OnShard P (known o Home) → OnShard P (known o (Out j))
kept_home P None j h = absurd h
kept_home P (Some x) j h = h

-- a shard that goes out is known by its event
gone : (P : Shard → Type 0) (xs : List (Option Shard)) (v u : ℕ) (j : Job) → v < length xs → slice_index_or xs v None ≡ Some j.before
    → OnShard P (known (slice_index_or xs u None) Home) → OnShard P (known (slice_index_or (slice_set xs v None) u None) (Out j))
gone P xs v u j l there h = go (eqb_tells u v)
  where
    go : ((u == v) ≡ true) × (u ≡ v) ⊎ ((u == v) ≡ false) × (u ≢ v) → OnShard P (known (slice_index_or (slice_set xs v None) u None) (Out j))
    go (inl (t, q)) =
        let e : slice_index_or (slice_set xs v None) u None ≡ None = ap (λ n. slice_index_or (slice_set xs v None) n None) q ∙ index_set_here xs v None None l in
        let f : slice_index_or xs u None ≡ Some j.before = ap (λ n. slice_index_or xs n None) q ∙ there in
        let A : Option Shard → Type 0 = λ o. OnShard P (known o (Out j)) in
        let B : Option Shard → Type 0 = λ o. OnShard P (known o Home) in
        subst A (sym e) (subst B f h)
    go (inr (t, q)) =
        let A : Option Shard → Type 0 = λ o. OnShard P (known o (Out j)) in
        subst A (sym (index_set_other xs v u None None q)) (kept_home P (slice_index_or xs u None) j h)

module _ (s : Shown) (k : ℕ) (there : k < length s.sides) where
  -- worker k has the side x instead: the property holds of x's shards and of the others'
  pub each_with : (P Q : (worker vertex : ℕ) → Shard → Type 0) (x : Side) → EachShard s P
      → ((i v : ℕ) (y : Shard) → i ≢ k → P i v y → Q i v y)
      → ((v : ℕ) → v < length (shown_graph s.graph) → OnShard (Q k v) (known_shard x v))
      → (i v : ℕ) → i < length s.sides → v < length (shown_graph s.graph) → OnShard (Q i v) (known_shard (side_in (slice_set s.sides k x) i) v)
  each_with P Q x each others own i v l lv = go (eqb_tells i k)
    where
      still : (o : Option Shard) → i ≢ k → OnShard (P i v) o → OnShard (Q i v) o
      still None ne h = absurd h
      still (Some y) ne h = others i v y ne h

      go : ((i == k) ≡ true) × (i ≡ k) ⊎ ((i == k) ≡ false) × (i ≢ k) → OnShard (Q i v) (known_shard (side_in (slice_set s.sides k x) i) v)
      go (inl (t, q)) =
          let here : side_in (slice_set s.sides k x) i ≡ x = ap (λ n. side_in (slice_set s.sides k x) n) q ∙ index_set_here s.sides k x no_side there in
          let A : Side → Type 0 = λ z. OnShard (Q i v) (known_shard z v) in
          let B : ℕ → Type 0 = λ n. OnShard (Q n v) (known_shard x v) in
          subst A (sym here) (subst B (sym q) (own v lv))
      go (inr (t, q)) =
          let A : Side → Type 0 = λ z. OnShard (Q i v) (known_shard z v) in
          subst A (sym (index_set_other s.sides k i x no_side q)) (still (known_shard (side_at s i) v) q (each i v l lv))

  -- a shard goes out
  pub each_out : (P : (worker vertex : ℕ) → Shard → Type 0) (v : ℕ) (j : Job) (x : Side) → EachShard s P → (side_at s k).place ≡ Home
      → v < length (side_at s k).shards → slice_index_or (side_at s k).shards v None ≡ Some j.before
      → x.shards ≡ slice_set (side_at s k).shards v None → x.place ≡ Out j
      → (i u : ℕ) → i < length s.sides → u < length (shown_graph s.graph) → OnShard (P i u) (known_shard (side_in (slice_set s.sides k x) i) u)
  each_out P v j x each free lv at shards place =
      each_with P P x each (λ i u y ne h. h) (λ u lu.
      let A : Place Job → Type 0 = λ p. OnShard (P k u) (known (slice_index_or (side_at s k).shards u None) p) in
      let B : Option Shard → Type 0 = λ o. OnShard (P k u) o in
      let e : known_shard x u ≡ known (slice_index_or (slice_set (side_at s k).shards v None) u None) (Out j) = λ i. known (slice_index_or (shards i) u None) (place i) in
      subst B (sym e) (gone (P k u) (side_at s k).shards v u j lv at (subst A free (each k u there lu))))

  -- a shard comes back
  pub each_back : (P Q : (worker vertex : ℕ) → Shard → Type 0) (v : ℕ) (j : Job) (y : Shard) (x : Side) → EachShard s P → (side_at s k).place ≡ Out j
      → v < length (side_at s k).shards
      → ((u : ℕ) → u < length (shown_graph s.graph) → u ≢ v → (z : Shard) × (slice_index_or (side_at s k).shards u None ≡ Some z))
      → x.shards ≡ slice_set (side_at s k).shards v (Some y) → x.place ≡ Home
      → Q k v y → ((i u : ℕ) (z : Shard) → (i ≢ k) ⊎ (u ≢ v) → P i u z → Q i u z)
      → (i u : ℕ) → i < length s.sides → u < length (shown_graph s.graph) → OnShard (Q i u) (known_shard (side_in (slice_set s.sides k x) i) u)
  each_back P Q v j y x each gone_out lv others shards place new still =
      each_with P Q x each (λ i u z ne h. still i u z (inl ne) h) (λ u lu. at u lu (eqb_tells u v))
    where
      at : (u : ℕ) → u < length (shown_graph s.graph) → ((u == v) ≡ true) × (u ≡ v) ⊎ ((u == v) ≡ false) × (u ≢ v) → OnShard (Q k u) (known_shard x u)
      at u lu (inl (t, q)) =
          let e : known_shard x u ≡ Some y = (λ i. known (slice_index_or (shards i) u None) (place i)) ∙ ap (λ n. known (slice_index_or (slice_set (side_at s k).shards v (Some y)) n None) Home) q ∙ ap (λ o. known o Home) (index_set_here (side_at s k).shards v (Some y) None lv) in
          let A : Option Shard → Type 0 = λ o. OnShard (Q k u) o in
          let B : ℕ → Type 0 = λ n. Q k n y in
          subst A (sym e) (subst B (sym q) new)
      at u lu (inr (t, q)) =
          let z = others u lu q in
          let e : known_shard x u ≡ Some z.0 = (λ i. known (slice_index_or (shards i) u None) (place i)) ∙ ap (λ o. known o Home) (index_set_other (side_at s k).shards v u (Some y) None q ∙ z.1) in
          let A : Option Shard → Type 0 = λ o. OnShard (Q k u) o in
          let B : Option Shard → Type 0 = λ o. OnShard (P k u) (known o (side_at s k).place) in
          subst A (sym e) (still k u z.0 (inr q) (subst B z.1 (each k u there lu)))

  -- another shard is in the place of one that is at home
  pub each_changed : (P Q : (worker vertex : ℕ) → Shard → Type 0) (v : ℕ) (y : Shard) (x : Side) → EachShard s P → v < length (side_at s k).shards
      → x.shards ≡ slice_set (side_at s k).shards v (Some y) → x.place ≡ (side_at s k).place
      → Q k v y → ((i u : ℕ) (z : Shard) → P i u z → Q i u z)
      → (i u : ℕ) → i < length s.sides → u < length (shown_graph s.graph) → OnShard (Q i u) (known_shard (side_in (slice_set s.sides k x) i) u)
  each_changed P Q v y x each lv shards place new still =
      each_with P Q x each (λ i u z ne h. still i u z h) (λ u lu. at u lu (eqb_tells u v))
    where
      over : (u : ℕ) (o : Option Shard) → OnShard (P k u) o → OnShard (Q k u) o
      over u None h = h
      over u (Some z) h = still k u z h

      at : (u : ℕ) → u < length (shown_graph s.graph) → ((u == v) ≡ true) × (u ≡ v) ⊎ ((u == v) ≡ false) × (u ≢ v) → OnShard (Q k u) (known_shard x u)
      at u lu (inl (t, q)) =
          let e : known_shard x u ≡ Some y = (λ i. known (slice_index_or (shards i) u None) (place i)) ∙ ap (λ n. known (slice_index_or (slice_set (side_at s k).shards v (Some y)) n None) (side_at s k).place) q ∙ ap (λ o. known o (side_at s k).place) (index_set_here (side_at s k).shards v (Some y) None lv) in
          let A : Option Shard → Type 0 = λ o. OnShard (Q k u) o in
          let B : ℕ → Type 0 = λ n. Q k n y in
          subst A (sym e) (subst B (sym q) new)
      at u lu (inr (t, q)) =
          let e : known_shard x u ≡ known_shard (side_at s k) u = (λ i. known (slice_index_or (shards i) u None) (place i)) ∙ ap (λ o. known o (side_at s k).place) (index_set_other (side_at s k).shards v u (Some y) None q) in
          let A : Option Shard → Type 0 = λ o. OnShard (Q k u) o in
          subst A (sym e) (over u (known_shard (side_at s k) u) (each k u there lu))
