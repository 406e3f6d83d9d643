-- What a board shows after a commit.
use Rattle.std.proofs.Common.{◌≡◌, ◌≢◌, ◌⊎◌, inl, inr, ◌<◌, ℕ, ◌==◌, Bool, true, false, cond, List, [], ◌++◌, length, refl, sym, ap, ◌∙◌, subst, arith, slice_set, slice_index_or, Option, None, length-set}
use Rattle.semantics.specs.Multiset.{Record}
use Rattle.semantics.proofs.MultisetSums.{append_same, ≈-from, ≈-refl, ≈-trans}
use Rattle.semantics.specs.Time.{Time, same_time, at_epoch}
use Rattle.semantics.specs.Shard.{Absorbed}
use Rattle.graph.specs.Shown.{shown_graph}
use Rattle.machine.specs.Network.{Network}
use Rattle.machine.specs.World.{World, Request, Event, Held}
use Rattle.machine.specs.Engine.{network}
use Rattle.machine.specs.Processing.{Makes, event_vertex, event_time, asked}
use Rattle.machine.specs.Sending.{mail_after, parcels}
use Rattle.machine.specs.Step.{Step, Allowed, absorbed_after, after_step, put}
use Rattle.machine.proofs.Absorbing.{absorbed_elsewhere, shard_there}
use Rattle.vertices.specs.Outs.{records_of}
use Rattle.vertices.specs.Shards.{Shows as ShowsShard}
use Rattle.vertices.specs.declared.shard.Shard.{Shard}
use Rattle.tokens.specs.declared.rule.Place.{Place}
use Rattle.tokens.specs.declared.rule.Place.TheVariants.{Out}
use Rattle.events.specs.Happenings.{requests_of}
use Rattle.events.specs.Jobs.{Job}
use Rattle.events.specs.Letters.{sent_to}
use Rattle.events.specs.Outputs.{IsDoneFor, ShowsIn as ShowsFor}
use Rattle.events.specs.declared.letter.Letter.{Letter}
use Rattle.board.specs.Shown.{Shown, Side, side_at, side_in, no_side, held_of, emitted_by, records_at, event_at, net}
use Rattle.board.specs.Showing.{AgreeAt, CanCome, Shows, ShowsIn, OnShard, known, known_shard, IsOwn}
use Rattle.board.specs.Steps.{settled, delivered, after_commit}
use Rattle.board.proofs.Deliveries.{delivered_at, delivered_length, with_all}
use Rattle.board.proofs.Emitting.{cond_same, records_with}
use Rattle.board.proofs.Places.{put_set_below, same_set}
use Rattle.board.proofs.Shards.{each_back}
use Rattle.board.proofs.Still.{agree_after, asked_as, kept_world, makes_as, on_shard, still}

-- ---- what is emitted

same_epochs : (m n : ℕ) → same_time (at_epoch m) (at_epoch n) ≡ (m == n)
same_epochs m n = go (m == n) refl
  where
    go : (b : Bool) → (m == n) ≡ b → same_time (at_epoch m) (at_epoch n) ≡ (m == n)
    go true e = rw e refl
    go false e = rw e refl

-- what comes to an output at a time comes for that time's epoch
for_epoch : (e : ℕ) (t : Time) (records : List Record) → (records ≡ []) ⊎ (t ≡ at_epoch e) → (n : ℕ) → cond (same_time t (at_epoch n)) records [] ≡ cond (e == n) records []
for_epoch e t records (inl none) n = ap (λ l. cond (same_time t (at_epoch n)) l []) none ∙ cond_same (same_time t (at_epoch n)) [] ∙ sym (ap (λ l. cond (e == n) l []) none ∙ cond_same (e == n) [])
for_epoch e t records (inr at) n = ap (λ c. cond c records []) (ap (λ x. same_time x (at_epoch n)) at ∙ same_epochs e n)

-- ---- the commit

-- g is the network that s runs, and what holds of each world that s shows
pub record IsNetOf (g : Network) (s : Shown) : Type 0 where
  pub workers : g.workers ≡ length s.sides
  pub at : (e : Event) → event_vertex g e ≡ event_at (shown_graph s.graph) e
  pub of_net : (w : World) (k v : ℕ) (x : Shard) → ShowsIn (net s) w k v x → ShowsIn g w k v x
  pub to_net : (w : World) (k v : ℕ) (x : Shard) → ShowsIn g w k v x → ShowsIn (net s) w k v x
  pub reads : (v : ℕ) (a b : Absorbed) (t : Time) → AgreeAt g v a b t → (place : ℕ) → g.reads v a t place ≡ g.reads v b t place
  pub comes : (w : World) → Shows s w → (k : ℕ) → k < length s.sides → (event : Event) → w.held k ≡ Held.holding false event → CanCome g w (event_vertex g event) (event_time event)
  pub later : (w : World) → Shows s w → (step : Step) → Allowed g w step → (v : ℕ) (t : Time) → CanCome g (after_step g w step) v t → CanCome g w v t

-- an event emits records only for an epoch
pub record EndsAt (event : Event) (records : List Record) : Type 0 where
  pub at : (records ≡ []) ⊎ (event_time event ≡ at_epoch (event_time event).epoch)

-- the shard of an event that is out showed what the world says was absorbed
pub was : (g : Network) (s : Shown) (of : IsNetOf g s) (w : World) (is : Shows s w) (k : ℕ) (there : k < length s.sides) (j : Job) (gone : (side_at s k).place ≡ Out j)
    (own : IsOwn s (side_at s k) j) → ShowsIn g w k (event_vertex g j.happening) j.before
was g s of w is k there j gone own =
    let v : ℕ = event_at (shown_graph s.graph) j.happening in
    let P : Option Shard → Type 0 = λ o. OnShard (ShowsIn (net s) w k v) (known o (Out j)) in
    let Q : Place Job → Type 0 = λ p. OnShard (ShowsIn (net s) w k v) (known (slice_index_or (side_at s k).shards v None) p) in
    let h : ShowsIn g w k v j.before = of.of_net w k v j.before (subst P own.away (subst Q gone (is.absorbed k v there own.vertex))) in
    let R : ℕ → Type 0 = λ n. ShowsIn g w k n j.before in
    subst R (sym (of.at j.happening)) h

-- at the event's own time it showed all of it
pub agrees : (g : Network) (s : Shown) (of : IsNetOf g s) (w : World) (is : Shows s w) (k : ℕ) (there : k < length s.sides) (j : Job) (gone : (side_at s k).place ≡ Out j)
    (h : ShowsIn g w k (event_vertex g j.happening) j.before) → AgreeAt g (event_vertex g j.happening) h.kept (w.absorbed k (event_vertex g j.happening)) (event_time j.happening)
agrees g s of w is k there j gone h = h.same (event_time j.happening) (of.comes w is k there j.happening (is.held k there ∙ ap held_of gone))

-- all that it kept, where the worker had absorbed just that
kept_shows : (g : Network) (w : World) (k : ℕ) (j : Job) (h : ShowsIn g w k (event_vertex g j.happening) j.before)
    → ShowsFor g (kept_world w k (event_vertex g j.happening) h.kept) k j.happening j.before
kept_shows g w k j h = let P : Absorbed → Type 0 = λ a. ShowsShard j.before a in subst P (sym (shard_there w k (event_vertex g j.happening) h.kept)) h.shows

-- what an event that is out asks for
pub asks_as : (g : Network) (s : Shown) (of : IsNetOf g s) (w : World) (is : Shows s w) (k : ℕ) (there : k < length s.sides) (j : Job) (gone : (side_at s k).place ≡ Out j)
    (own : IsOwn s (side_at s k) j) (requests : List Request) → ((w : World) → ShowsFor g w k j.happening j.before → requests ≡ asked g w k j.happening) → requests ≡ asked g w k j.happening
asks_as g s of w is k there j gone own requests asks =
    let h = was g s of w is k there j gone own in
    asks (kept_world w k (event_vertex g j.happening) h.kept) (kept_shows g w k j h) ∙ asked_as g w k j.happening h.kept (agrees g s of w is k there j gone h)

module _ (g : Network) (s : Shown) (of : IsNetOf g s) (w : World) (is : Shows s w) (k : ℕ) (there : k < length s.sides) (j : Job) (gone : (side_at s k).place ≡ Out j)
    (own : IsOwn s (side_at s k) j) (shards_there : length (side_at s k).shards ≡ length (shown_graph s.graph)) (shard : Shard) (sent : List Letter) (emitted : Option (List Record)) (asks : Option Request)
    (done : IsDoneFor g k j.happening j.before shard sent (requests_of asks) (records_of emitted)) (ends : EndsAt j.happening (records_of emitted)) (room : length s.emitted ≡ length (shown_graph s.graph)) where
  v : ℕ
  v = event_at (shown_graph s.graph) j.happening

  before : ShowsIn g w k (event_vertex g j.happening) j.before
  before = was g s of w is k there j gone own

  makes_there : Makes g w k j.happening done.out
  unfolding before
  makes_there =
      let h = was g s of w is k there j gone own in
      makes_as g w k of.reads j.happening done.out h.kept (agrees g s of w is k there j gone h)
      (done.makes (kept_world w k (event_vertex g j.happening) h.kept) (kept_shows g w k j h))

  pub may_commit : Allowed g w (Step.commit k j.happening done.out)
  may_commit = (omega (arith, there, of.workers), is.held k there ∙ ap held_of gone, makes_there)

  y : Side
  unfolding v
  y = settled (side_at s k) v shard asks

  sides : List Side
  unfolding y
  sides = slice_set s.sides k y

  sides_there : length sides ≡ length s.sides
  unfolding sides
  sides_there = length-set s.sides k y

  side_then : (i : ℕ) → i < length s.sides → side_in (delivered sides sent) i ≡ with_all (side_in sides i) (sent_to i sent)
  side_then i l = delivered_at sent sides i (omega (arith, l, sides_there))

  mail_then : (i : ℕ) → i < length s.sides → mail_after g w k (event_vertex g j.happening) (g.act (event_vertex g j.happening) (event_time j.happening)) done.out i ≡ (side_in (delivered sides sent) i).mail
  unfolding sides y v
  mail_then i l =
      let before : w.mail i ≡ (side_in sides i).mail = same_set (length s.sides) w.mail (λ (z : Side). z.mail) s.sides no_side k y there refl is.mail i l in
      let mail : sent_to i sent ≡ parcels g k (event_vertex g j.happening) (g.act (event_vertex g j.happening) (event_time j.happening)) done.out i g.edges = done.sends.each i (omega (arith, l, of.workers)) in
      ap (λ ms. ms ++ parcels g k (event_vertex g j.happening) (g.act (event_vertex g j.happening) (event_time j.happening)) done.out i g.edges) before
      ∙ ap (λ ms. (side_in sides i).mail ++ ms) (sym mail)
      ∙ sym (ap (λ (z : Side). z.mail) (side_then i l))

  requests_then : (i : ℕ) → i < length s.sides → put w.requests k (w.requests k ++ asked g w k j.happening) i ≡ (side_in (delivered sides sent) i).requests
  unfolding sides y v
  requests_then i l =
      let e : (side_at s k).requests ++ requests_of asks ≡ w.requests k ++ asked g w k j.happening =
      ap (λ rs. rs ++ requests_of asks) (sym (is.requests k there)) ∙ ap (λ rs. w.requests k ++ rs) (asks_as g s of w is k there j gone own (requests_of asks) done.asks) in
      put_set_below (length s.sides) w.requests (λ (z : Side). z.requests) s.sides no_side k y (w.requests k ++ asked g w k j.happening) there e is.requests i l
      ∙ sym (ap (λ (z : Side). z.requests) (side_then i l))

  held_then : (i : ℕ) → i < length s.sides → put w.held k Held.nothing i ≡ held_of (side_in (delivered sides sent) i).place
  unfolding sides y v
  held_then i l =
      put_set_below (length s.sides) w.held (λ (z : Side). held_of z.place) s.sides no_side k y Held.nothing there refl is.held i l
      ∙ sym (ap (λ (z : Side). held_of z.place) (side_then i l))

  shards_then : (i u : ℕ) → i < length s.sides → u < length (shown_graph s.graph) → OnShard (ShowsIn g (after_step g w (Step.commit k j.happening done.out)) i u) (known_shard (side_in (delivered sides sent) i) u)
  unfolding sides y v before
  shards_then i u l lu =
      let now : World = after_step g w (Step.commit k j.happening done.out) in
      let n : ℕ = event_vertex g j.happening in
      let h = was g s of w is k there j gone own in
      let after : ShowsIn g now k n shard = record {
        kept = λ p t. absorbed_after g (kept_world w k n h.kept) k j.happening k n p t;
        shows = done.absorbs (kept_world w k n h.kept) (kept_shows g w k j h);
        same = λ t c. agree_after g w k j.happening h.kept t (h.same t (of.later w is (Step.commit k j.happening done.out) may_commit n t c));
      } in
      let new : ShowsIn g now k v shard = (let R : ℕ → Type 0 = λ m. ShowsIn g now k m shard in subst R (of.at j.happening) after) in
      let S : Side → Type 0 = λ z. OnShard (ShowsIn g now i u) (known_shard z u) in
      subst S (sym (side_then i l))
      (each_back s k there (ShowsIn (net s) w) (ShowsIn g now) v j shard y is.absorbed gone (omega (arith, own.vertex, shards_there)) own.others refl refl new
      (λ a b z ne x. still g w now a b z (of.later w is (Step.commit k j.happening done.out) may_commit b) (absorbed_elsewhere g w k j.happening a b (apart a b ne)) (of.of_net w a b z x)) i u l lu)
    where
      apart : (a b : ℕ) → (a ≢ k) ⊎ (b ≢ v) → (a ≢ k) ⊎ (b ≢ event_vertex g j.happening)
      apart a b (inl ne) = inl ne
      apart a b (inr ne) = inr (λ e. ne (e ∙ of.at j.happening))

  pub shows_commit : Shows (after_commit s k j shard sent emitted asks) (after_step g w (Step.commit k j.happening done.out))
  unfolding sides y v
  shows_commit =
      let n : length (delivered sides sent) ≡ length s.sides = delivered_length sent sides ∙ sides_there in
      record {
        stopped = is.stopped;
        open_epoch = is.open_epoch;
        closed = is.closed;
        fed = is.fed;
        mail = λ i l. mail_then i (omega (arith, l, n));
        requests = λ i l. requests_then i (omega (arith, l, n));
        held = λ i l. held_then i (omega (arith, l, n));
        absorbed = λ i u l lu.
            let now : World = after_step g w (Step.commit k j.happening done.out) in
            let o : Option Shard = known_shard (side_in (delivered sides sent) i) u in
            let P : ℕ → Type 0 = λ m. OnShard (ShowsIn (network (shown_graph s.graph) m) now i u) o in
            subst P (sym n) (on_shard (ShowsIn g now i u) (ShowsIn (net s) now i u) (λ z. of.to_net now i u z) o (shards_then i u (omega (arith, l, n)) lu));
        emitted = λ u e.
            let t = event_time j.happening in
            let before : List Record = records_at (emitted_by s.emitted u) e in
            ≈-trans (done.emits w u e) (≈-trans (append_same _ _ _ _ (is.emitted u e) (≈-refl _)) (≈-from (
            ap (λ x. before ++ cond (event_vertex g j.happening == u) x []) (for_epoch t.epoch t (records_of emitted) ends.at e)
            ∙ ap (λ n. before ++ cond (n == u) (cond (t.epoch == e) (records_of emitted) []) []) (of.at j.happening)
            ∙ sym (records_with (event_at (shown_graph s.graph) j.happening) t.epoch emitted s.emitted (omega (arith, own.vertex, room)) u e))));
      }
