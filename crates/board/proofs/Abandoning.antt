-- Abandoning an event is one step, and keeps what a board keeps.
use Rattle.std.proofs.Common.{◌≡◌, ◌<◌, ℕ, true, length, refl, ap, ◌∙◌, subst, arith, slice_set, slice_index_or, Option, Some, None, length-set}
use Rattle.semantics.specs.Graph.{Graph}
use Rattle.semantics.specs.Could.{Pointstamp}
use Rattle.graph.specs.Shown.{shown_graph}
use Rattle.machine.specs.World.{World, Held}
use Rattle.machine.specs.Step.{Step, Allowed, after_step}
use Rattle.vertices.specs.declared.shard.Shard.{Shard}
use Rattle.tokens.specs.declared.rule.Place.{Place}
use Rattle.tokens.specs.declared.rule.Place.TheVariants.{Out, Lost}
use Rattle.events.specs.Jobs.{Job}
use Rattle.board.specs.Shown.{Shown, Side, side_at, side_in, no_side, net, held_of, tables}
use Rattle.board.specs.Showing.{Shows, ShowsIn, IsSideOf, EachShard, OnShard, known, known_shard}
use Rattle.board.specs.Steps.{after_abandon}
use Rattle.board.specs.Fitting.{FitsPlace}
use Rattle.board.proofs.Emitting.{emits_same}
use Rattle.board.specs.Kept.{IsKept, Goes}
use Rattle.board.proofs.BoardCalls.{same_names}
use Rattle.board.proofs.Committed.{sides_put}
use Rattle.board.proofs.Keeping.{kept_more}
use Rattle.board.proofs.Later.{later}
use Rattle.board.proofs.Still.{IsLater, after_still}
use Rattle.board.proofs.Places.{put_set_below, same_set}
use Rattle.board.proofs.Shards.{each_with}

lost_same : (P : Shard → Type 0) (o : Option Shard) (j : Job) → OnShard P (known o (Out j)) → OnShard P (known o (Lost j))
lost_same P None j h = h
lost_same P (Some x) j h = h

module _ (s : Shown) (k : ℕ) (there : k < length s.sides) (j : Job) (out : (side_at s k).place ≡ Out j) where
  x : Side
  x = record (side_at s k) { place = Lost j }

  each_lost : (P : (worker vertex : ℕ) → Shard → Type 0) → EachShard s P → (i v : ℕ) → i < length s.sides → v < length (shown_graph s.graph) → OnShard (P i v) (known_shard (side_in (slice_set s.sides k x) i) v)
  unfolding x
  each_lost P each =
      each_with s k there P P x each (λ i v y ne h. h) (λ v lv.
      let A : Place Job → Type 0 = λ p. OnShard (P k v) (known (slice_index_or (side_at s k).shards v None) p) in
      lost_same (P k v) (slice_index_or (side_at s k).shards v None) j (subst A out (each k v there lv)))

  pub shows_abandon : IsLater s → (w : World) → Shows s w → Allowed (net s) w (Step.abandon k j.happening) → Shows (after_abandon s k j) (after_step (net s) w (Step.abandon k j.happening))
  unfolding x
  shows_abandon later w is ok =
      let n : length (slice_set s.sides k x) ≡ length s.sides = length-set s.sides k x in
      record {
        stopped = refl;
        open_epoch = is.open_epoch;
        closed = is.closed;
        fed = is.fed;
        mail = λ i l. same_set (length s.sides) w.mail (λ (z : Side). z.mail) s.sides no_side k x there refl is.mail i (omega (arith, l, n));
        requests = λ i l. same_set (length s.sides) w.requests (λ (z : Side). z.requests) s.sides no_side k x there refl is.requests i (omega (arith, l, n));
        held = λ i l. put_set_below (length s.sides) w.held (λ (z : Side). held_of z.place) s.sides no_side k x (Held.holding true j.happening) there refl is.held i (omega (arith, l, n));
        absorbed = λ i v l lv. after_still s later w is (Step.abandon k j.happening) ok (length (slice_set s.sides k x)) n i v refl (known_shard (side_in (slice_set s.sides k x) i) v)
            (each_lost (ShowsIn (net s) w) is.absorbed i v (omega (arith, l, n)) lv);
        emitted = is.emitted;
      }

  pub abandon_goes : IsLater s → Goes s (Step.abandon k j.happening) (after_abandon s k j)
  unfolding x
  abandon_goes later = record { step = λ w shows. let ok : Allowed (net s) w (Step.abandon k j.happening) = (there, shows.held k there ∙ ap held_of out) in (ok, shows_abandon later w shows ok); graph = refl; workers = length-set s.sides k x; emitted = emits_same s.emitted }

  pub abandon_kept : (graph : Graph) (content : Pointstamp → ℕ) → IsKept graph content s → IsKept graph content (after_abandon s k j)
  unfolding x
  abandon_kept graph content kept =
      let both = (abandon_goes (later graph content s kept)).step kept.world kept.shows in
      let old = kept.sides k there in
      let side : IsSideOf s (length s.sides) x = record { wired = old.wired; shards = old.shards; own = λ i e. absurd (let z : Lost j ≡ Out i = e in cc) } in
      kept_more graph content s kept (Step.abandon k j.happening) s.inputs (slice_set s.sides k x) s.emitted true graph content refl refl (length-set s.sides k x) refl
      (λ i l.
      let two = sides_put s (length s.sides) k x there kept.sides side i (let n = length-set s.sides k x in omega (arith, l, n)) in
      record { wired = two.wired; shards = two.shards; own = λ i e. let z = two.own i e in record { wired = z.wired; vertex = z.vertex; away = z.away; others = z.others } })
      (λ i v l lv. each_lost (FitsPlace s.graph) kept.fitting i v (let n = length-set s.sides k x in omega (arith, l, n)) lv)
      kept.fed both.0 both.1 (λ q. refl)

  pub abandon_tables : tables (after_abandon s k j) ≡ tables s
  abandon_tables = same_names s.sides k (record (side_at s k) { place = Lost j }) refl
