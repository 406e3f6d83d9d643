-- What a board shows after a claim.
use Rattle.std.proofs.Common.{◌≡◌, ◌<◌, ℕ, false, List, length, refl, sym, ap, ◌∙◌, arith, slice_get, slice_set, slice_index_or, remove, Some, None, length-set}
use Rattle.graph.specs.Shown.{shown_graph}
use Rattle.machine.specs.World.{World, Message, Request, Event, Held}
use Rattle.machine.specs.Active.{request_pointstamp}
use Rattle.machine.specs.Frontier.{NoOtherBefore}
use Rattle.machine.specs.Step.{Step, Allowed, MayClaim, after_step}
use Rattle.tokens.specs.declared.rule.Place.TheVariants.{Home}
use Rattle.events.specs.Jobs.{Job}
use Rattle.board.specs.Shown.{Shown, Side, side_at, side_in, no_side, net, held_of, event_at}
use Rattle.board.specs.Showing.{Shows, ShowsIn, known_shard}
use Rattle.board.specs.Steps.{out_with, after_claim_message, after_claim_request}
use Rattle.board.proofs.Places.{put_set_below, same_set}
use Rattle.board.proofs.Shards.{each_out}
use Rattle.board.proofs.Still.{IsLater, after_still}

module _ (s : Shown) (w : World) (is : Shows s w) (k : ℕ) (there : k < length s.sides) (free : (side_at s k).place ≡ Home) where
  pub may_claim : s.stopped ≡ false → MayClaim (net s) w k
  may_claim runs = (there, is.held k there ∙ ap held_of free, is.stopped ∙ runs)

  module _ (j : Job) (vertex : event_at (shown_graph s.graph) j.happening < length (side_at s k).shards)
      (shard : slice_index_or (side_at s k).shards (event_at (shown_graph s.graph) j.happening) None ≡ Some j.before) (at : ℕ) where
    module _ (m : Message) (event : j.happening ≡ Event.arrival m) (got : slice_get (side_at s k).mail at ≡ Some m) where
      pub may_claim_message : s.stopped ≡ false → Allowed (net s) w (Step.claim_message k at m)
      may_claim_message runs = (may_claim runs, ap (λ ms. slice_get ms at) (is.mail k there) ∙ got)

      pub shows_claim_message : IsLater s → Allowed (net s) w (Step.claim_message k at m) → Shows (after_claim_message s k at j) (after_step (net s) w (Step.claim_message k at m))
      shows_claim_message later ok =
          let x : Side = out_with (record (side_at s k) { mail = remove (side_at s k).mail at }) (event_at (shown_graph s.graph) j.happening) j in
          let n : length (slice_set s.sides k x) ≡ length s.sides = length-set s.sides k x in
          record {
            stopped = is.stopped;
            open_epoch = is.open_epoch;
            closed = is.closed;
            fed = is.fed;
            mail = λ i l. put_set_below (length s.sides) w.mail (λ (z : Side). z.mail) s.sides no_side k x (remove (w.mail k) at) there (ap (λ (ms : List Message). remove ms at) (sym (is.mail k there))) is.mail i (omega arith);
            requests = λ i l. same_set (length s.sides) w.requests (λ (z : Side). z.requests) s.sides no_side k x there refl is.requests i (omega arith);
            held = λ i l. put_set_below (length s.sides) w.held (λ (z : Side). held_of z.place) s.sides no_side k x (Held.holding false (Event.arrival m)) there (ap (Held.holding false) event) is.held i (omega arith);
            absorbed = λ i v l lv. after_still s later w is (Step.claim_message k at m) ok (length (slice_set s.sides k x)) n i v refl (known_shard (side_in (slice_set s.sides k x) i) v)
                (each_out s k there (ShowsIn (net s) w) (event_at (shown_graph s.graph) j.happening) j x is.absorbed free vertex shard refl refl i v (omega (arith, l, n)) lv);
            emitted = is.emitted;
          }

    module _ (r : Request) (event : j.happening ≡ Event.notification r) (got : slice_get (side_at s k).requests at ≡ Some r) where
      pub may_claim_request : s.stopped ≡ false → NoOtherBefore (net s) w (request_pointstamp r) → Allowed (net s) w (Step.claim_request k at r)
      may_claim_request runs none = (may_claim runs, ap (λ rs. slice_get rs at) (is.requests k there) ∙ got, none)

      pub shows_claim_request : IsLater s → Allowed (net s) w (Step.claim_request k at r) → Shows (after_claim_request s k at j) (after_step (net s) w (Step.claim_request k at r))
      shows_claim_request later ok =
          let x : Side = out_with (record (side_at s k) { requests = remove (side_at s k).requests at }) (event_at (shown_graph s.graph) j.happening) j in
          let n : length (slice_set s.sides k x) ≡ length s.sides = length-set s.sides k x in
          record {
            stopped = is.stopped;
            open_epoch = is.open_epoch;
            closed = is.closed;
            fed = is.fed;
            mail = λ i l. same_set (length s.sides) w.mail (λ (z : Side). z.mail) s.sides no_side k x there refl is.mail i (omega arith);
            requests = λ i l. put_set_below (length s.sides) w.requests (λ (z : Side). z.requests) s.sides no_side k x (remove (w.requests k) at) there (ap (λ (rs : List Request). remove rs at) (sym (is.requests k there))) is.requests i (omega arith);
            held = λ i l. put_set_below (length s.sides) w.held (λ (z : Side). held_of z.place) s.sides no_side k x (Held.holding false (Event.notification r)) there (ap (Held.holding false) event) is.held i (omega arith);
            absorbed = λ i v l lv. after_still s later w is (Step.claim_request k at r) ok (length (slice_set s.sides k x)) n i v refl (known_shard (side_in (slice_set s.sides k x) i) v)
                (each_out s k there (ShowsIn (net s) w) (event_at (shown_graph s.graph) j.happening) j x is.absorbed free vertex shard refl refl i v (omega (arith, l, n)) lv);
            emitted = is.emitted;
          }
