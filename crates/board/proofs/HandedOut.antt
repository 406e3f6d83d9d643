-- A claim is one step, and keeps what a board keeps.
use Rattle.std.proofs.Common.{◌≡◌, ◌<◌, ℕ, zero, suc, false, List, [], ◌∷◌, length, refl, sym, ap, ◌∙◌, subst, arith, slice_get, slice_set, slice_index_or, remove, Some, None, length-set}
use Rattle.atomic_table.specs.Seated.{TableId}
use Rattle.semantics.specs.Graph.{Graph, target}
use Rattle.semantics.specs.Could.{Pointstamp, CouldResultIn, NoOtherOf}
use Rattle.graph.specs.Shown.{shown_graph}
use Rattle.machine.specs.World.{Message, Request}
use Rattle.machine.specs.Active.{request_pointstamp}
use Rattle.machine.specs.Step.{Step}
use Rattle.tokens.specs.declared.rule.Place.TheVariants.{Home, Out}
use Rattle.events.specs.Jobs.{Job, Pass}
use Rattle.board.specs.Shown.{Shown, Side, side_at, side_in, no_side, event_at, tables}
use Rattle.board.specs.Showing.{IsOwn, IsSideOf, AreSidesOf, EachShard}
use Rattle.board.specs.Steps.{out_with, with_side, after_claim_message, after_claim_request}
use Rattle.board.specs.Fitting.{FitsPlace}
use Rattle.board.proofs.Emitting.{emits_same}
use Rattle.board.specs.Kept.{IsKept, Goes}
use Rattle.board.specs.Commits.{IsOf}
use Rattle.board.specs.Claims.{IsTaken, HandsMessage, HandsRequest}
use Rattle.board.specs.Answers.{Hands, Holds, HasNoChoice}
use Rattle.board.proofs.BoardCalls.{names, same_names}
use Rattle.board.proofs.Claiming.{may_claim_message, shows_claim_message, may_claim_request, shows_claim_request}
use Rattle.board.proofs.Committed.{sides_put}
use Rattle.board.proofs.Keeping.{kept_more}
use Rattle.board.proofs.Later.{later}
use Rattle.board.proofs.Places.{index_set_here, index_set_other}
use Rattle.board.proofs.Ready as ready
use Rattle.board.proofs.Shards.{each_out}
use Rattle.board.proofs.Worlds.{no_other, no_other_back}

table_at : (xs : List Side) (k : ℕ) (t : TableId) → k < length xs → (side_in xs k).table ≡ t → slice_get (names xs) k ≡ Some t
table_at [] k t l e = absurd (omega arith)
table_at (x ∷ xs) zero t l e = ap Some e
table_at (x ∷ xs) (suc k) t l e = table_at xs k t (omega arith) e

-- two events that are out at one worker are the same
out_one : (i j : Job) → Out i ≡ Out j → i ≡ j
out_one i j e = cc

module _ (graph : Graph) (content : Pointstamp → ℕ) (s : Shown) (kept : IsKept graph content s) (k : ℕ) (there : k < length s.sides) (free : (side_at s k).place ≡ Home) where
  module _ (p : Pass) (taken : IsTaken s k p) (vertex : event_at (shown_graph s.graph) p.job.happening < length (shown_graph s.graph))
      (x : Side) (place : x.place ≡ Out p.job) (shards : x.shards ≡ slice_set (side_at s k).shards (event_at (shown_graph s.graph) p.job.happening) None)
      (wired : x.wired ≡ (side_at s k).wired) (table : x.table ≡ (side_at s k).table) where
    pub slot_there : event_at (shown_graph s.graph) p.job.happening < length (side_at s k).shards
    slot_there = let n = (kept.sides k there).shards in omega (arith, vertex, n)

    own_then : IsOwn s x p.job
    own_then = record {
      wired = taken.wired ∙ sym wired;
      vertex = vertex;
      away = (λ i. slice_index_or (shards i) (event_at (shown_graph s.graph) p.job.happening) None) ∙ index_set_here (side_at s k).shards (event_at (shown_graph s.graph) p.job.happening) None None slot_there;
      others = λ v lv ne.
          let h = ready.shard_home graph content s kept k there free v lv in
          (h.0, (λ i. slice_index_or (shards i) v None) ∙ index_set_other (side_at s k).shards (event_at (shown_graph s.graph) p.job.happening) v None None ne ∙ h.1);
    }

    side_then : IsSideOf s (length s.sides) x
    side_then = record {
      wired = wired ∙ (kept.sides k there).wired;
      shards = ap length shards ∙ length-set (side_at s k).shards (event_at (shown_graph s.graph) p.job.happening) None ∙ (kept.sides k there).shards;
      own = λ j e. subst (IsOwn s x) (out_one p.job j (sym place ∙ e)) own_then;
    }

    pub sides_out : AreSidesOf (with_side s k x) (length s.sides)
    sides_out i l =
        let two = sides_put s (length s.sides) k x there kept.sides side_then i (let n = length-set s.sides k x in omega (arith, l, n)) in
        record { wired = two.wired; shards = two.shards; own = λ j e. let z = two.own j e in record { wired = z.wired; vertex = z.vertex; away = z.away; others = z.others } }

    pub fits_out : EachShard (with_side s k x) (FitsPlace s.graph)
    fits_out i u l lu =
        each_out s k there (FitsPlace s.graph) (event_at (shown_graph s.graph) p.job.happening) p.job x kept.fitting free slot_there taken.shard shards place i u (let n = length-set s.sides k x in omega (arith, l, n)) lu

    here : side_in (slice_set s.sides k x) p.worker ≡ x
    here = ap (λ n. side_in (slice_set s.sides k x) n) taken.worker ∙ index_set_here s.sides k x no_side there

    pub holds_out : Holds (with_side s k x) p
    holds_out = ap (λ (z : Side). z.place) here ∙ place

    pub own_out : IsOf (with_side s k x) p
    own_out =
        table_at (slice_set s.sides k x) p.worker p.table (let n = length-set s.sides k x in let w = taken.worker in omega (arith, there, n, w))
        (ap (λ (z : Side). z.table) here ∙ table ∙ sym taken.table)

  module _ (runs : s.stopped ≡ false) (t : Shown) (at : ℕ) (p : Pass) where
    module _ (h : HandsMessage s t k at p) where
      v_is : event_at (shown_graph s.graph) p.job.happening ≡ target (shown_graph s.graph) h.message.edge
      v_is = ap (event_at (shown_graph s.graph)) h.happening

      v_there : event_at (shown_graph s.graph) p.job.happening < length (shown_graph s.graph)
      v_there = let l = ready.target_there graph content s kept k there free at h.message h.got in omega (arith, l, v_is)

      goes_then : Goes s (Step.claim_message k at h.message) (after_claim_message s k at p.job)
      goes_then =
          let x : Side = out_with (record (side_at s k) { mail = remove (side_at s k).mail at }) (event_at (shown_graph s.graph) p.job.happening) p.job in
          let slot = slot_there p h.taken v_there x refl refl refl refl in
          record {
            step = λ w shows.
                let ok = may_claim_message s w shows k there free p.job slot h.taken.shard at h.message h.happening h.got runs in
                (ok, shows_claim_message s w shows k there free p.job slot h.taken.shard at h.message h.happening h.got (later graph content s kept) ok);
            graph = refl;
            workers = length-set s.sides k x;
            emitted = emits_same s.emitted;
          }

      pub hands_message_kept : IsKept graph content t
      hands_message_kept =
          let x : Side = out_with (record (side_at s k) { mail = remove (side_at s k).mail at }) (event_at (shown_graph s.graph) p.job.happening) p.job in
          let both = goes_then.step kept.world kept.shows in
          subst (IsKept graph content) (sym h.state)
          (kept_more graph content s kept (Step.claim_message k at h.message) s.inputs (slice_set s.sides k x) s.emitted s.stopped graph content refl refl (length-set s.sides k x) refl
          (sides_out p h.taken v_there x refl refl refl refl) (fits_out p h.taken v_there x refl refl refl refl) kept.fed both.0 both.1 (λ q. refl))

      pub hands_message : Hands s k t p
      hands_message =
          let x : Side = out_with (record (side_at s k) { mail = remove (side_at s k).mail at }) (event_at (shown_graph s.graph) p.job.happening) p.job in
          record {
            taken = Step.claim_message k at h.message;
            by = refl;
            goes = subst (Goes s (Step.claim_message k at h.message)) (sym h.state) goes_then;
            worker = h.taken.worker;
            holds = (let P : Shown → Type 0 = λ z. Holds z p in subst P (sym h.state) (holds_out p h.taken v_there x refl refl refl refl));
            own = (let P : Shown → Type 0 = λ z. IsOf z p in subst P (sym h.state) (own_out p h.taken v_there x refl refl refl refl));
          }

      pub message_taken : hands_message.taken ≡ Step.claim_message k at h.message
      unfolding hands_message
      message_taken = refl

      pub hands_message_tables : tables t ≡ tables s
      hands_message_tables =
          let x : Side = out_with (record (side_at s k) { mail = remove (side_at s k).mail at }) (event_at (shown_graph s.graph) p.job.happening) p.job in
          ap tables h.state ∙ same_names s.sides k x refl

    module _ (h : HandsRequest s t k at p) (front : NoOtherOf (CouldResultIn graph) (λ q. 0 < content q) (request_pointstamp h.request)) where
      r_is : event_at (shown_graph s.graph) p.job.happening ≡ h.request.vertex
      r_is = ap (event_at (shown_graph s.graph)) h.happening

      r_there : event_at (shown_graph s.graph) p.job.happening < length (shown_graph s.graph)
      r_there = let l = (ready.good_request graph content s kept k there free at h.request h.got).fits.0 in omega (arith, l, r_is)

      goes_request : Goes s (Step.claim_request k at h.request) (after_claim_request s k at p.job)
      goes_request =
          let x : Side = out_with (record (side_at s k) { requests = remove (side_at s k).requests at }) (event_at (shown_graph s.graph) p.job.happening) p.job in
          let slot = slot_there p h.taken r_there x refl refl refl refl in
          record {
            step = λ w shows.
                let ok = may_claim_request s w shows k there free p.job slot h.taken.shard at h.request h.happening h.got runs (no_other graph content s kept w shows (request_pointstamp h.request) front) in
                (ok, shows_claim_request s w shows k there free p.job slot h.taken.shard at h.request h.happening h.got (later graph content s kept) ok);
            graph = refl;
            workers = length-set s.sides k x;
            emitted = emits_same s.emitted;
          }

      pub hands_request_kept : IsKept graph content t
      hands_request_kept =
          let x : Side = out_with (record (side_at s k) { requests = remove (side_at s k).requests at }) (event_at (shown_graph s.graph) p.job.happening) p.job in
          let both = goes_request.step kept.world kept.shows in
          subst (IsKept graph content) (sym h.state)
          (kept_more graph content s kept (Step.claim_request k at h.request) s.inputs (slice_set s.sides k x) s.emitted s.stopped graph content refl refl (length-set s.sides k x) refl
          (sides_out p h.taken r_there x refl refl refl refl) (fits_out p h.taken r_there x refl refl refl refl) kept.fed both.0 both.1 (λ q. refl))

      pub hands_request : Hands s k t p
      hands_request =
          let x : Side = out_with (record (side_at s k) { requests = remove (side_at s k).requests at }) (event_at (shown_graph s.graph) p.job.happening) p.job in
          record {
            taken = Step.claim_request k at h.request;
            by = refl;
            goes = subst (Goes s (Step.claim_request k at h.request)) (sym h.state) goes_request;
            worker = h.taken.worker;
            holds = (let P : Shown → Type 0 = λ z. Holds z p in subst P (sym h.state) (holds_out p h.taken r_there x refl refl refl refl));
            own = (let P : Shown → Type 0 = λ z. IsOf z p in subst P (sym h.state) (own_out p h.taken r_there x refl refl refl refl));
          }

      pub request_taken : hands_request.taken ≡ Step.claim_request k at h.request
      unfolding hands_request
      request_taken = refl

      pub hands_request_tables : tables t ≡ tables s
      hands_request_tables =
          let x : Side = out_with (record (side_at s k) { requests = remove (side_at s k).requests at }) (event_at (shown_graph s.graph) p.job.happening) p.job in
          ap tables h.state ∙ same_names s.sides k x refl

  -- a worker with no message and no deliverable request has no choice
  pub no_choice : length (side_at s k).mail ≡ 0
      → ((at : ℕ) (r : Request) → slice_get (side_at s k).requests at ≡ Some r → NoOtherOf (CouldResultIn graph) (λ q. 0 < content q) (request_pointstamp r) → ⊥) → HasNoChoice s k
  no_choice empty blocked w (Step.claim_message i at m) shows ok by =
      absurd (nothing (side_at s k).mail empty at m (ap (λ ms. slice_get ms at) (sym (shows.mail k there)) ∙ (let P : ℕ → Type 0 = λ n. slice_get (w.mail n) at ≡ Some m in subst P by ok.1)))
    where
      nothing : (xs : List Message) → length xs ≡ 0 → (at : ℕ) (m : Message) → slice_get xs at ≡ Some m → ⊥
      nothing [] l at m e = cc
      nothing (x ∷ xs) l at m e = omega (arith, l)
  no_choice empty blocked w (Step.claim_request i at r) shows ok by =
      blocked at r (ap (λ rs. slice_get rs at) (sym (shows.requests k there)) ∙ (let P : ℕ → Type 0 = λ n. slice_get (w.requests n) at ≡ Some r in subst P by ok.1)) (no_other_back graph content s kept w shows (request_pointstamp r) ok.2)
  no_choice empty blocked w (Step.feed i records) shows ok by = by
  no_choice empty blocked w (Step.seal i) shows ok by = by
  no_choice empty blocked w (Step.close i) shows ok by = by
  no_choice empty blocked w (Step.merge i at m n) shows ok by = by
  no_choice empty blocked w (Step.commit i event out) shows ok by = by
  no_choice empty blocked w (Step.abandon i event) shows ok by = by
