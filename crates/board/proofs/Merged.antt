-- A merge is one step, and keeps what a board keeps.
use Rattle.std.proofs.Common.{◌≡◌, ◌<◌, ◌+◌, ℕ, suc, false, List, length, refl, sym, ap, ◌∙◌, subst, arith, slice_get, slice_index_or, slice_set, Option, Some, None, IfSome, IfNone, Result, Ok, Err, OnOk, is_err, length-set}
use Rattle.semantics.specs.Graph.{Graph}
use Rattle.semantics.specs.Could.{Pointstamp}
use Rattle.graph.specs.Shown.{shown_graph}
use Rattle.machine.specs.Active.{message_pointstamp, one_if_same}
use Rattle.machine.specs.World.{World, Message}
use Rattle.machine.specs.Step.{Step, Allowed, after_step}
use Rattle.machine.proofs.Merges.{mail_merged}
use Rattle.tokens.specs.declared.rule.Place.TheVariants.{Home, Out}
use Rattle.vertices.specs.declared.shard.Shard.{Shard}
use Rattle.board.specs.Answers.{Merges}
use Rattle.board.specs.Claims.{MergesMail}
use Rattle.board.specs.WorkerShown.{WorkerShown, sides_of}
use Rattle.board.specs.Fitting.{FitsPlace}
use Rattle.board.specs.Kept.{Goes, IsKept}
use Rattle.board.specs.Merging.{AreMerged}
use Rattle.board.specs.Showing.{EachShard, IsSideOf, OnShard, Shows, ShowsIn, known_shard}
use Rattle.board.specs.Shown.{Shown, Side, held_of, net, no_side, side_at, side_in, tables}
use Rattle.board.specs.Steps.{with_side}
use Rattle.board.proofs.BoardCalls.{same_names}
use Rattle.board.proofs.Claiming.{may_claim}
use Rattle.board.proofs.Committed.{sides_put}
use Rattle.board.proofs.Emitting.{emits_same}
use Rattle.board.proofs.Handing.{worker_there, read_at}
use Rattle.board.proofs.Keeping.{kept_more}
use Rattle.board.proofs.Later.{later}
use Rattle.board.proofs.Still.{IsLater, after_still}
use Rattle.board.proofs.Places.{put_set_below, same_set}
use Rattle.board.proofs.MailboxRoom.{sides_same, sides_set}
use Rattle.board.proofs.Shards.{each_with}

-- where there is no error
pub granted : {T E P : Type 0} (r : Result T E) → is_err r ≡ false → OnOk r P → P
granted (Ok x) e p = p
granted (Err y) e p = absurd cc

-- what the worker has done is a step of the board's state
module _ (s : Shown) (ds : List WorkerShown) (same : sides_of ds ≡ s.sides) (k : ℕ) (there : k < length s.sides) (y d : WorkerShown) (read : y ≡ slice_index_or ds k y) (t : Shown)
    (graph : t.graph ≡ s.graph) (inputs : t.inputs ≡ s.inputs) (emitted : t.emitted ≡ s.emitted) (stopped : t.stopped ≡ s.stopped) (sides : t.sides ≡ sides_of (slice_set ds k d))
    (rest : d.side ≡ record y.side { mail = d.side.mail }) where
  state_then : t ≡ with_side s k (record (side_at s k) { mail = d.side.mail })
  state_then =
      let side : d.side ≡ record (side_at s k) { mail = d.side.mail } = rest ∙ ap (λ (x : Side). record x { mail = d.side.mail }) (read_at s ds same k there y read) in
      let all : t.sides ≡ slice_set s.sides k (record (side_at s k) { mail = d.side.mail }) = sides ∙ sides_set ds k d ∙ (λ i. slice_set (same i) k (side i)) in
      λ i. record { graph = graph i; inputs = inputs i; sides = all i; emitted = emitted i; stopped = stopped i }

  pub merges_some : (at : ℕ) (o : Option Pointstamp) → IfSome o (λ p. AreMerged y.side.mail d.side.mail at p) → IfSome o (λ p. MergesMail s t k at p)
  merges_some at None m = tt
  merges_some at (Some p) m = record { mail = d.side.mail; merges = subst (λ (x : Side). AreMerged x.mail d.side.mail at p) (read_at s ds same k there y read) m; state = state_then }

  merges_nothing : d.side.mail ≡ y.side.mail → t ≡ s
  merges_nothing e =
      let side : d.side ≡ y.side = rest ∙ ap (λ (ms : List Message). record y.side { mail = ms }) e in
      let all : t.sides ≡ s.sides = sides ∙ sides_same ds k d y (worker_there s ds same k there) read side ∙ same in
      λ i. record { graph = graph i; inputs = inputs i; sides = all i; emitted = emitted i; stopped = stopped i }

  pub merges_none : (o : Option Pointstamp) → IfNone o (d.side.mail ≡ y.side.mail) → IfNone o (t ≡ s)
  merges_none None e = merges_nothing e
  merges_none (Some p) e = tt

module _ (s : Shown) (k : ℕ) (there : k < length s.sides) (free : (side_at s k).place ≡ Home) (runs : s.stopped ≡ false) (t : Shown) (at : ℕ) (place : Pointstamp) (h : MergesMail s t k at place) where
  m : Message
  m = h.merges.alike.first

  n : Message
  n = h.merges.alike.second

  x : Side
  x = record (side_at s k) { mail = h.mail }

  pub may_merge : (w : World) → Shows s w → Allowed (net s) w (Step.merge k at h.merges.alike.first h.merges.alike.second)
  may_merge w is =
      let a = h.merges.alike in
      (may_claim s w is k there free runs, ap (λ ms. slice_get ms 0) (is.mail k there) ∙ a.got, ap (λ ms. slice_get ms (suc at)) (is.mail k there) ∙ a.other, a.may.edge, a.may.time)

  each_merged : (P : (worker vertex : ℕ) → Shard → Type 0) → EachShard s P → (i v : ℕ) → i < length s.sides → v < length (shown_graph s.graph) → OnShard (P i v) (known_shard (side_in (slice_set s.sides k x) i) v)
  unfolding x
  each_merged P each = each_with s k there P P x each (λ i v y ne o. o) (λ v lv. each k v there lv)

  shows_merge : IsLater s → (w : World) → Shows s w → Shows (with_side s k x) (after_step (net s) w (Step.merge k at m n))
  unfolding x m n
  shows_merge later w is =
      let many : length (slice_set s.sides k x) ≡ length s.sides = length-set s.sides k x in
      record {
        stopped = is.stopped;
        open_epoch = is.open_epoch;
        closed = is.closed;
        fed = is.fed;
        mail = λ i l. put_set_below (length s.sides) w.mail (λ (z : Side). z.mail) s.sides no_side k x (mail_merged (w.mail k) at m n) there (h.merges.mail ∙ ap (λ (ms : List Message). mail_merged ms at m n) (sym (is.mail k there))) is.mail i (omega (arith, l, many));
        requests = λ i l. same_set (length s.sides) w.requests (λ (z : Side). z.requests) s.sides no_side k x there refl is.requests i (omega (arith, l, many));
        held = λ i l. same_set (length s.sides) w.held (λ (z : Side). held_of z.place) s.sides no_side k x there refl is.held i (omega (arith, l, many));
        absorbed = λ i v l lv. after_still s later w is (Step.merge k at m n) (may_merge w is) (length (slice_set s.sides k x)) many i v refl (known_shard (side_in (slice_set s.sides k x) i) v)
            (each_merged (ShowsIn (net s) w) is.absorbed i v (omega (arith, l, many)) lv);
        emitted = is.emitted;
      }

  goes_then : IsLater s → Goes s (Step.merge k at h.merges.alike.first h.merges.alike.second) (with_side s k (record (side_at s k) { mail = h.mail }))
  unfolding x m n
  goes_then later = record { step = λ w is. (may_merge w is, shows_merge later w is); graph = refl; workers = length-set s.sides k x; emitted = emits_same s.emitted }

  pub merge_goes : IsLater s → Goes s (Step.merge k at h.merges.alike.first h.merges.alike.second) t
  merge_goes later = subst (Goes s (Step.merge k at h.merges.alike.first h.merges.alike.second)) (sym h.state) (goes_then later)

  pub merges : IsLater s → Merges s k at t
  merges later = (h.merges.alike.first, h.merges.alike.second, merge_goes later)

  -- one fewer pointstamp is active
  pub merge_kept : (graph : Graph) (content : Pointstamp → ℕ) → IsKept graph content s → (graph' : Graph) (content' : Pointstamp → ℕ) → graph' ≡ graph
      → ((q : Pointstamp) → content' q + one_if_same q place ≡ content q) → IsKept graph' content' t
  unfolding x m n
  merge_kept graph content kept graph' content' same counts =
      let both = (goes_then (later graph content s kept)).step kept.world kept.shows in
      let old = kept.sides k there in
      let many : length (slice_set s.sides k x) ≡ length s.sides = length-set s.sides k x in
      let side : IsSideOf s (length s.sides) x = record { wired = old.wired; shards = old.shards; own = λ j e. absurd (let z : Home ≡ Out j = sym free ∙ e in cc) } in
      subst (IsKept graph' content') (sym h.state)
      (kept_more graph content s kept (Step.merge k at m n) s.inputs (slice_set s.sides k x) s.emitted s.stopped graph' content' refl refl many same
      (λ i l.
      let two = sides_put s (length s.sides) k x there kept.sides side i (omega (arith, l, many)) in
      record { wired = two.wired; shards = two.shards; own = λ j e. let z = two.own j e in record { wired = z.wired; vertex = z.vertex; away = z.away; others = z.others } })
      (λ i v l lv. each_merged (FitsPlace s.graph) kept.fitting i v (omega (arith, l, many)) lv)
      kept.fed both.0 both.1 (λ q. let e : one_if_same q place ≡ one_if_same q (message_pointstamp h.merges.alike.second) = ap (one_if_same q) h.merges.place_is in let c = counts q in omega (arith, e, c)))

  pub merge_tables : tables t ≡ tables s
  merge_tables = ap tables h.state ∙ same_names s.sides k (record (side_at s k) { mail = h.mail }) refl
