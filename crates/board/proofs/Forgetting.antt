-- What a board shows after a shard has let go of a time that has passed at its vertex.
use Rattle.std.proofs.Common.{◌≡◌, ◌<◌, ℕ, Bool, true, false, cond, List, [], length, refl, sym, ap, ◌∙◌, subst, arith, slice_set, slice_index_or, Option, Some, None, length-set}
use Rattle.std.specs.List.{AllByRecursion}
use Rattle.semantics.specs.Could.{Pointstamp, CouldResultIn, Location, NoneOf, at_vertex}
use Rattle.semantics.specs.Graph.{Graph, vertex}
use Rattle.semantics.specs.Kinds.{looks_back}
use Rattle.semantics.specs.Shard.{Absorbed}
use Rattle.semantics.specs.Time.{Time, earlier_turns, same_time}
use Rattle.semantics.specs.Dataflow.{IsDataflow}
use Rattle.graph.specs.Shown.{GraphValue, shown_graph}
use Rattle.machine.specs.Active.{active_count}
use Rattle.machine.specs.Engine.{network}
use Rattle.machine.specs.Frontier.{NoneBefore, PassedBelow, SealedTo}
use Rattle.machine.specs.Network.{Network}
use Rattle.machine.specs.Run.{Run}
use Rattle.machine.specs.Step.{Allowed, after_step}
use Rattle.machine.specs.World.{World, opening}
use Rattle.vertices.specs.Shards.{shard_kind}
use Rattle.vertices.specs.declared.shard.Shard.{Shard}
use Rattle.vertices.proofs.Times.{one_time}
use Rattle.tokens.specs.declared.rule.Place.TheVariants.{Home, Out}
use Rattle.events.specs.Jobs.{Pass}
use Rattle.views.specs.Waiting.{IsSeenBy, Waiting}
use Rattle.board.specs.Answers.{Hands}
use Rattle.board.specs.Fitting.{FitsPlace, FitsVertex}
use Rattle.board.specs.Forgetting.{ForgetsAt, KeepsLess, MayForget}
use Rattle.board.specs.Kept.{IsKept, Keeps, open_count}
use Rattle.board.specs.Seals.{HavePassed}
use Rattle.board.specs.Showing.{AgreeAt, AreSidesOf, CanCome, EachShard, IsSideOf, OnShard, Shows, ShowsIn, known, known_shard}
use Rattle.board.specs.Shown.{EmitsBehind, Epochs, Shown, Side, held_of, net, no_side, side_at, side_in}
use Rattle.board.specs.Steps.{with_side}
use Rattle.board.proofs.BoardCalls.{same_names}
use Rattle.board.proofs.Committed.{sides_put}
use Rattle.board.proofs.Counts.{passed_there, sealed_there}
use Rattle.board.proofs.Places.{index_set_here, same_set}
use Rattle.board.proofs.Shards.{each_changed}
use Rattle.board.proofs.Worlds as worlds
use Rattle.board.proofs.Seeing.{seen_moved}

one_vertex : (u v : ℕ) → Location.vertex u ≡ Location.vertex v → u ≡ v
one_vertex u v e = cc

one_shard : (x y : Shard) → Some x ≡ Some y → x ≡ y
one_shard x y e = cc

-- where a kind reads only what came at its time, two need agree only there
none_back : (back : Bool) (a b : Absorbed) (t : Time) → back ≡ false → AllByRecursion (λ u. (p : ℕ) → a p u ≡ b p u) (cond back (earlier_turns t) [])
none_back back a b t e = let P : Bool → Type 0 = λ x. AllByRecursion (λ u. (p : ℕ) → a p u ≡ b p u) (cond x (earlier_turns t) []) in subst P (sym e) tt

module _ (graph : Graph) (content : Pointstamp → ℕ) (s : Shown) (kept : IsKept graph content s) (k : ℕ) (there : k < length s.sides) (free : (side_at s k).place ≡ Home)
    (p : Pointstamp) (may : MayForget s k p) (none : NoneOf (CouldResultIn graph) (λ q. 0 < content q) p) (t : Shown) (h : ForgetsAt s t k p) where
  v : ℕ
  v = h.vertex

  x : Side
  x = record (side_at s k) { shards = slice_set (side_at s k).shards h.vertex (Some h.new) }

  same_vertex : may.vertex ≡ h.vertex
  same_vertex = one_vertex may.vertex h.vertex (sym may.at ∙ h.at)

  vertex_there : h.vertex < length (shown_graph s.graph)
  vertex_there = let l = may.located.0 in let e = same_vertex in omega (arith, l, e)

  slot_there : h.vertex < length (side_at s k).shards
  slot_there = let l = vertex_there in let n = (kept.sides k there).shards in omega (arith, l, n)

  old_is : may.shard.0 ≡ h.old
  old_is = one_shard may.shard.0 h.old (sym may.shard.1 ∙ (λ i. slice_index_or (side_at s k).shards (same_vertex i) None) ∙ h.was)

  fits_old : FitsVertex s.graph h.vertex h.old
  fits_old =
      let P : Option Shard → Type 0 = λ o. OnShard (FitsPlace s.graph k h.vertex) (known o (side_at s k).place) in
      subst P h.was (kept.fitting k h.vertex there vertex_there)

  ahead : looks_back (vertex (shown_graph s.graph) h.vertex).kind ≡ false
  ahead = ap looks_back (sym fits_old.kind) ∙ ap (λ (z : Shard). looks_back (shard_kind z)) (sym old_is) ∙ may.shard.2

  place_is : p ≡ at_vertex h.vertex p.time
  place_is = λ i. record { time = p.time; location = h.at i }

  module _ (w : World) (is : Shows s w) where
    passed : NoneBefore (net s) w (at_vertex h.vertex p.time)
    passed = subst (λ (q : Pointstamp). NoneBefore (net s) w q) place_is (worlds.none graph content s kept w is p none)

    less_shown : (y : Shard) → ShowsIn (net s) w k h.vertex h.old → ShowsIn (net s) w k h.vertex h.new
    less_shown y was =
        let f = h.go.forgets was.kept was.shows in
        record { kept = f.0; shows = f.1; same = λ u c. agree u c (same_time p.time u) refl }
      where
        agree : (u : Time) → CanCome (net s) w h.vertex u → (b : Bool) → same_time p.time u ≡ b → AgreeAt (net s) h.vertex (h.go.forgets was.kept was.shows).0 (w.absorbed k h.vertex) u
        agree u c true e =
            let P : Time → Type 0 = λ z. (net s).Could c.0 (at_vertex h.vertex z) in
            absurd (passed c.0 c.1 (subst P (sym (one_time p.time u e)) c.2))
        agree u c false e = record {
          here = λ q. (h.go.forgets was.kept was.shows).2 u e q ∙ (was.same u c).here q;
          back = none_back (looks_back (vertex (shown_graph s.graph) h.vertex).kind) (h.go.forgets was.kept was.shows).0 (w.absorbed k h.vertex) u ahead;
        }

    shows_less : Shows (with_side s k x) w
    unfolding x
    shows_less =
        let n : length (slice_set s.sides k x) ≡ length s.sides = length-set s.sides k x in
        let at : ShowsIn (net s) w k h.vertex h.old = (let P : Option Shard → Type 0 = λ o. OnShard (ShowsIn (net s) w k h.vertex) (known o (side_at s k).place) in subst P h.was (is.absorbed k h.vertex there vertex_there)) in
        record {
          stopped = is.stopped;
          open_epoch = is.open_epoch;
          closed = is.closed;
          fed = is.fed;
          mail = λ i l. same_set (length s.sides) w.mail (λ (z : Side). z.mail) s.sides no_side k x there refl is.mail i (omega (arith, l, n));
          requests = λ i l. same_set (length s.sides) w.requests (λ (z : Side). z.requests) s.sides no_side k x there refl is.requests i (omega (arith, l, n));
          held = λ i l. same_set (length s.sides) w.held (λ (z : Side). held_of z.place) s.sides no_side k x there refl is.held i (omega (arith, l, n));
          absorbed = λ i u l lu.
              let P : ℕ → Type 0 = λ m. OnShard (ShowsIn (network (shown_graph s.graph) m) w i u) (known_shard (side_in (slice_set s.sides k x) i) u) in
              subst P (sym n) (each_changed s k there (ShowsIn (net s) w) (ShowsIn (net s) w) h.vertex h.new x is.absorbed slot_there refl refl (less_shown h.old at) (λ a b z o. o) i u (omega (arith, l, n)) lu);
          emitted = is.emitted;
        }

  pub keeps_less : KeepsLess s t k
  unfolding x
  keeps_less =
      let P : Shown → Type 0 = λ z. KeepsLess s z k in
      let here : side_in (slice_set s.sides k x) k ≡ x = index_set_here s.sides k x no_side there in
      subst P (sym h.state) (record {
        shows = shows_less;
        graph = refl;
        workers = length-set s.sides k x;
        inputs = refl;
        emitted = refl;
        stopped = refl;
        mail = ap (λ (z : Side). z.mail) here;
        place = ap (λ (z : Side). z.place) here;
        tables = same_names s.sides k x refl;
      })

  fits_less : EachShard (with_side s k x) (FitsPlace s.graph)
  unfolding x
  fits_less i u l lu =
      let new : FitsVertex s.graph h.vertex h.new = record { kind = h.go.kind ∙ fits_old.kind; takes = λ port lp. h.go.takes port _ (fits_old.takes port lp) } in
      each_changed s k there (FitsPlace s.graph) (FitsPlace s.graph) h.vertex h.new x kept.fitting slot_there refl refl new (λ a b z o. o) i u (let n = length-set s.sides k x in omega (arith, l, n)) lu

  sides_less : AreSidesOf (with_side s k x) (length s.sides)
  unfolding x
  sides_less i l =
      let old = kept.sides k there in
      let side : IsSideOf s (length s.sides) x = record { wired = old.wired; shards = length-set (side_at s k).shards h.vertex (Some h.new) ∙ old.shards; own = λ j e. absurd (let z : Home ≡ Out j = sym free ∙ e in cc) } in
      let two = sides_put s (length s.sides) k x there kept.sides side i (let n = length-set s.sides k x in omega (arith, l, n)) in
      record { wired = two.wired; shards = two.shards; own = λ j e. let z = two.own j e in record { wired = z.wired; vertex = z.vertex; away = z.away; others = z.others } }

  pub kept_less : IsKept graph content t
  unfolding x
  kept_less =
      let many : length (slice_set s.sides k x) ≡ length s.sides = length-set s.sides k x in
      let Owns : ℕ → Type 0 = λ n. AreSidesOf (with_side s k x) n in
      let Runs : ℕ → Type 0 = λ n. Run (network (shown_graph s.graph) n) opening kept.steps kept.world in
      let Tracks : ℕ → Type 0 = λ n. (q : Pointstamp) → content q ≡ active_count (network (shown_graph s.graph) n) kept.world q in
      subst (IsKept graph content) (sym h.state) (record {
        flows = kept.flows;
        some = (let l = kept.some in omega (arith, l, many));
        few = (let l = kept.few in omega (arith, l, many));
        same = kept.same;
        inputs = kept.inputs;
        room = kept.room;
        sides = subst Owns (sym many) sides_less;
        typed = kept.typed;
        fitting = fits_less;
        steps = kept.steps;
        world = kept.world;
        run = subst Runs (sym many) kept.run;
        shows = shows_less kept.world kept.shows;
        fed = kept.fed;
        tracked = subst Tracks (sym many) kept.tracked;
      })

  passed_less : (n : ℕ) → HavePassed s n → HavePassed t n
  passed_less n have w is =
      let less = keeps_less in
      let flows : IsDataflow (shown_graph t.graph) = (let P : GraphValue → Type 0 = λ g. IsDataflow (shown_graph g) in subst P (sym less.graph) kept.flows) in
      let some : 0 < length t.sides = (let l = kept.some in let n = less.workers in omega (arith, l, n)) in
      let P : Network → Type 0 = λ g. SealedTo g kept.world n × PassedBelow g kept.world n in
      let same : net t ≡ net s = λ i. network (shown_graph (less.graph i)) (less.workers i) in
      let got = subst P (sym same) (have kept.world kept.shows) in
      (sealed_there t flows some kept.world w (less.shows kept.world kept.shows) is n got.0, (λ u e role l. passed_there t flows some kept.world w (less.shows kept.world kept.shows) is u e (got.1 u e role l)))

  pub keeps_forgotten : (viewers : ℕ) (waiting : Waiting) (room : ℕ) (late : Bool) (known : ℕ) → Keeps graph viewers content waiting room late known s → Keeps graph viewers content waiting room late known t
  keeps_forgotten viewers waiting room late known keeps =
      let less = keeps_less in
      record {
        kept = kept_less;
        viewers_are = keeps.viewers_are ∙ sym less.workers;
        closes = (let l = keeps.closes in let e = ap open_count less.inputs in omega (arith, l, e));
        prompt = keeps.prompt;
        passed_are = passed_less known keeps.passed_are;
        passed_seen = seen_moved graph graph viewers viewers content waiting s t known refl refl less.graph keeps.passed_seen;
      }

-- what was handed out behind it was handed out before
pub hands_before : (s u t : Shown) (k : ℕ) (p : Pass) → KeepsLess s u k → Hands u k t p → Hands s k t p
hands_before s u t k p less h = record {
  taken = h.taken;
  by = h.by;
  goes = record {
    step = λ w is.
        let P : Network → Type 0 = λ g. Allowed g w h.taken × Shows t (after_step g w h.taken) in
        subst P (λ i. network (shown_graph (less.graph i)) (less.workers i)) (h.goes.step w (less.shows w is));
    graph = h.goes.graph ∙ less.graph;
    workers = h.goes.workers ∙ less.workers;
    emitted = let P : List Epochs → Type 0 = λ es. EmitsBehind es t.emitted in subst P less.emitted h.goes.emitted;
  };
  worker = h.worker;
  holds = h.holds;
  own = h.own;
}
