-- Whether an event that is out would overflow, in a world that the board shows.
use Rattle.std.proofs.Common.{◌≡◌, ◌<◌, ◌⊎◌, inl, inr, ◌++◌, ℕ, zero, suc, List, [], ◌∷◌, length, refl, sym, ap, subst, arith, slice_index_or, Option, None}
use mathlib.Core.Path.{fun_ext}
use Rattle.semantics.specs.Multiset.{Record}
use Rattle.semantics.specs.Graph.{Graph, in_port, target, vertex}
use Rattle.semantics.specs.Could.{Pointstamp}
use Rattle.semantics.specs.Kinds.{Kind, Role, role}
use Rattle.semantics.specs.Op.{op, reads}
use Rattle.semantics.specs.Shard.{Absorbed, SendsAtNotification, SendsBy, absorbed_by}
use Rattle.semantics.specs.Time.{Time}
use Rattle.graph.specs.Shown.{shown_graph}
use Rattle.machine.specs.World.{Event, World}
use Rattle.machine.specs.Processing.{event_time, event_vertex}
use Rattle.rows.specs.Counts.{IsOver}
use Rattle.vertices.specs.Kept.{kept_by}
use Rattle.vertices.specs.Outs.{GoesOver, WouldNotifyOver}
use Rattle.vertices.specs.Shards.{shard_kind}
use Rattle.vertices.specs.declared.shard.Shard.{Shard}
use Rattle.tokens.specs.declared.rule.Place.{Place}
use Rattle.tokens.specs.declared.rule.Place.TheVariants.{Out}
use Rattle.events.specs.Jobs.{Job}
use Rattle.events.specs.TooMany.{CountsFit, CountsOver, IsOverAt}
use Rattle.events.specs.Wired.{Wired, graph_in}
use Rattle.board.specs.Fitting.{FitsPlace, FitsVertex}
use Rattle.board.specs.Kept.{IsKept}
use Rattle.board.specs.Overflow.{Overflows}
use Rattle.board.specs.Shown.{Shown, Side, event_at, net, side_at, side_in}
use Rattle.board.specs.Showing.{AgreeAt, OnShard, Shows, ShowsIn, known}
use Rattle.board.proofs.Committing.{agrees, was}
use Rattle.board.proofs.Facts.{net_of, own, wired_here}
use Rattle.board.proofs.Still.{absorbed_same, read_same}

-- a worker that has an event out is there
pub out_within : (xs : List Side) (k : ℕ) (j : Job) → (side_in xs k).place ≡ Out j → k < length xs
out_within [] k j e = absurd cc
out_within (x ∷ xs) zero j e = omega arith
out_within (x ∷ xs) (suc k) j e = let l = out_within xs k j e in omega (arith, l)

-- ---- what was absorbed at the time is the same

kept_same : (role : Role) (a b : Absorbed) (port : ℕ) (t : Time) (records : List Record) → ((p : ℕ) → a p t ≡ b p t) → kept_by role a port t records ≡ kept_by role b port t records
kept_same Role.input a b port t records same = refl
kept_same Role.stateless a b port t records same = refl
kept_same Role.stateful a b port t records same = ap (λ xs. xs ++ records) (same port)
kept_same Role.notified a b port t records same = ap (λ xs. xs ++ records) (same port)
kept_same Role.output a b port t records same = refl

over_same : (kind : Kind) (t : Time) (a b : Absorbed) (port : ℕ) (records : List Record) → ((p : ℕ) → a p t ≡ b p t) → GoesOver kind t a port records → GoesOver kind t b port records
over_same kind t a b port records same (inl h) = inl (subst IsOver (kept_same (role kind) a b port t records same) h)
over_same kind t a b port records same (inr h) =
    let before : (λ (p : ℕ). a p t) ≡ (λ p. b p t) = fun_ext same in
    let now : (λ (p : ℕ). absorbed_by (role kind) a port t records p t) ≡ (λ p. absorbed_by (role kind) b port t records p t) = fun_ext (λ p. absorbed_same (role kind) a b port t records p t (same p)) in
    let First : (ℕ → List Record) → Type 0 = λ f. SendsBy (role kind) (λ q ins. op kind t ins q) f (λ p. absorbed_by (role kind) a port t records p t) port records h.0 in
    let Second : (ℕ → List Record) → Type 0 = λ f. SendsBy (role kind) (λ q ins. op kind t ins q) (λ p. b p t) f port records h.0 in
    inr (h.0, subst Second now (subst First before h.1), h.2, h.3)

notified_same : (kind : Kind) (t : Time) (a b : Absorbed) → ((p : ℕ) → reads kind a t p ≡ reads kind b t p) → WouldNotifyOver kind t a → WouldNotifyOver kind t b
notified_same kind t a b same (would, said, q, over) = (would, subst (λ f. SendsAtNotification (λ q ins. op kind t ins q) f would) (fun_ext same) said, q, over)

to_world : (s : Shown) (w : World) (k : ℕ) (shard : Shard) (e : Event) (a : Absorbed) → shard_kind shard ≡ (vertex (shown_graph s.graph) (event_at (shown_graph s.graph) e)).kind
    → AgreeAt (net s) (event_vertex (net s) e) a (w.absorbed k (event_vertex (net s) e)) (event_time e) → IsOverAt (shown_graph s.graph) shard e a → Overflows (shown_graph s.graph) w k e
to_world s w k shard (Event.arrival m) a kind same h =
    let g : Graph = shown_graph s.graph in
    subst (λ (x : Kind). GoesOver x m.time (w.absorbed k (target g m.edge)) (in_port g m.edge) m.records) kind
    (over_same (shard_kind shard) m.time a (w.absorbed k (target g m.edge)) (in_port g m.edge) m.records same.here h)
to_world s w k shard (Event.notification n) a kind same h =
    let x : Kind = (vertex (shown_graph s.graph) n.vertex).kind in
    notified_same x n.time a (w.absorbed k n.vertex) (read_same x a (w.absorbed k n.vertex) n.time same.here same.back) (subst (λ (x : Kind). WouldNotifyOver x n.time a) kind h)

from_world : (s : Shown) (w : World) (k : ℕ) (shard : Shard) (e : Event) (a : Absorbed) → shard_kind shard ≡ (vertex (shown_graph s.graph) (event_at (shown_graph s.graph) e)).kind
    → AgreeAt (net s) (event_vertex (net s) e) a (w.absorbed k (event_vertex (net s) e)) (event_time e) → Overflows (shown_graph s.graph) w k e → IsOverAt (shown_graph s.graph) shard e a
from_world s w k shard (Event.arrival m) a kind same h =
    let g : Graph = shown_graph s.graph in
    over_same (shard_kind shard) m.time (w.absorbed k (target g m.edge)) a (in_port g m.edge) m.records (λ p. sym (same.here p))
    (subst (λ (x : Kind). GoesOver x m.time (w.absorbed k (target g m.edge)) (in_port g m.edge) m.records) (sym kind) h)
from_world s w k shard (Event.notification n) a kind same h =
    let x : Kind = (vertex (shown_graph s.graph) n.vertex).kind in
    subst (λ (x : Kind). WouldNotifyOver x n.time a) (sym kind) (notified_same x n.time (w.absorbed k n.vertex) a (λ p. sym (read_same x a (w.absorbed k n.vertex) n.time same.here same.back p)) h)

module _ (graph : Graph) (content : Pointstamp → ℕ) (s : Shown) (kept : IsKept graph content s) (w : World) (is : Shows s w) (k : ℕ) (there : k < length s.sides) (j : Job)
    (out : (side_at s k).place ≡ Out j) where
  showed : ShowsIn (net s) w k (event_vertex (net s) j.happening) j.before
  showed = was (net s) s (net_of graph content s kept) w is k there j out (own graph content s kept k there j out)

  same : AgreeAt (net s) (event_vertex (net s) j.happening) showed.kept (w.absorbed k (event_vertex (net s) j.happening)) (event_time j.happening)
  same = agrees (net s) s (net_of graph content s kept) w is k there j out showed

  kind_is : shard_kind j.before ≡ (vertex (shown_graph s.graph) (event_at (shown_graph s.graph) j.happening)).kind
  kind_is =
      let v : ℕ = event_at (shown_graph s.graph) j.happening in
      let its = own graph content s kept k there j out in
      let P : Option Shard → Type 0 = λ o. OnShard (FitsPlace s.graph k v) (known o (Out j)) in
      let Q : Place Job → Type 0 = λ p. OnShard (FitsPlace s.graph k v) (known (slice_index_or (side_at s k).shards v None) p) in
      let fits : FitsVertex s.graph v j.before = subst P its.away (subst Q out (kept.fitting k v there its.vertex)) in
      fits.kind

  pub overflows : CountsOver j → Overflows (shown_graph s.graph) w k j.happening
  overflows over =
      to_world s w k j.before j.happening showed.kept kind_is same
      (subst (λ (x : Wired). IsOverAt (graph_in x) j.before j.happening showed.kept) (wired_here graph content s kept k there j out) (over showed.kept showed.shows))

  pub never_overflows : CountsFit j → Overflows (shown_graph s.graph) w k j.happening → ⊥
  never_overflows fit over =
      fit showed.kept showed.shows
      (subst (λ (x : Wired). IsOverAt (graph_in x) j.before j.happening showed.kept) (sym (wired_here graph content s kept k there j out))
      (from_world s w k j.before j.happening showed.kept kind_is same over))
