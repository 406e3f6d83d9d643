-- What a shard shows of the times that can still come: a step lets no other time come, and an event at a time asks only for what came then.
use Rattle.std.proofs.Common.{◌≡◌, ℕ, ◌-◌, ◌==◌, nat_lt, Bool, true, false, cond, List, [], ◌∷◌, ◌++◌, length, sym, ap, ◌∙◌, subst, Option, Some, None, refl}
use Rattle.std.specs.List.{AllByRecursion, flat_map}
use mathlib.Core.Path.{fun_ext}
use Rattle.semantics.specs.Graph.{Graph, vertex}
use Rattle.semantics.specs.Kinds.{Kind, Role, in_ports, looks_back}
use Rattle.semantics.specs.Multiset.{Record, end_to_end}
use Rattle.semantics.specs.Op.{reads, reads_back, reads_if}
use Rattle.semantics.specs.Shard.{Absorbed, absorbed_by, SendsBy, SendsAtNotification, asks}
use Rattle.semantics.specs.Time.{Time, same_time, earlier_turns}
use Rattle.graph.specs.Shown.{shown_graph}
use Rattle.machine.specs.Engine.{network}
use Rattle.machine.specs.Network.{Network}
use Rattle.machine.specs.Processing.{Makes, asked, event_time, event_vertex}
use Rattle.machine.specs.Step.{Step, Allowed, absorbed_after, after_step}
use Rattle.machine.specs.World.{World, Request, Event}
use Rattle.machine.proofs.Absorbing.{absorbed_there, shard_there, with_shard}
use Rattle.vertices.specs.declared.shard.Shard.{Shard}
use Rattle.board.specs.Shown.{Shown, net}
use Rattle.board.specs.Showing.{AgreeAt, CanCome, OnShard, Shows, ShowsIn}

-- ---- steps

-- what can come after a step could come before it, in each world that is shown
abbrev pub IsLater : Shown → Type 0
IsLater s = (w : World) → Shows s w → (step : Step) → Allowed (net s) w step → (v : ℕ) (t : Time) → CanCome (net s) (after_step (net s) w step) v t → CanCome (net s) w v t

-- a shard shows as much in a world where no more can come and the same was absorbed
pub still : (g : Network) (w now : World) (k v : ℕ) (x : Shard) → ((t : Time) → CanCome g now v t → CanCome g w v t) → now.absorbed k v ≡ w.absorbed k v → ShowsIn g w k v x → ShowsIn g now k v x
still g w now k v x later same h = record {
  kept = h.kept;
  shows = h.shows;
  same = λ t c. let P : Absorbed → Type 0 = λ b. AgreeAt g v h.kept b t in subst P (sym same) (h.same t (later t c));
}

pub on_shard : (P Q : Shard → Type 0) → ((x : Shard) → P x → Q x) → (o : Option Shard) → OnShard P o → OnShard Q o
on_shard P Q f None h = h
on_shard P Q f (Some x) h = f x h

-- the same after a step by which nothing is absorbed, for as many workers
pub after_still : (s : Shown) → IsLater s → (w : World) → Shows s w → (step : Step) → Allowed (net s) w step → (workers : ℕ) → workers ≡ length s.sides → (k v : ℕ)
    → (after_step (net s) w step).absorbed k v ≡ w.absorbed k v → (o : Option Shard)
    → OnShard (ShowsIn (net s) w k v) o → OnShard (ShowsIn (network (shown_graph s.graph) workers) (after_step (net s) w step) k v) o
after_still s later w is step ok workers many k v same o h =
    let now : World = after_step (net s) w step in
    let P : ℕ → Type 0 = λ n. OnShard (ShowsIn (network (shown_graph s.graph) n) now k v) o in
    subst P (sym many) (on_shard (ShowsIn (net s) w k v) (ShowsIn (net s) now k v) (λ x. still (net s) w now k v x (later w is step ok v) same) o h)

-- ---- what an equation reads

all_same : (P Q : Time → Type 0) → ((u : Time) → P u → Q u) → (us : List Time) → AllByRecursion P us → AllByRecursion Q us
all_same P Q f [] h = h
all_same P Q f (u ∷ us) h = (f u h.0, all_same P Q f us h.1)

-- what is read at a time is the same, if the same came then and in the times that are looked back at
pub read_same : (kind : Kind) (a b : Absorbed) (t : Time) → ((p : ℕ) → a p t ≡ b p t) → AllByRecursion (λ u. (p : ℕ) → a p u ≡ b p u) (reads_back kind t) → (place : ℕ) → reads kind a t place ≡ reads kind b t place
read_same kind a b t here back place = go (looks_back kind) back
  where
    earlier : (port : ℕ) (us : List Time) → AllByRecursion (λ u. (p : ℕ) → a p u ≡ b p u) us → flat_map (a port) us ≡ flat_map (b port) us
    earlier port [] h = refl
    earlier port (u ∷ us) h = λ i. h.0 port i ++ earlier port us h.1 i

    go : (l : Bool) → AllByRecursion (λ u. (p : ℕ) → a p u ≡ b p u) (cond l (earlier_turns t) []) → reads_if l (in_ports kind) a t place ≡ reads_if l (in_ports kind) b t place
    go false h = here place
    go true h = by (nat_lt place (in_ports kind))
      where
        by : (c : Bool) → cond c (a place t) (flat_map (a (in_ports kind - 1)) (earlier_turns t)) ≡ cond c (b place t) (flat_map (b (in_ports kind - 1)) (earlier_turns t))
        by true = here place
        by false = earlier (in_ports kind - 1) (earlier_turns t) h

-- where two agree, the same is read
pub reads_same : (G : Graph) (workers : ℕ) (v : ℕ) (a b : Absorbed) (t : Time) → AgreeAt (network G workers) v a b t
    → (place : ℕ) → (network G workers).reads v a t place ≡ (network G workers).reads v b t place
reads_same G workers v a b t agree place = read_same (vertex G v).kind a b t agree.here agree.back place

-- ---- an event

pub absorbed_same : (role : Role) (a b : Absorbed) (port : ℕ) (t : Time) (records : List Record) (p : ℕ) (u : Time) → a p u ≡ b p u
    → absorbed_by role a port t records p u ≡ absorbed_by role b port t records p u
absorbed_same Role.input a b port t records p u e = e
absorbed_same Role.stateless a b port t records p u e = e
absorbed_same Role.stateful a b port t records p u e = ap (λ xs. xs ++ cond (port == p) (cond (same_time t u) records []) []) e
absorbed_same Role.notified a b port t records p u e = ap (λ xs. xs ++ cond (port == p) (cond (same_time t u) records []) []) e
absorbed_same Role.output a b port t records p u e = e

-- the world in which a worker has absorbed at a vertex what its shard has kept
abbrev pub kept_world : World → (k v : ℕ) → Absorbed → World
kept_world w k v a = record w { absorbed = with_shard w k v a }

module _ (g : Network) (w : World) (k : ℕ) (reads : (v : ℕ) (a b : Absorbed) (t : Time) → AgreeAt g v a b t → (place : ℕ) → g.reads v a t place ≡ g.reads v b t place) where
  -- what an event sends is the same
  pub makes_as : (event : Event) (out : ℕ → List Record) (a : Absorbed) → AgreeAt g (event_vertex g event) a (w.absorbed k (event_vertex g event)) (event_time event)
      → Makes g (kept_world w k (event_vertex g event) a) k event out → Makes g w k event out
  makes_as (Event.arrival m) out a agree made =
      let v : ℕ = g.target m.edge in
      let role : Role = g.role v in
      let b : Absorbed = w.absorbed k v in
      let F : Absorbed → Type 0 = λ x. SendsBy role (λ q. g.op v q m.time) (λ p. x p m.time) (λ p. absorbed_by role x (g.in_port m.edge) m.time m.records p m.time) (g.in_port m.edge) m.records out in
      let one : F a = subst F (shard_there w k v a) made in
      let before : (λ (p : ℕ). a p m.time) ≡ (λ p. b p m.time) = fun_ext (λ p. agree.here p) in
      let now : (λ (p : ℕ). absorbed_by role a (g.in_port m.edge) m.time m.records p m.time) ≡ (λ p. absorbed_by role b (g.in_port m.edge) m.time m.records p m.time) =
      fun_ext (λ p. absorbed_same role a b (g.in_port m.edge) m.time m.records p m.time (agree.here p)) in
      let First : (ℕ → List Record) → Type 0 = λ f. SendsBy role (λ q. g.op v q m.time) f (λ p. absorbed_by role a (g.in_port m.edge) m.time m.records p m.time) (g.in_port m.edge) m.records out in
      let Second : (ℕ → List Record) → Type 0 = λ f. SendsBy role (λ q. g.op v q m.time) (λ p. b p m.time) f (g.in_port m.edge) m.records out in
      subst Second now (subst First before one)
  makes_as (Event.notification n) out a agree made =
      let b : Absorbed = w.absorbed k n.vertex in
      let F : Absorbed → Type 0 = λ x. SendsAtNotification (λ q. g.op n.vertex q n.time) (g.reads n.vertex x n.time) out in
      let one : F a = subst F (shard_there w k n.vertex a) made in
      let G : (ℕ → List Record) → Type 0 = λ f. SendsAtNotification (λ q. g.op n.vertex q n.time) f out in
      let same : g.reads n.vertex a n.time ≡ g.reads n.vertex b n.time = fun_ext (λ p. reads n.vertex a b n.time agree p) in
      subst G same one

module _ (g : Network) (w : World) (k : ℕ) where
  -- what it asks for is the same
  pub asked_as : (event : Event) (a : Absorbed) → AgreeAt g (event_vertex g event) a (w.absorbed k (event_vertex g event)) (event_time event)
      → asked g (kept_world w k (event_vertex g event) a) k event ≡ asked g w k event
  asked_as (Event.notification n) a agree = refl
  asked_as (Event.arrival m) a agree =
      let v : ℕ = g.target m.edge in
      let first : List Request = record { vertex = v; time = m.time } ∷ [] in
      ap (λ (x : Absorbed). cond (asks (g.role v) (end_to_end (λ p. x p m.time) (g.ports v))) first []) (shard_there w k v a)
      ∙ ap (λ (f : ℕ → List Record). cond (asks (g.role v) (end_to_end f (g.ports v))) first []) (fun_ext (λ p. agree.here p))

  -- where what was absorbed is the same, it is the same after the event
  pub absorbed_as : (event : Event) (a : Absorbed) (p : ℕ) (u : Time) → a p u ≡ w.absorbed k (event_vertex g event) p u
      → absorbed_after g (kept_world w k (event_vertex g event) a) k event k (event_vertex g event) p u ≡ absorbed_after g w k event k (event_vertex g event) p u
  absorbed_as (Event.notification n) a p u e = ap (λ (x : Absorbed). x p u) (shard_there w k n.vertex a) ∙ e
  absorbed_as (Event.arrival m) a p u e =
      let v : ℕ = g.target m.edge in
      let told : World = record w { absorbed = with_shard w k v a } in
      ap (λ (x : Absorbed). x p u) (absorbed_there g told k m)
      ∙ ap (λ (x : Absorbed). absorbed_by (g.role v) x (g.in_port m.edge) m.time m.records p u) (shard_there w k v a)
      ∙ absorbed_same (g.role v) a (w.absorbed k v) (g.in_port m.edge) m.time m.records p u e
      ∙ sym (ap (λ (x : Absorbed). x p u) (absorbed_there g w k m))

  pub agree_after : (event : Event) (a : Absorbed) (t : Time) → AgreeAt g (event_vertex g event) a (w.absorbed k (event_vertex g event)) t
      → AgreeAt g (event_vertex g event) (λ p u. absorbed_after g (kept_world w k (event_vertex g event) a) k event k (event_vertex g event) p u) (absorbed_after g w k event k (event_vertex g event)) t
  agree_after event a t agree = record {
    here = λ p. absorbed_as event a p t (agree.here p);
    back = all_same (λ u. (p : ℕ) → a p u ≡ w.absorbed k (event_vertex g event) p u) _ (λ u same p. absorbed_as event a p u (same p)) (g.reads_back (event_vertex g event) t) agree.back;
  }
