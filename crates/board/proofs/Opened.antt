-- A new board keeps what a board keeps, and is in the opening state.
use Rattle.std.proofs.Common.{◌≡◌, ◌<◌, ◌≤◌, ℕ, [], length, sym, ◌∙◌, subst, arith, Option, Some, None, slice_index_or}
use Rattle.semantics.specs.Graph.{Graph}
use Rattle.semantics.specs.Could.{Pointstamp}
use Rattle.semantics.specs.Dataflow.{IsDataflow}
use Rattle.semantics.specs.PortArity.{IsTyped}
use Rattle.graph.specs.Shown.{GraphValue, shown_graph}
use Rattle.machine.specs.Active.{active_count}
use Rattle.machine.specs.World.{opening}
use Rattle.vertices.specs.Shards.{Shows as ShowsShard}
use Rattle.vertices.specs.declared.shard.Shard.{Shard}
use Rattle.tokens.specs.declared.rule.Place.{Place}
use Rattle.tokens.specs.declared.rule.Place.TheVariants.{Home, Out}
use Rattle.semantics.specs.Limits.{max_workers}
use Rattle.events.specs.Jobs.{Job}
use Rattle.events.specs.Stations.{IsShardAt}
use Rattle.board.specs.Fitting.{FitsPlace, arity_in}
use Rattle.board.specs.Fresh.{IsFreshSide, IsNew}
use Rattle.board.specs.Kept.{IsKept}
use Rattle.board.specs.Promises.{IsOpening}
use Rattle.board.specs.Shown.{Shown, net, side_at}
use Rattle.board.specs.Showing.{EachShard, IsSideOf, OnShard, Shows, known}
use Rattle.board.proofs.Opening.{IsFresh, kept_opening, shows_opening}

-- what holds of a shard at home holds of the one that is known
at_place : (P Q : Shard → Type 0) → ((x : Shard) → P x → Q x) → (o : Option Shard) (place : Place Job) → OnShard P o → OnShard Q (known o place)
at_place P Q f None place h = absurd h
at_place P Q f (Some x) place h = f x h

pub opens : (g : GraphValue) (n : ℕ) (s : Shown) → IsNew g n s → IsOpening g n s
opens g n s is = record {
  graph = is.graph;
  workers = is.sides.long;
  inputs = is.inputs;
  unfed = is.unfed;
  emitted = is.emitted;
  runs = is.runs;
  idle = λ k l. (is.sides.each k (let e = is.sides.long in omega (arith, l, e))).idle;
}

module _ (s : Shown) (is : IsNew s.graph (length s.sides) s) where
  side : (k : ℕ) → k < length s.sides → IsFreshSide (record { graph = s.graph; workers = length s.sides }) (side_at s k)
  side k l = is.sides.each k l

  each_fresh : (P : (worker vertex : ℕ) → Shard → Type 0)
      → ((k v : ℕ) → v < length (shown_graph s.graph) → (x : Shard) → IsShardAt (shown_graph s.graph) (arity_in s.graph) v x × ShowsShard x (λ p t. []) → P k v x) → EachShard s P
  each_fresh P f k v l lv =
      at_place (λ x. IsShardAt (shown_graph s.graph) (arity_in s.graph) v x × ShowsShard x (λ p t. [])) (P k v) (f k v lv) (slice_index_or (side_at s k).shards v None) (side_at s k).place ((side k l).shards.each v lv)

  fits : IsDataflow (shown_graph s.graph) → EachShard s (FitsPlace s.graph)
  fits flows = each_fresh (FitsPlace s.graph) (λ k v lv x h. record {
    kind = h.0.kind;
    takes = λ port lp. h.0.takes port (let e = flows.wired.full v lv in omega (arith, lp, e));
  })

  fresh : IsFresh s
  fresh = record {
    inputs = is.unfed;
    emitted = is.emitted;
    runs = is.runs;
    mail = λ k l. (side k l).idle.mail;
    requests = λ k l. (side k l).idle.requests;
    place = λ k l. (side k l).idle.place;
    shards = each_fresh (λ k v x. ShowsShard x (λ p t. [])) (λ k v lv x h. h.1);
  }

  side_of : (k : ℕ) → k < length s.sides → IsSideOf s (length s.sides) (side_at s k)
  side_of k l = record {
    wired = (side k l).wired;
    shards = (side k l).shards.long;
    own = λ j e. absurd (let z : Home ≡ Out j = sym (side k l).idle.place ∙ e in cc);
  }

  kept_here : (graph : Graph) (content : Pointstamp → ℕ) → IsDataflow (shown_graph s.graph) → 0 < length s.sides → length s.sides ≤ max_workers → graph ≡ shown_graph s.graph → IsTyped (shown_graph s.graph) (arity_in s.graph)
      → ((q : Pointstamp) → content q ≡ active_count (net s) opening q) → IsKept graph content s
  kept_here graph content flows some few same typed counts = kept_opening graph content s fresh flows some few same is.inputs is.room typed (fits flows) side_of counts

new_here : (g : GraphValue) (n : ℕ) (s : Shown) → IsNew g n s → IsNew s.graph (length s.sides) s
new_here g n s is =
    let A : GraphValue → Type 0 = λ x. IsNew x n s in
    let B : ℕ → Type 0 = λ m. IsNew s.graph m s in
    subst B (sym is.sides.long) (subst A (sym is.graph) is)

pub kept_new : (graph : Graph) (content : Pointstamp → ℕ) (g : GraphValue) (n : ℕ) (s : Shown) → IsNew g n s → 0 < n → n ≤ max_workers → IsDataflow (shown_graph s.graph)
    → graph ≡ shown_graph s.graph → IsTyped (shown_graph s.graph) (arity_in s.graph)
    → ((q : Pointstamp) → content q ≡ active_count (net s) opening q) → IsKept graph content s
kept_new graph content g n s is some few flows same typed counts =
    let e = is.sides.long in kept_here s (new_here g n s is) graph content flows (omega (arith, some, e)) (omega (arith, few, e)) same typed counts

pub shows_new : (g : GraphValue) (n : ℕ) (s : Shown) → IsNew g n s → Shows s opening
shows_new g n s is = shows_opening s (fresh s (new_here g n s is))
