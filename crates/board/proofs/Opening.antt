-- The opening: a board to which nothing was fed keeps what a board keeps.
use Rattle.std.proofs.Common.{◌≡◌, ◌<◌, ◌≤◌, ℕ, zero, suc, false, [], length, refl, sym, ap, ◌∙◌, arith, List, ◌∷◌}
use Rattle.semantics.specs.Graph.{Graph, input_count}
use Rattle.semantics.specs.Could.{Pointstamp}
use Rattle.semantics.specs.Dataflow.{IsDataflow}
use Rattle.semantics.specs.PortArity.{IsTyped}
use Rattle.graph.specs.Shown.{shown_graph}
use Rattle.semantics.specs.Limits.{max_workers}
use Rattle.machine.specs.World.{opening}
use Rattle.machine.specs.Active.{active_count}
use Rattle.vertices.specs.Shards.{Shows as ShowsShard}
use Rattle.tokens.specs.declared.rule.Place.TheVariants.{Home}
use Rattle.semantics.proofs.MultisetSums.{≈-from}
use Rattle.board.specs.Shown.{Shown, InputShown, emitted_by, net, no_input, side_at, input_at, held_of, records_at}
use Rattle.board.specs.Showing.{Shows, ShowsIn, IsSideOf, EachShard, known_shard}
use Rattle.board.proofs.Still.{on_shard}
use Rattle.semantics.specs.Time.{Time}
use Rattle.std.specs.List.{AllByRecursion}
use Rattle.board.specs.Fitting.{FitsPlace, arity_in}
use Rattle.board.specs.Kept.{IsKept}

-- nothing was fed or emitted, nothing waits, and no shard has absorbed anything
pub record IsFresh (s : Shown) : Type 0 where
  pub inputs : (i : ℕ) → input_at s i ≡ no_input
  pub emitted : (v : ℕ) → emitted_by s.emitted v ≡ []
  pub runs : s.stopped ≡ false
  pub mail : (k : ℕ) → k < length s.sides → (side_at s k).mail ≡ []
  pub requests : (k : ℕ) → k < length s.sides → (side_at s k).requests ≡ []
  pub place : (k : ℕ) → k < length s.sides → (side_at s k).place ≡ Home
  pub shards : EachShard s (λ k v x. ShowsShard x (λ p t. []))

nothing_at : (e : ℕ) → records_at [] e ≡ []
nothing_at zero = refl
nothing_at (suc e) = refl

none : (us : List Time) → AllByRecursion (λ u. (p : ℕ) → [] ≡ opening.absorbed 0 0 p u) us
none [] = tt
none (u ∷ us) = ((λ p. refl), none us)

pub shows_opening : (s : Shown) → IsFresh s → Shows s opening
shows_opening s is = record {
  stopped = sym is.runs;
  open_epoch = λ i. ap (λ (x : InputShown). x.open_epoch) (sym (is.inputs i));
  closed = λ i. ap (λ (x : InputShown). x.closed) (sym (is.inputs i));
  fed = λ i e. sym (ap (λ (x : InputShown). records_at x.fed e) (is.inputs i) ∙ nothing_at e);
  mail = λ k l. sym (is.mail k l);
  requests = λ k l. sym (is.requests k l);
  held = λ k l. ap held_of (sym (is.place k l));
  absorbed = λ k v l lv. on_shard (λ x. ShowsShard x (λ p t. [])) (ShowsIn (net s) opening k v) (λ x h. record {
    kept = λ p t. [];
    shows = h;
    same = λ t c. record { here = λ p. refl; back = none ((net s).reads_back v t) };
  }) (known_shard (side_at s k) v) (is.shards k v l lv);
  emitted = λ v e. ≈-from (sym (ap (λ es. records_at es e) (is.emitted v) ∙ nothing_at e));
}

-- a tracker with what is active before the first step
pub kept_opening : (graph : Graph) (content : Pointstamp → ℕ) (s : Shown) → IsFresh s → IsDataflow (shown_graph s.graph) → 0 < length s.sides → length s.sides ≤ max_workers → graph ≡ shown_graph s.graph
    → length s.inputs ≡ input_count (shown_graph s.graph) → length s.emitted ≡ length (shown_graph s.graph) → IsTyped (shown_graph s.graph) (arity_in s.graph) → EachShard s (FitsPlace s.graph)
    → ((k : ℕ) → k < length s.sides → IsSideOf s (length s.sides) (side_at s k))
    → ((q : Pointstamp) → content q ≡ active_count (net s) opening q) → IsKept graph content s
kept_opening graph content s is flows some few same inputs room typed fits sides counts = record {
  flows = flows;
  some = some;
  few = few;
  same = same;
  inputs = inputs;
  room = room;
  sides = sides;
  typed = typed;
  fitting = fits;
  steps = [];
  world = opening;
  run = refl;
  shows = shows_opening s is;
  fed = λ v e l kind r present. absurd (omega (arith, present));
  tracked = counts;
}
