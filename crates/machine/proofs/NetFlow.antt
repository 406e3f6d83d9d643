-- The flow of a network on what was fed, by edge number.
use Rattle.std.specs.Prelude.{◌≡◌, ◌≢◌, ◌<◌, ℕ, cond, List, []}
use Rattle.semantics.specs.Multiset.{total, Record, count, ◌≈◌}
use Rattle.semantics.specs.Time.{Time, same_counters}
use Rattle.semantics.specs.Could.{on_edge}
use Rattle.semantics.specs.Kinds.{Role}
use Rattle.machine.specs.Network.{Network}
use Rattle.machine.proofs.Laws.{times_in}

-- what a vertex reads at a time, if the edges have these records
abbrev pub ins : Network → (ℕ → Time → List Record) → ℕ → Time → ℕ → List Record
ins g edges v t = g.reads v (λ p. edges (g.edge_into v p)) t

-- what an input has at a time
abbrev pub fed_at : (ℕ → ℕ → List Record) → ℕ → Time → List Record
fed_at fed i t = cond (same_counters t.counters []) (fed i t.epoch) []

pub record IsNetFlow (g : Network) (fed : ℕ → ℕ → List Record) (flow : ℕ → Time → List Record) : Type 0 where
  pub from_input : (e : ℕ) (t : Time) → e < g.edges → g.IsPointstamp (on_edge e t) → g.role (g.source e) ≡ Role.input → (flow e t) ≈ (fed_at fed (g.source e) t)
  pub from_vertex : (e : ℕ) (u : Time) → e < g.edges → g.IsPointstamp (on_edge e u) → g.role (g.source e) ≢ Role.input → (r : Record) →
      count r (flow e u) ≡ total (λ t. count r (g.op (g.source e) (g.out_port e) t (ins g flow (g.source e) t))) (g.times_before (g.source e) u)
  -- nothing comes where the action's value is not counted
  pub within : (e : ℕ) (t : Time) → e < g.edges → g.IsPointstamp (on_edge e t) → times_in t (g.times_before (g.target e) (g.act (g.target e) t)) ≡ 0 → flow e t ≡ []

abbrev pub HasFlows : Network → Type 0
HasFlows g = (fed : ℕ → ℕ → List Record) → (flow : ℕ → Time → List Record) × IsNetFlow g fed flow
