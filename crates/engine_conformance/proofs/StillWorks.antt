-- Shards stay at work.
use Rattle.std.proofs.Common.{◌≡◌, ◌<◌, ℕ, [], ◌∙◌, ap, sym, subst}
use Rattle.semantics.specs.Graph.{Graph, source, vertex}
use Rattle.semantics.specs.Kinds.{in_ports}
use Rattle.semantics.specs.Shard.{Absorbed}
use Rattle.semantics.specs.Time.{Time}
use Rattle.vertices.specs.ByTime.{Forgets}
use Rattle.vertices.specs.Shards.{Shows, TakesArity, shard_kind}
use Rattle.vertices.specs.declared.shard.Shard.{Shard}
use Rattle.events.specs.Stations.{IsShardAt}
use Rattle.engine_conformance.specs.Works.{WorksAt}

-- a fresh shard
pub fresh_works : (g : Graph) (arity : ℕ → ℕ) (v : ℕ) (s : Shard) → IsShardAt g arity v s → Shows s (λ p t. []) → WorksAt g arity v s
fresh_works g arity v s h shows = record { at = h; whole = ((λ p t. []), shows) }

-- a shard after an event
pub still_works : (g : Graph) (arity : ℕ → ℕ) (v : ℕ) (s s' : Shard) → WorksAt g arity v s → shard_kind s' ≡ shard_kind s → ((p m : ℕ) → TakesArity s p m → TakesArity s' p m) → (more : Absorbed → Absorbed) → ((a : Absorbed) → Shows s a → Shows s' (more a)) → WorksAt g arity v s'
still_works g arity v s s' h kind takes more whole = record {
  at = record { kind = kind ∙ h.at.kind; takes = λ p q. takes p _ (h.at.takes p q) };
  whole = (more h.whole.0, whole h.whole.0 h.whole.1);
}

-- a shard that let go of a time
pub works_without : (g : Graph) (arity : ℕ → ℕ) (v : ℕ) (s s' : Shard) (time : Time) → WorksAt g arity v s → shard_kind s' ≡ shard_kind s → ((p m : ℕ) → TakesArity s p m → TakesArity s' p m) → Forgets (Shows s) (Shows s') time → WorksAt g arity v s'
works_without g arity v s s' time h kind takes forgets = record {
  at = record { kind = kind ∙ h.at.kind; takes = λ p q. takes p _ (h.at.takes p q) };
  whole = let left = forgets h.whole.0 h.whole.1 in (left.0, left.1);
}

-- the ports of its vertex, and what comes to them
pub port_of_shard : (g : Graph) (arity : ℕ → ℕ) (v : ℕ) (s : Shard) → WorksAt g arity v s → (p : ℕ) → p < in_ports (vertex g v).kind → p < in_ports (shard_kind s)
port_of_shard g arity v s h p q = subst (λ (n : ℕ). p < n) (sym (ap in_ports h.at.kind)) q

pub takes_fields : (g : Graph) (arity : ℕ → ℕ) (v : ℕ) (s : Shard) → WorksAt g arity v s → (p n : ℕ) → p < in_ports (vertex g v).kind → n ≡ arity (source g v p).vertex → TakesArity s p n
takes_fields g arity v s h p n q e = subst (λ (m : ℕ). TakesArity s p m) (sym e) (h.at.takes p q)
