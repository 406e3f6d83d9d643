-- Shards stay at work.
use Rattle.std.proofs.Common.{◌≡◌, ℕ, zero, suc, [], refl, subst, ap, ◌∙◌}
use Rattle.semantics.specs.Kinds as semantics
use Rattle.semantics.specs.Shard.{Absorbed}
use Rattle.vertices.specs.AtWork.{IsAtWork}
use Rattle.vertices.specs.Shards.{IsFreshShard, Shows, TakesArity, by_port, shard_kind}
use Rattle.vertices.specs.declared.shard.Shard.{Shard}

by_port_same : (n p : ℕ) → by_port n n p ≡ n
by_port_same n zero = refl
by_port_same n (suc p) = refl

-- a fresh shard
pub fresh_at_work : (k : semantics.Kind) (n : ℕ) (s : Shard) → IsFreshShard k n n s → IsAtWork (semantics.role k) (semantics.in_ports k) n s
fresh_at_work k n s h = record {
  role_is = ap semantics.role h.kind_is;
  ports_are = ap semantics.in_ports h.kind_is;
  takes = λ p q. subst (λ (m : ℕ). TakesArity s p m) (by_port_same n p) (h.takes p q);
  whole = ((λ p t. []), h.nothing);
}

-- a shard after an event
pub still_at_work : (r : semantics.Role) (ports n : ℕ) (s s' : Shard) → IsAtWork r ports n s → shard_kind s' ≡ shard_kind s → ((p m : ℕ) → TakesArity s p m → TakesArity s' p m) → (more : Absorbed → Absorbed) → ((a : Absorbed) → Shows s a → Shows s' (more a)) → IsAtWork r ports n s'
still_at_work r ports n s s' h kind takes more whole = record {
  role_is = ap semantics.role kind ∙ h.role_is;
  ports_are = ap semantics.in_ports kind ∙ h.ports_are;
  takes = λ p q. takes p n (h.takes p q);
  whole = (more h.whole.0, whole h.whole.0 h.whole.1);
}
