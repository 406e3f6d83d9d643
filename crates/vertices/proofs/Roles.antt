-- A count that is too large for a state is too large for its shard.
use Rattle.std.proofs.Common.{◌≡◌, ℕ, ◌++◌, List, inl, refl, subst, sym, ap, ◌∙◌}
use Rattle.rows.specs.Counts.{IsOver}
use Rattle.semantics.specs.Kinds.{Kind, Role, role}
use Rattle.semantics.specs.Multiset.{Record}
use Rattle.semantics.specs.Shard.{Absorbed}
use Rattle.semantics.specs.Time.{Time}
use Rattle.vertices.specs.Kept.{kept_by}
use Rattle.vertices.specs.Notified.{notified_kind}
use Rattle.vertices.specs.Outs.{GoesOver}
use Rattle.vertices.specs.Shards.{shard_kind}
use Rattle.vertices.specs.declared.notified.Notified.{Notified}
use Rattle.vertices.specs.declared.notified.Notified.TheVariants.{Group, Except, Unseen, Lookup}
use Rattle.vertices.specs.declared.shard.Shard.{Shard}

notified_role : (s : Notified) → role (notified_kind s) ≡ Role.notified
notified_role (Group s) = refl
notified_role (Except s) = refl
notified_role (Unseen s) = refl
notified_role (Lookup s) = refl

module _ (shard : Shard) (t : Time) (a : Absorbed) (port : ℕ) (batch : List Record) where
  pub goes_over : (kind : Kind) → kind ≡ shard_kind shard → GoesOver kind t a port batch → GoesOver (shard_kind shard) t a port batch
  goes_over kind f over = subst (λ k. GoesOver k t a port batch) f over

  pub comes_over : (s : Notified) → notified_kind s ≡ shard_kind shard → IsOver (a port t ++ batch) → GoesOver (shard_kind shard) t a port batch
  comes_over s f over = inl (subst (λ r. IsOver (kept_by r a port t batch)) (sym (notified_role s) ∙ ap role f) over)
