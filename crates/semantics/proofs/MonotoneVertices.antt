-- More in gives more out, except at a vertex that is notified.
use Rattle.std.proofs.Common.{refl, ◌≡◌, ℕ, zero, suc, ◌+◌, ◌<◌, nat_lt, nat_eq, Bool, true, false, cond, List, [], map, arith}
use Rattle.semantics.specs.Multiset.{Record, IsPartOf}
use Rattle.semantics.specs.Kinds.{Role, role, Kind, in_ports}
use Rattle.semantics.specs.Meaning.{selected, kept, value, holds}
use Rattle.semantics.specs.Op.{op}
use Rattle.semantics.specs.Time.{Time, last}
use Rattle.semantics.proofs.MultisetSums.{append_part, linear_part, map_linear, filter_linear}
use Rattle.semantics.proofs.ExceptAndIntersect.{in_both_part}
use Rattle.semantics.proofs.KeyedParts.{paired_part}
use Rattle.semantics.proofs.DistinctAndGroups.{distinct_part}

abbrev pub Grows : Kind → Type 0
Grows (Kind.group ks as') = ⊥
Grows Kind.except = ⊥
Grows (Kind.unseen n) = ⊥
Grows (Kind.lookup ps) = ⊥
Grows _ = Unit {0}

part_refl : (xs : List Record) → IsPartOf xs xs
part_refl xs = record { within = λ r. omega arith }

cond_part : (b : Bool) (xs ys : List Record) → IsPartOf xs ys → IsPartOf (cond b xs []) (cond b ys [])
cond_part true xs ys h = h
cond_part false xs ys h = part_refl []

pub op_part : (kind : Kind) → Grows kind → (t : Time) (xs ys : ℕ → List Record) (out : ℕ) → ((i : ℕ) → i < in_ports kind → IsPartOf (xs i) (ys i)) → IsPartOf (op kind t xs out) (op kind t ys out)
op_part Kind.input w t xs ys out h = part_refl []
op_part Kind.output w t xs ys out h = part_refl []
op_part Kind.concat w t xs ys out h = append_part (xs 0) (ys 0) (xs 1) (ys 1) (h 0 (omega arith)) (h 1 (omega arith))
op_part Kind.distinct w t xs ys out h = distinct_part (xs 0) (ys 0) (h 0 (omega arith))
op_part Kind.except w t xs ys out h = absurd w
op_part Kind.intersect w t xs ys out h = in_both_part (xs 0) (ys 0) (xs 1) (ys 1) (h 0 (omega arith)) (h 1 (omega arith))
op_part Kind.ingress w t xs ys out h = h 0 (omega arith)
op_part Kind.egress w t xs ys out h = h 0 (omega arith)
op_part Kind.feedback w t xs ys out h = h 0 (omega arith)
op_part (Kind.select ss) w t xs ys out h = linear_part (selected ss) (map_linear (λ r. map (λ s. value s r) ss)) (xs 0) (ys 0) (h 0 (omega arith))
op_part (Kind.filter c) w t xs ys out h = linear_part (kept c) (filter_linear (holds c)) (xs 0) (ys 0) (h 0 (omega arith))
op_part (Kind.join ps) w t xs ys out h = paired_part ps (xs 0) (ys 0) (xs 1) (ys 1) (h 0 (omega arith)) (h 1 (omega arith))
op_part (Kind.lookup ps) w t xs ys out h = absurd w
op_part (Kind.group ks as') w t xs ys out h = absurd w
op_part (Kind.gate n) w t xs ys zero h = cond_part (nat_lt (last t.counters) n) (xs 0) (ys 0) (h 0 (omega arith))
op_part (Kind.gate n) w t xs ys (suc out) h = cond_part (nat_eq (last t.counters) n) (xs 0) (ys 0) (h 0 (omega arith))
op_part (Kind.unseen n) w t xs ys out h = absurd w
op_part (Kind.hold n) w t xs ys zero h = cond_part (nat_lt (last t.counters) n) (xs 0) (ys 0) (h 0 (omega arith))
op_part (Kind.hold n) w t xs ys (suc out) h = cond_part (nat_lt (last t.counters + 1) n) (xs 0) (ys 0) (h 0 (omega arith))

-- the same for every kind, except at a vertex that waits for its notification
pub op_more : (kind : Kind) → (role kind ≡ Role.notified → ⊥) → (t : Time) (xs ys : ℕ → List Record) (out : ℕ) → ((i : ℕ) → i < in_ports kind → IsPartOf (xs i) (ys i)) → IsPartOf (op kind t xs out) (op kind t ys out)
op_more kind n t xs ys out h = op_part kind (grows kind n) t xs ys out h
  where
    grows : (kind : Kind) → (role kind ≡ Role.notified → ⊥) → Grows kind
    grows (Kind.group ks as') n = absurd (n refl)
    grows Kind.input n = tt
    grows Kind.output n = tt
    grows (Kind.select ss) n = tt
    grows (Kind.filter c) n = tt
    grows Kind.concat n = tt
    grows (Kind.join ps) n = tt
    grows (Kind.lookup ps) n = absurd (n refl)
    grows Kind.distinct n = tt
    grows Kind.except n = absurd (n refl)
    grows Kind.intersect n = tt
    grows Kind.ingress n = tt
    grows Kind.egress n = tt
    grows Kind.feedback n = tt
    grows (Kind.gate m) n = tt
    grows (Kind.unseen m) n = absurd (n refl)
    grows (Kind.hold m) n = tt
