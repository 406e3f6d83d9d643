-- A stateful shard can always send what is gained, and nothing else, up to order.
use Rattle.std.proofs.Common.{subst, ◌≡◌, ◌↔◌, ℕ, ◌+◌, ◌≤◌, ◌<◌, Bool, true, false, not, ◌&&◌, List, ◌++◌, sym, ◌∙◌, arith}
use Rattle.semantics.specs.Multiset.{Record, same, one_if, count, is_present, ◌≈◌, IsPartOf, less}
use Rattle.semantics.specs.Time.{Time}
use Rattle.semantics.specs.Kinds.{Kind, in_ports, role, Role}
use Rattle.semantics.specs.Meaning.{in_both}
use Rattle.semantics.specs.Op.{op}
use Rattle.semantics.specs.Shard.{SendsBy, SendsAtNotification}
use Rattle.semantics.proofs.MultisetSums.{less-append, total-append}
use Rattle.semantics.proofs.ExceptAndIntersect.{count-except, count-intersect, in_both_part}
use Rattle.semantics.proofs.MonotoneVertices.{op_more}

pub gained : (kind : Kind) → role kind ≡ Role.stateful → (t : Time) (before now : ℕ → List Record) → ((i : ℕ) → i < in_ports kind → IsPartOf (before i) (now i)) → (port : ℕ) (records : List Record)
    → SendsBy (role kind) (λ q ins. op kind t ins q) before now port records (λ q. less (op kind t now q) (op kind t before q))
gained kind e t before now h port records = subst (λ r. SendsBy r (λ q ins. op kind t ins q) before now port records (λ q. less (op kind t now q) (op kind t before q))) (sym e)
    (λ q. less-append (op kind t now q) (op kind t before q) (op_more kind other t before now q h))
  where
    apart : Role.stateful ≡ Role.notified → ⊥
    apart k = cc

    other : role kind ≡ Role.notified → ⊥
    other k = apart (sym e ∙ k)

pub gained_alone : (op : ℕ → (ℕ → List Record) → List Record) (before now : ℕ → List Record) (port : ℕ) (records : List Record) (out other : ℕ → List Record)
    → SendsBy Role.stateful op before now port records out → SendsBy Role.stateful op before now port records other → (q : ℕ) → out q ≈ other q
gained_alone op before now port records out other a b q = record {
  counts = λ r.
      let f = λ (x : Record). one_if (same x r) in
      let x = a q in
      let y = b q in
      omega (arith, x.counts r, y.counts r, total-append f (out q) (op q before), total-append f (other q) (op q before));
}

-- ---- the two kinds that compare their ports

pub difference_sent : (t : Time) (absorbed : ℕ → List Record) (out : ℕ → List Record)
    → SendsAtNotification (λ q ins. op Kind.except t ins q) absorbed out ↔ ((q : ℕ) (r : Record) → count r (out q) ≡ one_if (is_present r (absorbed 0) && not (is_present r (absorbed 1))))
difference_sent t absorbed out = (
  λ s q r. (s q).counts r ∙ count-except (absorbed 0) (absorbed 1) r,
  λ c q. record { counts = λ r. c q r ∙ sym (count-except (absorbed 0) (absorbed 1) r) },
)

pub common_gained : (t : Time) (before now : ℕ → List Record) → ((i : ℕ) → i < in_ports Kind.intersect → IsPartOf (before i) (now i)) → (port : ℕ) (records : List Record) (out : ℕ → List Record)
    → SendsBy (role Kind.intersect) (λ q ins. op Kind.intersect t ins q) before now port records out
    ↔ ((q : ℕ) (r : Record) → count r (out q) ≡ one_if (is_present r (now 0) && is_present r (now 1) && not (is_present r (before 0) && is_present r (before 1))))
common_gained t before now h port records out = (
  λ s q r. after (is_present r (now 0)) (is_present r (now 1)) (in_both_before r) (count r (out q)) (sum q r ((s q).counts r)) (less_before r),
  λ c q. record { counts = λ r. let a = appended q r in let b = count-intersect (before 0) (before 1) r in let n = count-intersect (now 0) (now 1) r in let e = right (is_present r (now 0)) (is_present r (now 1)) (in_both_before r) (count r (out q)) (c q r) (less_before r) in omega arith },
)
  where
    in_both_before : Record → Bool
    in_both_before r = is_present r (before 0) && is_present r (before 1)

    appended : (q : ℕ) (r : Record) → count r (out q ++ op Kind.intersect t before q) ≡ count r (out q) + count r (in_both (before 0) (before 1))
    appended q r = total-append (λ x. one_if (same x r)) (out q) (op Kind.intersect t before q)

    sum : (q : ℕ) (r : Record) → count r (out q ++ op Kind.intersect t before q) ≡ count r (op Kind.intersect t now q) → count r (out q) + one_if (in_both_before r) ≡ one_if (is_present r (now 0) && is_present r (now 1))
    sum q r k = let a = appended q r in let b = count-intersect (before 0) (before 1) r in let n = count-intersect (now 0) (now 1) r in omega arith

    less_before : (r : Record) → one_if (in_both_before r) ≤ one_if (is_present r (now 0) && is_present r (now 1))
    less_before r =
        let b = count-intersect (before 0) (before 1) r in
        let n = count-intersect (now 0) (now 1) r in
        let l = (in_both_part (before 0) (now 0) (before 1) (now 1) (h 0 (omega arith)) (h 1 (omega arith))).within r in
        omega arith

    after : (m n b : Bool) (c : ℕ) → c + one_if b ≡ one_if (m && n) → one_if b ≤ one_if (m && n) → c ≡ one_if (m && n && not b)
    after true true true c e l = omega arith
    after true true false c e l = omega arith
    after true false true c e l = omega arith
    after true false false c e l = omega arith
    after false n true c e l = omega arith
    after false n false c e l = omega arith

    right : (m n b : Bool) (c : ℕ) → c ≡ one_if (m && n && not b) → one_if b ≤ one_if (m && n) → c + one_if b ≡ one_if (m && n)
    right true true true c e l = omega arith
    right true true false c e l = omega arith
    right true false true c e l = absurd (omega arith)
    right true false false c e l = omega arith
    right false n true c e l = absurd (omega arith)
    right false n false c e l = omega arith
