-- Columns used at most once, by marks.
use Rattle.std.proofs.Common.{◌≡◌, ℕ, ◌+◌, ◌<◌, Bool, List, [], ◌∷◌, ◌++◌, length, refl, arith}
use Rattle.std.specs.List.{AllByRecursion}
use Rattle.expr_tree.specs.declared.scalar.Operator.{Operator}
use Rattle.expr_tree.specs.declared.scalar.Operator.TheVariants as operator
use Rattle.expr_tree.specs.Plain.{plain_operator}
use Rattle.semantics.specs.Query.{Scalar}
use Rattle.semantics.specs.Normal.{uses, use_count}
use Rattle.normalise.specs.Marks.{Marks, Repeats}

pub use_count-append : (c : ℕ) (xs ys : List ℕ) → use_count c (xs ++ ys) ≡ use_count c xs + use_count c ys
use_count-append c [] ys = omega arith
use_count-append c (x ∷ xs) ys = omega (arith, use_count-append c xs ys)

pub uses-operator : (o : Operator) (s t : Scalar) → uses (plain_operator o s t) ≡ uses s ++ uses t
uses-operator operator.Add s t = refl
uses-operator operator.Subtract s t = refl
uses-operator operator.Multiply s t = refl

all_first : (P : ℕ → Type 0) (xs ys : List ℕ) → AllByRecursion P (xs ++ ys) → AllByRecursion P xs
all_first P [] ys h = tt
all_first P (x ∷ xs) ys h = (h.0, all_first P xs ys h.1)

all_second : (P : ℕ → Type 0) (xs ys : List ℕ) → AllByRecursion P (xs ++ ys) → AllByRecursion P ys
all_second P [] ys h = h
all_second P (x ∷ xs) ys h = all_second P xs ys h.1

-- the columns of two parts, one after the other
pub marks_both : (xs ys : List ℕ) (before between after : List Bool) → Marks xs between before → Marks ys after between → Marks (xs ++ ys) after before
marks_both xs ys before between after f g = record { counts = λ c. omega (arith, f.counts c, g.counts c, use_count-append c xs ys) }

pub repeats_first : (xs ys : List ℕ) (before : List Bool) → Repeats xs before → Repeats (xs ++ ys) before
repeats_first xs ys before f = record { clash = λ h k. f.clash (all_first (λ c. c < length before) xs ys h) (λ c. omega (arith, k c, use_count-append c xs ys)) }

pub repeats_second : (xs ys : List ℕ) (before between : List Bool) → length between ≡ length before → Marks xs between before → Repeats ys between → Repeats (xs ++ ys) before
repeats_second xs ys before between e f g = record {
  clash = λ h k. g.clash (all_second (λ c. c < length between) xs ys (rw e h)) (λ c. omega (arith, k c, f.counts c, use_count-append c xs ys));
}
