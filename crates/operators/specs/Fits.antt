-- That the columns of scalars, conditions, pairs and aggregates exist is a fact with at most one proof.
use Rattle.std.specs.Prelude.{ℕ, List}
use Rattle.std.specs.List.{AllByRecursion, AllByRecursion-prop}
use Rattle.std.specs.Coded.{×_prop, Unit-prop, le_prop}
use Rattle.semantics.specs.Query.{Scalar, Cond}
use Rattle.semantics.specs.Typing.{ScalarFits, CondFits}

pub ScalarFits-prop : (n : ℕ) (s : Scalar) → IsProp (ScalarFits n s)
ScalarFits-prop n (Scalar.column c) = le_prop
ScalarFits-prop n (Scalar.literal z) = Unit-prop
ScalarFits-prop n (Scalar.plus s t) = ×_prop (ScalarFits-prop n s) (ScalarFits-prop n t)
ScalarFits-prop n (Scalar.minus s t) = ×_prop (ScalarFits-prop n s) (ScalarFits-prop n t)
ScalarFits-prop n (Scalar.times s t) = ×_prop (ScalarFits-prop n s) (ScalarFits-prop n t)
ScalarFits-prop n (Scalar.negation s) = ScalarFits-prop n s

pub all_fit-prop : (n : ℕ) (ss : List Scalar) → IsProp (AllByRecursion (ScalarFits n) ss)
all_fit-prop n ss = AllByRecursion-prop (ScalarFits n) (ScalarFits-prop n) ss

pub CondFits-prop : (n : ℕ) (c : Cond) → IsProp (CondFits n c)
CondFits-prop n (Cond.compare o s t) = ×_prop (ScalarFits-prop n s) (ScalarFits-prop n t)
CondFits-prop n (Cond.conjunction c d) = ×_prop (CondFits-prop n c) (CondFits-prop n d)
CondFits-prop n (Cond.disjunction c d) = ×_prop (CondFits-prop n c) (CondFits-prop n d)
CondFits-prop n (Cond.negation c) = CondFits-prop n c
