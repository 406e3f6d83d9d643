-- What is the same for each record.
use Rattle.std.proofs.Common.{◌≡◌, ◌<◌, ℕ, zero, suc, ℤ, pos, Bool, true, false, not, cond, ◌&&◌, ◌||◌, List, [], ◌∷◌, map, filter, refl, sym, ap, ◌∙◌, arith, slice_index_or}
use Rattle.std.specs.List.{AllByRecursion}
use Rattle.semantics.specs.Multiset.{Record, each_once, is_present}
use Rattle.semantics.specs.Query.{Scalar, Comparison, Cond, Rel}
use Rattle.semantics.specs.Meaning.{Names, exact, field, value, holds, compares, kept, selected, meaning}
use Rattle.semantics.specs.Typing.{ScalarFits}
use Rattle.compile.specs.SameForAll.{IsAlways}

-- a scalar without columns has one value
exact_plain : (s : Scalar) (r : Record) → ScalarFits 0 s → exact s r ≡ exact s []
exact_plain (Scalar.column c) r h = absurd (omega arith)
exact_plain (Scalar.literal z) r h = refl
exact_plain (Scalar.plus s t) r h = rw (exact_plain s r h.0, exact_plain t r h.1) refl
exact_plain (Scalar.minus s t) r h = rw (exact_plain s r h.0, exact_plain t r h.1) refl
exact_plain (Scalar.times s t) r h = rw (exact_plain s r h.0, exact_plain t r h.1) refl
exact_plain (Scalar.negation s) r h = rw (exact_plain s r h) refl

pub value_plain : (s : Scalar) (r : Record) → ScalarFits 0 s → value s r ≡ value s []
value_plain s r h = rw (exact_plain s r h) refl

pub compare_plain : (o : Comparison) (s t : Scalar) → ScalarFits 0 s → ScalarFits 0 t → IsAlways (Cond.compare o s t) (holds (Cond.compare o s t) [])
compare_plain o s t h k = λ r. rw (value_plain s r h, value_plain t r k) refl
