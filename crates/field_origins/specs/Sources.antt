-- Where the values of a field come from: columns of inputs, or they are computed.
use Rattle.std.specs.Prelude.{ℕ, zero, suc, nat_eq, Bool, true, false, cond, ◌&&◌, ◌||◌, List, [], ◌∷◌, ◌++◌, slice_index_or}
use Rattle.semantics.specs.Query.{Scalar, Agg}
use Rattle.field_origins.specs.declared.source.Source.{Source}

-- the column c of the input i
abbrev pub source : ℕ → ℕ → Source
source i c = record { input = i; column = c }

-- Of a field: its values are computed, or taken unchanged from these columns.
pub data Origin : Type 0 where
  computed : Origin
  taken : List Source → Origin

-- the columns are the same
abbrev pub same_source : Source → Source → Bool
same_source s t = nat_eq s.input t.input && nat_eq s.column t.column

-- the column is among them
abbrev pub has : List Source → Source → Bool
has [] s = false
has (t ∷ ts) s = same_source t s || has ts s

-- with one more, unless it is there
abbrev pub with_source : List Source → Source → List Source
with_source ss s = cond (has ss s) ss (ss ++ s ∷ [])

-- with all of others
abbrev pub with_sources : List Source → List Source → List Source
with_sources ss [] = ss
with_sources ss (t ∷ ts) = with_sources (with_source ss t) ts

-- of values of which each comes from one of two
abbrev pub either : Origin → Origin → Origin
either Origin.computed o = Origin.computed
either (Origin.taken ss) Origin.computed = Origin.computed
either (Origin.taken ss) (Origin.taken ts) = Origin.taken (with_sources ss ts)

-- field by field
abbrev pub merged : List Origin → List Origin → List Origin
merged (o ∷ os) (p ∷ ps) = either o p ∷ merged os ps
merged [] ps = []
merged (o ∷ os) [] = []

-- of a field by its number
abbrev pub origin_at : List Origin → ℕ → Origin
origin_at os c = slice_index_or os c Origin.computed

-- of a scalar over records of these fields: a bare column is taken, all else is computed
abbrev pub scalar_origin : List Origin → Scalar → Origin
scalar_origin os (Scalar.column c) = origin_at os c
scalar_origin os (Scalar.literal z) = Origin.computed
scalar_origin os (Scalar.plus s t) = Origin.computed
scalar_origin os (Scalar.minus s t) = Origin.computed
scalar_origin os (Scalar.times s t) = Origin.computed
scalar_origin os (Scalar.negation s) = Origin.computed

-- of an aggregate: a least or greatest is one of the column's numbers
abbrev pub agg_origin : List Origin → Agg → Origin
agg_origin os Agg.count = Origin.computed
agg_origin os (Agg.sum c) = Origin.computed
agg_origin os (Agg.min c) = origin_at os c
agg_origin os (Agg.max c) = origin_at os c

-- n columns of the input i, from the number c on, each from itself
abbrev pub columns_from : (i c n : ℕ) → List Origin
columns_from i c zero = []
columns_from i c (suc n) = Origin.taken (source i c ∷ []) ∷ columns_from i (suc c) n

-- ---- loops

-- what a column of a loop's variable v comes from, where its fields come from these; any other comes from itself
abbrev pub traced_source : (v : ℕ) → List Origin → Source → Origin
traced_source v os s = cond (nat_eq s.input v) (origin_at os s.column) (Origin.taken (s ∷ []))

-- what was found before, and what these columns come from
abbrev pub traced_sources : (v : ℕ) → List Origin → (found : Origin) → List Source → Origin
traced_sources v os found [] = found
traced_sources v os found (s ∷ ss) = traced_sources v os (either found (traced_source v os s)) ss

-- with what the variable's fields come from in their place
abbrev pub traced : (v : ℕ) → List Origin → Origin → Origin
traced v os Origin.computed = Origin.computed
traced v os (Origin.taken ss) = traced_sources v os (Origin.taken []) ss

-- the sources are the same
abbrev pub same_sources : List Source → List Source → Bool
same_sources [] [] = true
same_sources (s ∷ ss) (t ∷ ts) = same_source s t && same_sources ss ts
same_sources [] (t ∷ ts) = false
same_sources (s ∷ ss) [] = false

-- the origins are the same
abbrev pub same_origin : Origin → Origin → Bool
same_origin Origin.computed Origin.computed = true
same_origin (Origin.taken ss) (Origin.taken ts) = same_sources ss ts
same_origin Origin.computed (Origin.taken ts) = false
same_origin (Origin.taken ss) Origin.computed = false

-- field by field
abbrev pub same_origins : List Origin → List Origin → Bool
same_origins [] [] = true
same_origins (o ∷ os) (p ∷ ps) = same_origin o p && same_origins os ps
same_origins [] (p ∷ ps) = false
same_origins (o ∷ os) [] = false
