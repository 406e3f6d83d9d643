-- What numbers stand for: a text, by its place in a dictionary, or a quantity. What may be computed of which, and what comes of it.
use Rattle.std.specs.Prelude.{ℕ, ◌+◌, nat_eq, nat_le, Bool, true, false, cond, ◌&&◌, ◌||◌, List, [], ◌∷◌, Option, Some, None}
use Rattle.std.specs.Prelude.{ℤ, slice_get, is_some, option_map}
use Rattle.std.specs.Ordering.{int_eq}
use Rattle.semantics.specs.Query.{Scalar, Comparison, Cond, Agg}
use Rattle.kinds.specs.declared.kind.Quantity.{Quantity}
use Rattle.kinds.specs.declared.kind.Quantity.TheVariants as quantity
use Rattle.kinds.specs.declared.kind.Kind.{Kind}
use Rattle.kinds.specs.declared.kind.Kind.TheVariants as kind

-- the quantities are the same
abbrev pub same_quantity : Quantity → Quantity → Bool
same_quantity quantity.Whole quantity.Whole = true
same_quantity (quantity.Decimal m) (quantity.Decimal n) = nat_eq m n
same_quantity quantity.Date quantity.Date = true
same_quantity quantity.Time quantity.Time = true
same_quantity quantity.Bare quantity.Bare = true
same_quantity a b = false

-- what two have in common: a bare number may stand for the other
abbrev pub common : Quantity → Quantity → Option Quantity
common quantity.Bare b = Some b
common a quantity.Bare = Some a
common a b = cond (same_quantity a b) (Some a) None

-- of a sum: days and times move by whole numbers
abbrev pub sum : Quantity → Quantity → Option Quantity
sum quantity.Date quantity.Date = None
sum quantity.Time quantity.Time = None
sum quantity.Date quantity.Whole = Some quantity.Date
sum quantity.Whole quantity.Date = Some quantity.Date
sum quantity.Time quantity.Whole = Some quantity.Time
sum quantity.Whole quantity.Time = Some quantity.Time
sum a b = common a b

-- of a difference: from day to day, and from time to time, it is a whole number
abbrev pub difference : Quantity → Quantity → Option Quantity
difference quantity.Date quantity.Date = Some quantity.Whole
difference quantity.Time quantity.Time = Some quantity.Whole
difference quantity.Date quantity.Whole = Some quantity.Date
difference quantity.Time quantity.Whole = Some quantity.Time
difference quantity.Bare quantity.Date = None
difference quantity.Bare quantity.Time = None
difference a b = common a b

-- the most digits after the point
abbrev pub most_digits : ℕ
most_digits = 18

-- of a product: digits after the point add up
abbrev pub product : Quantity → Quantity → Option Quantity
product quantity.Date b = None
product quantity.Time b = None
product a quantity.Date = None
product a quantity.Time = None
product quantity.Bare b = Some b
product a quantity.Bare = Some a
product quantity.Whole b = Some b
product a quantity.Whole = Some a
product (quantity.Decimal m) (quantity.Decimal n) = cond (nat_le (m + n) most_digits) (Some (quantity.Decimal (m + n))) None

-- of the number with the other sign
abbrev pub opposite : Quantity → Option Quantity
opposite quantity.Date = None
opposite quantity.Time = None
opposite a = Some a

-- two numbers put together; nothing is computed of texts
abbrev pub computed : (Quantity → Quantity → Option Quantity) → Option Kind → Option Kind → Option Kind
computed f (Some (kind.Number a)) (Some (kind.Number b)) = option_map kind.Number (f a b)
computed f k l = None

-- the other sign of a number
abbrev pub negated : Option Kind → Option Kind
negated (Some (kind.Number a)) = option_map kind.Number (opposite a)
negated k = None

-- of a scalar over records of these kinds, if it has one
abbrev pub scalar_kind : List Kind → Scalar → Option Kind
scalar_kind ks (Scalar.column c) = slice_get ks c
scalar_kind ks (Scalar.literal z) = Some (kind.Number quantity.Bare)
scalar_kind ks (Scalar.plus s t) = computed sum (scalar_kind ks s) (scalar_kind ks t)
scalar_kind ks (Scalar.minus s t) = computed difference (scalar_kind ks s) (scalar_kind ks t)
scalar_kind ks (Scalar.times s t) = computed product (scalar_kind ks s) (scalar_kind ks t)
scalar_kind ks (Scalar.negation s) = negated (scalar_kind ks s)

-- equal or not, which is all that may be asked of texts
abbrev pub asks_equality : Comparison → Bool
asks_equality Comparison.equal = true
asks_equality Comparison.not_equal = true
asks_equality c = false

-- the number stands for a text that has a name
abbrev pub is_named : List ℤ → ℤ → Bool
is_named [] z = false
is_named (n ∷ ns) z = int_eq n z || is_named ns z

-- the scalar is a number that stands for a named text
abbrev pub is_named_text : List ℤ → Scalar → Bool
is_named_text named (Scalar.literal z) = is_named named z
is_named_text named s = false

-- the two may be compared so: texts with one another and with those that have a name, numbers with numbers in common
abbrev pub may_compare : (named : List ℤ) → Comparison → (s t : Scalar) → (k l : Option Kind) → Bool
may_compare named c s t (Some kind.Text) (Some kind.Text) = asks_equality c
may_compare named c s t (Some kind.Text) (Some (kind.Number b)) = asks_equality c && is_named_text named t
may_compare named c s t (Some (kind.Number a)) (Some kind.Text) = asks_equality c && is_named_text named s
may_compare named c s t (Some (kind.Number a)) (Some (kind.Number b)) = is_some (common a b)
may_compare named c s t k l = false

-- the condition compares what may be compared
abbrev pub may_ask : List ℤ → List Kind → Cond → Bool
may_ask named ks (Cond.compare c s t) = may_compare named c s t (scalar_kind ks s) (scalar_kind ks t)
may_ask named ks (Cond.conjunction c d) = may_ask named ks c && may_ask named ks d
may_ask named ks (Cond.disjunction c d) = may_ask named ks c && may_ask named ks d
may_ask named ks (Cond.negation c) = may_ask named ks c

-- a kind that may be added up
abbrev pub summed : Option Kind → Option Kind
summed (Some (kind.Number a)) = option_map kind.Number (opposite a)
summed k = None

-- a kind that has an order
abbrev pub ordered : Option Kind → Option Kind
ordered (Some (kind.Number a)) = Some (kind.Number a)
ordered k = None

-- of an aggregate over records of these kinds
abbrev pub agg_kind : List Kind → Agg → Option Kind
agg_kind ks Agg.count = Some (kind.Number quantity.Whole)
agg_kind ks (Agg.sum c) = summed (slice_get ks c)
agg_kind ks (Agg.min c) = ordered (slice_get ks c)
agg_kind ks (Agg.max c) = ordered (slice_get ks c)
