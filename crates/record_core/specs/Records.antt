-- What a record is: a list of fields, with the equality, the order and the hash of lists.
use Rattle.std.specs.Prelude.{◌≤◌, ℤ, Bool, List, length}
use Rattle.std.specs.declared.cmp.Ordering.{Ordering}
use Rattle.std.specs.Cmp.Lexicographic.{pointwise, slice_cmp}
use Rattle.std.specs.Hash.{HashWrites, slice, i64}
use Rattle.std.specs.Ordering.{int_cmp, int_eq}
use Rattle.semantics.specs.Limits.{max_fields}

-- 1 to 16 fields
abbrev pub IsRecord : List ℤ → Type 0
IsRecord fields = (1 ≤ length fields) × (length fields ≤ max_fields)

-- as many fields, each equal to the one at its place
abbrev pub fields_eq : List ℤ → List ℤ → Bool
fields_eq = pointwise int_eq

-- by the first field that differs; a list comes before its extensions
abbrev pub fields_cmp : List ℤ → List ℤ → Ordering
fields_cmp = slice_cmp int_cmp

-- what a hasher is fed
abbrev pub fields_hash : List ℤ → HashWrites
fields_hash = slice i64
