-- What a batch that is fed says of its records, repeats counted.
use Rattle.std.proofs.Common.{◌≡◌, ◌≤◌, ◌<◌, ℕ, zero, suc, List, [], ◌∷◌, length, subst, arith}
use Rattle.std.specs.List.{All}
use Rattle.std.proofs.lemmas.List.Elements.{All-append, All-cons, All-head, All-nil, All-tail}
use Rattle.semantics.specs.Multiset.{Record}
use Rattle.rows.specs.Counts.{Run, expanded, repeated, rows_of, runs}
use Rattle.rows.specs.FlatRows.{arity_of}

-- there are records if the arity is at least one
pub some_records : (batch : List Record) → 1 ≤ arity_of batch → 0 < length batch
some_records [] h = absurd (omega (arith, h))
some_records (r ∷ batch) h = omega arith

all_repeated : (P : Record → Type 0) (n : ℕ) (r : Record) → P r → All P (repeated n r)
all_repeated P zero r h = All-nil P
all_repeated P (suc n) r h = All-cons P r (repeated n r) h (all_repeated P n r h)

all_expanded : (P : Record → Type 0) (cs : List Run) → All P (rows_of cs) → All P (expanded cs)
all_expanded P [] h = All-nil P
all_expanded P (c ∷ cs) h = All-append P (repeated c.count c.row) (expanded cs) (all_repeated P c.count c.row (All-head P c.row (rows_of cs) h)) (all_expanded P cs (All-tail P c.row (rows_of cs) h))

-- what holds of each distinct record holds of each record
pub each_record : (P : Record → Type 0) (batch : List Record) → expanded (runs batch) ≡ batch → All P (rows_of (runs batch)) → All P batch
each_record P batch all h = subst (All P) all (all_expanded P (runs batch) h)
