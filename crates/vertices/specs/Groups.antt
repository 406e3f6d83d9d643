-- The groups of records.
use Rattle.std.specs.Prelude.{◌≡◌, ℕ, ◌<◌, List, [], ◌∷◌, ◌++◌, map, filter, length, slice_index_or}
use Rattle.expr_tree.specs.Plain.{plain_agg}
use Rattle.operators.specs.declared.group.Group.{Group}
use Rattle.operators.specs.Aggregates.{stored_key}
use Rattle.semantics.specs.Meaning.{aggregate, grouped}
use Rattle.semantics.specs.Multiset.{Record, same, ◌≈◌, each_once}
use Rattle.semantics.specs.Query.{Agg}
use Rattle.vertices.specs.declared.groups.Groups.{Groups}

-- the columns of the key
abbrev pub columns_of : Group → List ℕ
columns_of g = map (λ k. k.index) g.columns.items

-- the aggregates
abbrev pub aggregates_of : Group → List Agg
aggregates_of g = map plain_agg g.aggregates.items

-- the records with that key
abbrev pub keyed : (Record → Record) → Record → List Record → List Record
keyed key k xs = filter (λ r. same (key r) k) xs

-- each key that is present, once, and by its place the aggregates of its records
pub record AreGrouped (key : Record → Record) (as' : List Agg) (keys values : List Record) (xs : List Record) : Type 0 where
  pub keys_are : keys ≈ each_once (map key xs)
  pub as_many : length values ≡ length keys
  pub values_are : (p : ℕ) → p < length keys → slice_index_or values p [] ≡ map (λ a. aggregate a (keyed key (slice_index_or keys p []) xs)) as'

-- a key is stored with one number at least
abbrev pub key_arity : List ℕ → ℕ
key_arity [] = 1
key_arity (k ∷ ks) = length (k ∷ ks)

-- what is shown of a stored key: the key
abbrev pub shown_key : List ℕ → Record → Record
shown_key [] k = []
shown_key (c ∷ ks) k = k

-- the groups of records
pub record AreGroupsOf (g : Group) (groups : Groups) (xs : List Record) : Type 0 where
  pub arity : groups.keys.arity ≡ key_arity (columns_of g)
  pub width : groups.values.arity ≡ length (aggregates_of g)
  pub grouped : AreGrouped (stored_key (columns_of g)) (aggregates_of g) groups.keys.rows groups.values.rows xs

-- a record for each group of the records
abbrev pub group_records : Group → List Record → List Record
group_records g xs = grouped (columns_of g) (aggregates_of g) xs

-- the rows are the group records of what came to port 0
abbrev pub AreGroupRecords : Group → (rows : List Record) → (ℕ → List Record) → Type 0
AreGroupRecords g rows f = rows ≈ group_records g (f 0)

-- the record of the group at a place: its key, then its aggregates
abbrev pub group_record : Group → Groups → (place : ℕ) → Record
group_record g groups place = shown_key (columns_of g) (slice_index_or groups.keys.rows place []) ++ slice_index_or groups.values.rows place []
