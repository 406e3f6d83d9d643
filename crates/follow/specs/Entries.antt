-- Records as they are written, each with the place of its output.
use Rattle.std.specs.Prelude.{◌<◌, ℕ, ◌==◌, cond, List, [], ◌∷◌, ◌++◌, codes, decimal, slice_index_or}
use Rattle.std.specs.List.{AllByRecursion, flat_map}
use Rattle.semantics.specs.Multiset.{Record}
use Rattle.semantics.specs.Query.{Name}
use Rattle.collector.specs.OutputText.{is_plain, label_of, spaced}

-- the place of an output, and a record that was emitted there
abbrev pub Entry : Type 0
Entry = ℕ × Record

-- the records of an output, in the order in which they are written
abbrev pub records_of : (output : ℕ) → List Entry → List Record
records_of k [] = []
records_of k (entry ∷ entries) = cond (entry.0 == k) (entry.1 ∷ records_of k entries) (records_of k entries)

-- the number of an epoch, a label, and the fields of a record, each after a space
abbrev pub row_line : (epoch : ℕ) → (label : List ℕ) → Record → List ℕ
row_line epoch label row = decimal epoch ++ (label ++ (flat_map spaced row ++ 10 ∷ []))

-- the line of an entry, by the names of the outputs
abbrev pub entry_line : (names : List Name) → (epoch : ℕ) → Entry → List ℕ
entry_line names epoch entry = row_line epoch (label_of (is_plain names) (slice_index_or names entry.0 [])) entry.1

-- the line that says that an epoch is complete
abbrev pub complete_line : (epoch : ℕ) → List ℕ
complete_line epoch = codes "complete " ++ (decimal epoch ++ 10 ∷ [])

-- each entry is at one of that many outputs
abbrev pub AreAt : (outputs : ℕ) → List Entry → Type 0
AreAt n entries = AllByRecursion (λ (e : Entry). e.0 < n) entries
