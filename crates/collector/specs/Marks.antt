-- What a text shows that may have to end with the mark.
use Rattle.std.specs.Prelude.{◌≡◌, ◌++◌, cond, Bool, true, ℕ, List, [], Option, None}
use Rattle.collector.specs.Mark.{end_mark}
use Rattle.collector.specs.Watching.{handed, has_ended, inner_of}
use Rattle.collector.specs.declared.end_mark.Marked.{Marked}
use Rattle.collector.specs.declared.watched.Watched.{Watched}

-- it has to end with the mark
abbrev pub has_to_end : {R : Type 0} → Marked R → Bool
has_to_end m = m.is_marked

-- its own reader
abbrev pub reader_of : {R : Type 0} → Marked R → Watched R
reader_of m = m.reader

-- all bytes that it has handed over
abbrev pub given_of : {R : Type 0} → Marked R → List ℕ
given_of m = m.given.items

-- its own reader has ended, and gave just what was handed over, and then the mark where there has to be one
abbrev pub IsWhole : {R : Type 0} → Marked R → Type 0
IsWhole m = (has_ended m.reader ≡ true) × (handed m.reader ≡ given_of m ++ cond m.is_marked end_mark [])

-- what is known to be left of it: nothing where it has to end with the mark
abbrev pub left_of : {R : Type 0} → (left : R → Option (List ℕ)) → Marked R → Option (List ℕ)
left_of left m = cond m.is_marked None (left (inner_of m.reader))
