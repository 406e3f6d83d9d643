-- An aggregate, one record at a time.
use Rattle.std.specs.Prelude.{ℕ, List, [], ◌∷◌, ℤ, pos, ◌+ℤ◌, ◌*ℤ◌}
use Rattle.std.specs.Int.{int_wrap, int_min, int_max}
use mir.Syntax.{w64}
use Rattle.semantics.specs.Multiset.{Record}
use Rattle.semantics.specs.Meaning.{field, project}
use Rattle.semantics.specs.Query.{Agg}

-- the aggregate of one record that occurs n times, at least once
abbrev pub begun : Agg → Record → ℕ → ℤ
begun Agg.count r n = int_wrap w64 (pos n +ℤ pos 0)
begun (Agg.sum c) r n = int_wrap w64 (pos n *ℤ field c r)
begun (Agg.min c) r n = field c r
begun (Agg.max c) r n = field c r

-- the aggregate with a record added that occurs n times, at least once
abbrev pub weighed : Agg → ℤ → Record → ℕ → ℤ
weighed Agg.count v r n = int_wrap w64 (v +ℤ pos n)
weighed (Agg.sum c) v r n = int_wrap w64 (v +ℤ int_wrap w64 (pos n *ℤ field c r))
weighed (Agg.min c) v r n = int_min (field c r) v
weighed (Agg.max c) v r n = int_max (field c r) v

-- each aggregate with a record added that occurs n times
abbrev pub weighed_all : List Agg → List ℤ → Record → ℕ → List ℤ
weighed_all [] vs r n = []
weighed_all (a ∷ as') [] r n = []
weighed_all (a ∷ as') (v ∷ vs) r n = weighed a v r n ∷ weighed_all as' vs r n

-- what represents a record's key: the key, or a 0 if it has no columns
abbrev pub stored_key : List ℕ → Record → Record
stored_key [] r = pos 0 ∷ []
stored_key (k ∷ ks) r = project (k ∷ ks) r
