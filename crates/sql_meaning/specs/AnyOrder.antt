-- What a database may hold, which keeps the rows of a table in any order: each table is the multiset that its query gives on the tables before it.
use Rattle.std.specs.Prelude.{◌≡◌, List, [], ◌∷◌, length, map, slice_index_or, ℕ}
use Rattle.semantics.specs.Multiset.{Record, ◌≈◌}
use Rattle.sql_meaning.specs.Script.{Table, Query, Script}
use Rattle.sql_meaning.specs.ScriptMeaning.{Contents, rows_of, with_table, only_given}

-- after the tables of a script, the latest first
abbrev pub MayHold : List Query → List (List Record) → Contents → Type 0
MayHold [] tables holds = (t : Table) → holds t ≈ only_given tables t
MayHold (q ∷ earlier) tables holds =
    (before : Contents) × (rows : List Record) × MayHold earlier tables before × (rows ≈ rows_of q before)
    × ((t : Table) → holds t ≡ with_table (length earlier) rows before t)

-- a database may answer the script with these rows for an output
abbrev pub MayAnswer : Script → List (List Record) → (output : ℕ) → List Record → Type 0
MayAnswer s tables k rows = (holds : Contents) × MayHold s.tables tables holds × (rows ≈ slice_index_or (map holds s.results) k [])
