use Rattle.std.proofs.Common.{◌≡◌, ◌++◌, ℕ, List, drop}
use Rattle.schema.specs.Text.{AreTablesText}
use Rattle.schema.proofs.writing.push_tables.Given as goal

-- the texts of the tables that are left make those so far whole
abbrev pub invariant-loop-table : goal.invariant-loop-table
invariant-loop-table l = (rest : List ℕ) → AreTablesText l.word (drop l.table-index l.tables) rest → (text : List ℕ)
    × AreTablesText l.word l.tables text × (l.out.items ++ rest ≡ l.fn.out.items ++ text)
