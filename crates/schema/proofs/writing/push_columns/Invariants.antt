use Rattle.std.proofs.Common.{◌≡◌, ◌++◌, ℕ, List, drop, map}
use Rattle.schema.specs.Text.{AreColumnsText}
use Rattle.schema.proofs.writing.push_columns.Given as goal

-- the lines of the columns that are left make those so far whole
abbrev pub invariant-loop-i : goal.invariant-loop-i
invariant-loop-i l = (rest : List ℕ) → AreColumnsText (drop l.i (map (λ v. v.items) l.names)) (drop l.i l.columns) rest
    → (text : List ℕ) × AreColumnsText (map (λ v. v.items) l.names) l.columns text × (l.out.items ++ rest ≡ l.fn.out.items ++ text)
