use Rattle.std.proofs.Common.{◌≡◌, ◌+◌, ◌≤◌, drop}
use Rattle.expr_tree.specs.PlainLists.{plain_lets}
use Rattle.sql_meaning.specs.Count.{lets_count}
use Rattle.sql.specs.declared.counting.TheConstants.{MAX_TABLES}
use Rattle.sql.proofs.counting.count_lets.Given as goal

abbrev pub invariant-loop-i : goal.invariant-loop-i
invariant-loop-i g l = (l.so_far + lets_count l.recursive (plain_lets (drop l.i l.lets)) ≡ lets_count l.recursive (plain_lets l.lets)) × (l.so_far ≤ MAX_TABLES)
