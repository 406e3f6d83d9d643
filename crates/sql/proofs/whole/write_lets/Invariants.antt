use Rattle.std.proofs.Common.{◌≡◌, drop}
use Rattle.expr_tree.specs.PlainLists.{plain_lets}
use Rattle.sql_meaning.specs.Translation.{after_lets}
use Rattle.sql.specs.Shown.{made_of, names_of}
use Rattle.sql.proofs.whole.write_lets.Given as goal

abbrev pub invariant-loop-i : goal.invariant-loop-i
invariant-loop-i g l =
    after_lets l.recursive (plain_lets l.lets) (record { names = names_of l.fn.scope; tables = made_of l.fn.made.items })
    ≡ after_lets l.recursive (plain_lets (drop l.i l.lets)) (record { names = names_of l.scope; tables = made_of l.made.items })
