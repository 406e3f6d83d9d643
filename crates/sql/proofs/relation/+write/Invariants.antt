use Rattle.std.proofs.Common.{◌≡◌}
use Rattle.expr_tree.specs.Plain.{plain_rel}
use Rattle.expr_tree.specs.Views.{rel_tree}
use Rattle.semantics.specs.Query.{Loop}
use Rattle.sql_meaning.specs.Translation.{written_loop}
use Rattle.sql.specs.Shown.{IsWritten, made_of, names_of, shown_table, turn_of}
use Rattle.sql.proofs.Steps.{IsFound, after}
use Rattle.sql.proofs.relation.+write.Given as goal

abbrev pub invariant-write_iterate-loop-turn : goal.invariant-write_iterate-loop-turn
invariant-write_iterate-loop-turn g l =
    IsWritten (written_loop Loop.iterate l._turn (turn_of l.recursive l.name (plain_rel (rel_tree l.body)) (names_of l.fn.scope)) (record { tables = made_of l.fn.made.items; result = shown_table l.fn.start })) l.made.items l.latest
    × (l.scope ≡ l.fn.scope)

abbrev pub invariant-write_closure-loop-turn : goal.invariant-write_closure-loop-turn
invariant-write_closure-loop-turn g l =
    IsFound (after (turn_of l.recursive l.name (plain_rel (rel_tree l.body)) (names_of l.fn.scope)) (record { tables = made_of l.fn.made.items; result = shown_table l.fn.start }) l._turn) l.made.items l.all l.latest
    × (l.scope ≡ l.fn.scope)
