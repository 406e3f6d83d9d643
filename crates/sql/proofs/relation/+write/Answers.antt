use Rattle.std.proofs.Common.{rules, map, refl, sym, ◌∙◌}
use Rattle.expr_tree.specs.Plain.{plain_agg, plain_cond, plain_form, plain_pair, plain_rel}
use Rattle.expr_tree.specs.PlainLists.{plain_scalars}
use Rattle.expr_tree.specs.Views.{cond_tree, rel_tree}
use Rattle.semantics.specs.Query.{Loop}
use Rattle.sql_meaning.specs.Script.{Query, Term}
use Rattle.sql_meaning.specs.Translation.{aggregate_of, expression, search, written, written_term}
use Rattle.sql.specs.Shown.{made_of, names_of, shown_operation, shown_table, turn_of}
use Rattle.sql.proofs.Names.{names_bound}
use Rattle.sql.proofs.Steps.{found_at_first, found_more, left_term, loop_recursive, loop_turns, loop_written, one_written, right_term, step_term, set_written, turn_more, two_written}
use Rattle.sql.proofs.relation.+write.Goals as goal

pub write_rel-returns-in-Named-clause-made : goal.write_rel-returns-in-Named-clause-made
unfolding written
write_rel-returns-in-Named-clause-made g t c = rw (c.in-Named.is, c.find.ensures) refl

pub write_rel-returns-in_ok-from-in-Select-clause-made : goal.write_rel-returns-in_ok-from-in-Select-clause-made
unfolding written
write_rel-returns-in_ok-from-in-Select-clause-made g t c =
    rw c.in-Select.is (one_written c.add_table.result c.add_table.new.made.items _ c.write_rel.new.made.items c.in_ok-from-in-Select.from (λ u. Query.select (map expression (plain_scalars c.in-Select.scalars.items)) u)
    (rw c.deref.ensures at c.in_ok-from-in-Select.ensures.made) (rw c.deref-in-Select.ensures.value at c.add_table.ensures))

pub write_rel-returns-in_ok-from-in-Where-clause-made : goal.write_rel-returns-in_ok-from-in-Where-clause-made
unfolding written
write_rel-returns-in_ok-from-in-Where-clause-made g t c =
    rw c.in-Where.is (one_written c.add_table-in-Where.result c.add_table-in-Where.new.made.items _ c.write_rel-in-Where.new.made.items c.in_ok-from-in-Where.from (λ u. Query.select_where u (search (plain_cond (cond_tree c.in-Where.condition))))
    (rw c.deref-in-Where.ensures at c.in_ok-from-in-Where.ensures.made) c.add_table-in-Where.ensures)

pub write_rel-returns-in_ok-right-in-SetOperation-clause-made : goal.write_rel-returns-in_ok-right-in-SetOperation-clause-made
write_rel-returns-in_ok-right-in-SetOperation-clause-made g t c =
    let names = names_of c.args.scope.now in
    let p = plain_rel (rel_tree c.in-SetOperation.left.value) in
    let q = plain_rel (rel_tree c.in-SetOperation.right.value) in
    rw (c.in-SetOperation.is, set_written c.args.recursive c.in-SetOperation.operator p q names (made_of c.args.made.now.items))
    (two_written c.add_table-in-SetOperation.result c.add_table-in-SetOperation.new.made.items (written c.args.recursive p names (made_of c.args.made.now.items)) (written c.args.recursive q names) c.write_rel-in-SetOperation.new.made.items c.write_rel-in-SetOperation-2.new.made.items
    c.in_ok-left-in-SetOperation.left c.in_ok-right-in-SetOperation.right (shown_operation c.in-SetOperation.operator)
    (rw c.deref-in-SetOperation.ensures at c.in_ok-left-in-SetOperation.ensures.made) (rw (c.deref-in-SetOperation-2.ensures, c.in_ok-left-in-SetOperation.ensures.scope) at c.in_ok-right-in-SetOperation.ensures.made) c.add_table-in-SetOperation.ensures)

pub write_rel-returns-in_ok-right-in-Join-clause-made : goal.write_rel-returns-in_ok-right-in-Join-clause-made
unfolding written
write_rel-returns-in_ok-right-in-Join-clause-made g t c =
    let names = names_of c.args.scope.now in
    let p = plain_rel (rel_tree c.in-Join.left.value) in
    let q = plain_rel (rel_tree c.in-Join.right.value) in
    rw c.in-Join.is
    (two_written c.add_table-in-Join.result c.add_table-in-Join.new.made.items (written c.args.recursive p names (made_of c.args.made.now.items)) (written c.args.recursive q names) c.write_rel-in-Join.new.made.items c.write_rel-in-Join-2.new.made.items
    c.in_ok-left-in-Join.left c.in_ok-right-in-Join.right (λ u v. Query.select_join u v (map plain_pair c.in-Join.pairs.items))
    (rw c.deref-in-Join.ensures at c.in_ok-left-in-Join.ensures.made) (rw (c.deref-in-Join-2.ensures, c.in_ok-left-in-Join.ensures.scope) at c.in_ok-right-in-Join.ensures.made) (rw c.deref-in-Join-3.ensures.value at c.add_table-in-Join.ensures))

pub write_rel-returns-in_ok-from-in-Group-clause-made : goal.write_rel-returns-in_ok-from-in-Group-clause-made
unfolding written
write_rel-returns-in_ok-from-in-Group-clause-made g t c =
    rw c.in-Group.is (one_written c.add_table-in-Group.result c.add_table-in-Group.new.made.items _ c.write_rel-in-Group.new.made.items c.in_ok-from-in-Group.from
    (λ u. Query.select_group (map (λ k. k.index) c.in-Group.keys.items) (map aggregate_of (map plain_agg c.in-Group.aggregates.items)) u)
    (rw c.deref-in-Group.ensures at c.in_ok-from-in-Group.ensures.made) (rw (c.deref-in-Group-2.ensures.value, c.deref-in-Group-3.ensures.value) at c.add_table-in-Group.ensures))

pub write_rel-returns-in_ok-from-in-Distinct-clause-made : goal.write_rel-returns-in_ok-from-in-Distinct-clause-made
unfolding written
write_rel-returns-in_ok-from-in-Distinct-clause-made g t c =
    rw c.in-Distinct.is (one_written c.add_table-in-Distinct.result c.add_table-in-Distinct.new.made.items _ c.write_rel-in-Distinct.new.made.items c.in_ok-from-in-Distinct.from Query.select_distinct
    (rw c.deref-in-Distinct.ensures at c.in_ok-from-in-Distinct.ensures.made) c.add_table-in-Distinct.ensures)

pub write_rel-returns-in-Iterate-clause-made : goal.write_rel-returns-in-Iterate-clause-made
unfolding written
write_rel-returns-in-Iterate-clause-made g t c =
    rw (c.in-Loop.is, c.in-Iterate.is) (loop_written c.write_iterate.result c.write_iterate.new.made.items Loop.iterate c.in-Loop.turns (turn_of c.args.recursive c.in-Loop.name (plain_rel (rel_tree c.in-Loop.body.value)) (names_of c.args.scope.now)) _ c.write_rel-in-Loop.new.made.items c.in_ok-start-in-Loop.start
    (rw c.deref-in-Loop.ensures at c.in_ok-start-in-Loop.ensures.made) (rw (c.deref-in-Iterate.ensures, c.in_ok-start-in-Loop.ensures.scope) at c.write_iterate.ensures.made))

pub write_rel-returns-in-Closure-clause-made : goal.write_rel-returns-in-Closure-clause-made
write_rel-returns-in-Closure-clause-made g t c =
    let names = names_of c.args.scope.now in
    let turns = rw (c.in-Closure.is, c.deref-in-Loop-2.ensures) at c.is_recursion.ensures in
    rw (c.in-Loop.is, c.in-Closure.is)
    (loop_turns c.write_closure.result c.write_closure.new.made.items c.args.recursive Loop.closure c.in-Loop.turns c.in-Loop.name (plain_rel (rel_tree c.in-Loop.start.value)) (plain_rel (rel_tree c.in-Loop.body.value)) names (made_of c.args.made.now.items)
    (sym turns ∙ c.if-is_recursion.false)
    (loop_written c.write_closure.result c.write_closure.new.made.items Loop.closure c.in-Loop.turns (turn_of c.args.recursive c.in-Loop.name (plain_rel (rel_tree c.in-Loop.body.value)) names) _ c.write_rel-in-Loop.new.made.items c.in_ok-start-in-Loop.start
    (rw c.deref-in-Loop.ensures at c.in_ok-start-in-Loop.ensures.made) (rw (c.deref-in-Closure.ensures, c.in_ok-start-in-Loop.ensures.scope) at c.write_closure.ensures.made)))

pub write_rel-returns-then-is_recursion-clause-made : goal.write_rel-returns-then-is_recursion-clause-made
write_rel-returns-then-is_recursion-clause-made g t c =
    rw c.in-Loop.is
    (loop_recursive c.add_table-then-is_recursion.result c.add_table-then-is_recursion.new.made.items c.args.recursive (plain_form c.in-Loop.form) c.in-Loop.turns c.in-Loop.name (plain_rel (rel_tree c.in-Loop.start.value)) (plain_rel (rel_tree c.in-Loop.body.value))
    (names_of c.args.scope.now) (made_of c.args.made.now.items) (sym (rw c.deref-in-Loop-2.ensures at c.is_recursion.ensures) ∙ c.if-is_recursion.true) c.write_rel-in-Loop.new.made.items c.write_term.new.made.items c.in_ok-start-in-Loop.start c.in_ok-term-in-Loop.term
    (rw c.deref-in-Loop.ensures at c.in_ok-start-in-Loop.ensures.made) (rw (c.deref-then-is_recursion.ensures, c.in_ok-start-in-Loop.ensures.scope) at c.in_ok-term-in-Loop.ensures.made) c.add_table-then-is_recursion.ensures)

pub write_term-returns-in_ok-boxed-in-Select-clause-made : goal.write_term-returns-in_ok-boxed-in-Select-clause-made
unfolding written
write_term-returns-in_ok-boxed-in-Select-clause-made g t c =
    rw (c.in-Select.is, c.deref-in-Select.ensures.value)
    (step_term (Term.select (map expression (plain_scalars c.in-Select.scalars.items))) (written_term c.args.recursive c.args.name.now (plain_rel (rel_tree c.in-Select.of.value)) (names_of c.args.scope.now) (made_of c.args.made.now.items))
    c.write_term.new.made.items c.in_ok-of-in-Select.of c.in_ok-boxed-in-Select.field-0.value (rw c.deref.ensures at c.in_ok-of-in-Select.ensures.made) c.in_ok-boxed-in-Select.ensures)

pub write_term-returns-in_ok-boxed-in-Where-clause-made : goal.write_term-returns-in_ok-boxed-in-Where-clause-made
unfolding written
write_term-returns-in_ok-boxed-in-Where-clause-made g t c =
    rw c.in-Where.is
    (step_term (λ m. Term.select_where m (search (plain_cond (cond_tree c.in-Where.condition)))) (written_term c.args.recursive c.args.name.now (plain_rel (rel_tree c.in-Where.of.value)) (names_of c.args.scope.now) (made_of c.args.made.now.items))
    c.write_term-in-Where.new.made.items c.in_ok-of-in-Where.of c.in_ok-boxed-in-Where.field-0.value (rw c.deref-in-Where.ensures at c.in_ok-of-in-Where.ensures.made) c.in_ok-boxed-in-Where.ensures)

pub write_term-returns-in_ok-right-in-Join-clause-made : goal.write_term-returns-in_ok-right-in-Join-clause-made
write_term-returns-in_ok-right-in-Join-clause-made g t c =
    rw (c.in-Join.is, c.deref-then-is_linear-3.ensures.value)
    (left_term c.args.recursive c.args.name.now (plain_rel (rel_tree c.in-Join.left.value)) (plain_rel (rel_tree c.in-Join.right.value)) (map plain_pair c.in-Join.pairs.items) (names_of c.args.scope.now) (made_of c.args.made.now.items)
    c.write_term-then-is_linear.new.made.items c.write_rel.new.made.items c.in_ok-left-in-Join.left c.in_ok-left-in-Join-2.left.value c.in_ok-right-in-Join.right (sym (rw c.deref-in-Join.ensures at c.is_linear.ensures) ∙ c.if-is_linear.true)
    (rw c.deref-then-is_linear.ensures at c.in_ok-left-in-Join.ensures.made) c.in_ok-left-in-Join-2.ensures (rw (c.deref-then-is_linear-2.ensures, c.in_ok-left-in-Join.ensures.scope) at c.in_ok-right-in-Join.ensures.made))

pub write_term-returns-in_ok-boxed-in-Join-clause-made : goal.write_term-returns-in_ok-boxed-in-Join-clause-made
write_term-returns-in_ok-boxed-in-Join-clause-made g t c =
    rw (c.in-Join.is, c.deref-else-is_linear-3.ensures.value)
    (right_term c.args.recursive c.args.name.now (plain_rel (rel_tree c.in-Join.left.value)) (plain_rel (rel_tree c.in-Join.right.value)) (map plain_pair c.in-Join.pairs.items) (names_of c.args.scope.now) (made_of c.args.made.now.items)
    c.write_rel-else-is_linear.new.made.items c.write_term-else-is_linear.new.made.items c.in_ok-right-in-Join-2.right c.in_ok-boxed-in-Join.field-0.value c.in_ok-left-in-Join-3.left (sym (rw c.deref-in-Join.ensures at c.is_linear.ensures) ∙ c.if-is_linear.false)
    (rw c.deref-else-is_linear.ensures at c.in_ok-left-in-Join-3.ensures.made) (rw (c.deref-else-is_linear-2.ensures, c.in_ok-left-in-Join-3.ensures.scope) at c.in_ok-right-in-Join-2.ensures.made) c.in_ok-boxed-in-Join.ensures)

pub write_term-returns-in-Named-clause-made : goal.write_term-returns-in-Named-clause-made
unfolding written
write_term-returns-in-Named-clause-made g t c = Prim.search rules

pub write_turn-returns-clause-made : goal.write_turn-returns-clause-made
write_turn-returns-clause-made g t c =
    rw (c.in_ok-bind.ensures, names_bound c.args.scope.now (record { name = c.args.name.now; table = c.args.table })) at c.in_ok-gives.ensures.made

pub write_iterate-loop-turn-preserved : goal.write_iterate-loop-turn-preserved
write_iterate-loop-turn-preserved g t c =
    let names = names_of c.args.scope.now in
    let scope = c.loop-turn.invariant.1 in (
      turn_more (turn_of c.args.recursive c.args.name.now (plain_rel (rel_tree c.args.body.now)) names) (record { tables = made_of c.args.made.now.items; result = shown_table c.args.start }) c.loop-turn._turn c.loop-turn.made.items c.write_turn.new.made.items c.loop-turn.latest c.in_ok-latest.latest
          c.loop-turn.invariant.0 (rw scope at c.in_ok-latest.ensures.made),
      c.in_ok-latest.ensures.scope ∙ scope,
    )

pub write_closure-loop-turn-init : goal.write_closure-loop-turn-init
write_closure-loop-turn-init g t c =
    (found_at_first (turn_of c.args.recursive c.args.name.now (plain_rel (rel_tree c.args.body.now)) (names_of c.args.scope.now)) (record { tables = made_of c.args.made.now.items; result = shown_table c.args.start }) c.add_table.new.made.items c.in_ok-latest.latest c.in_ok-latest.ensures, refl)

pub write_closure-loop-turn-preserved : goal.write_closure-loop-turn-preserved
write_closure-loop-turn-preserved g t c =
    let names = names_of c.args.scope.now in
    let scope = c.loop-turn.invariant.1 in (
      found_more (turn_of c.args.recursive c.args.name.now (plain_rel (rel_tree c.args.body.now)) names) (record { tables = made_of c.args.made.now.items; result = shown_table c.args.start }) c.loop-turn._turn c.loop-turn.made.items c.write_turn.new.made.items c.add_table-in-loop-turn.new.made.items c.add_table-in-loop-turn-2.new.made.items
          c.loop-turn.all c.loop-turn.latest c.in_ok-gives.gives c.in_ok-latest-2.latest c.in_ok-all.all
          c.loop-turn.invariant.0 (rw scope at c.in_ok-gives.ensures.made) c.in_ok-latest-2.ensures c.in_ok-all.ensures,
      c.in_ok-gives.ensures.scope ∙ scope,
    )
