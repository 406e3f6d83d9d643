use Rattle.std.proofs.Common.{arith, rules, refl, ap, ◌≡◌, ◌+◌, ◌≤◌, max}
use Rattle.lexer.specs.declared.mark.Mark.TheVariants as mark
use Rattle.grammar.specs.Phrases.{Listed, Ended, Unread}
use Rattle.grammar.specs.Scalars.{ScalarAt}
use Rattle.grammar.specs.Conditions.{ConditionAt}
use Rattle.grammar.specs.Relations.{Reads, ColumnAt, PairAt, AggAt}
use Rattle.grammar.proofs.Scalars.{one_scalar}
use Rattle.grammar.proofs.Conditions.{one_condition}
use Rattle.grammar.proofs.Relations.{one_relation}
use Rattle.grammar.proofs.Phrases.{one_list, one_column}
use Rattle.parser.specs.Forms.{opening, closing}
use Rattle.parser.specs.declared.relation.Form.TheVariants as form
use Rattle.parser.proofs.Faults.{denied_with, denied_around, denied_always, passed_on}
use Rattle.parser.proofs.Lists.{one_ended, unread_ended, no_end}
use Rattle.parser.proofs.Relations.{named_at, no_rel, no_bracket, unread_open, two_first, two_second, two_high, three_first, three_second, three_third, three_high, once_first, once_high, inside_select, inside_where, inside_set_operation, inside_join, inside_group, inside_distinct, loop_two, no_loop, closure_two, no_closure_loop, closure_at, select_at, where_at, set_operation_at, join_at, group_at, distinct_at, iterate_at}
use Rattle.parser.proofs.relation.+parse.Goals as goal

pub parse_rel-returns-in-Some-after_name-clause-found : goal.parse_rel-returns-in-Some-after_name-clause-found
parse_rel-returns-in-Some-after_name-clause-found g t c =
    named_at _ _ _ _ _ c.in-Some-after_name.ensures.0 c.in-Some-after_name.ensures.1 c.in-Some-after_name.ensures.2 c.in_default.ensures

pub parse_rel-returns-in_default-after_form-clause-denied : goal.parse_rel-returns-in_default-after_form-clause-denied
parse_rel-returns-in_default-after_form-clause-denied g t c =
    λ m. no_rel _ _ m c.in_default-after_name.ensures c.in_default-after_form.ensures

pub parse_rel-returns-in_default-after_mark-clause-denied : goal.parse_rel-returns-in_default-after_mark-clause-denied
parse_rel-returns-in_default-after_mark-clause-denied g t c =
    λ m. no_bracket _ _ _ c.in-Some-after_form.form c.in-Some-after_form.keyword m c.in-Some-after_form.ensures c.in_default-after_mark.ensures

pub parse_rel-returns-then-room-eq0-clause-denied : goal.parse_rel-returns-then-room-eq0-clause-denied
parse_rel-returns-then-room-eq0-clause-denied g t c =
    unread_open _ _ _ c.if-room-eq0.true

pub parse_rel_then-returns-in_err-relation-clause-denied : goal.parse_rel_then-returns-in_err-relation-clause-denied
parse_rel_then-returns-in_err-relation-clause-denied g t c =
    passed_on c.from_residual.result c.in_err-relation.field-0.0 _ _ (search rules) (denied_with (Unread (Reads c.args.text.now) c.args.tokens.now) (Unread (Ended (Reads c.args.text.now) c.args.mark) c.args.tokens.now) c.in_err-relation.field-0.0 c.args.room (λ m u. unread_ended (Reads c.args.text.now) c.args.mark _ m u) c.in_err-relation.ensures.denied)

pub parse_rel_then-returns-in_default-clause-denied : goal.parse_rel_then-returns-in_default-clause-denied
parse_rel_then-returns-in_default-clause-denied g t c =
    λ m. no_end (Reads c.args.text.now) c.args.mark _ _ _ _ m (one_relation c.args.text.now) c.in_ok-relation.ensures.found c.in_default.ensures

pub parse_select-returns-in_err-relation-clause-denied : goal.parse_select-returns-in_err-relation-clause-denied
parse_select-returns-in_err-relation-clause-denied g t c =
    passed_on c.from_residual.result c.in_err-relation.field-0.0 (Unread (Reads c.args.text.now) (opening form.Select c.args.opening.keyword c.args.opening.bracket c.args.tokens.now)) (c.args.room + 1) (search rules) (denied_around (Unread (Ended (Reads c.args.text.now) mark.Semicolon) c.args.tokens.now) (Unread (Reads c.args.text.now) (opening form.Select c.args.opening.keyword c.args.opening.bracket c.args.tokens.now)) c.in_err-relation.field-0.0 c.args.room (c.args.room + 1) (omega arith) (λ m l e u q k us d. two_first (Ended (Reads c.args.text.now) mark.Semicolon) (Ended (Listed ScalarAt) mark.CloseRound) _ _ m l _ e u (inside_select d)) (c.in_err-relation.ensures.denied))

pub parse_select-returns-in_err-scalars-clause-denied : goal.parse_select-returns-in_err-scalars-clause-denied
parse_select-returns-in_err-scalars-clause-denied g t c =
    passed_on c.from_residual-in_err-scalars.result c.in_err-scalars.field-0.0 (Unread (Reads c.args.text.now) (opening form.Select c.args.opening.keyword c.args.opening.bracket c.args.tokens.now)) (c.args.room + 1) (search rules) (denied_around (Unread (Ended (Listed ScalarAt) mark.CloseRound) c.in_ok-relation.inner.now) (Unread (Reads c.args.text.now) (opening form.Select c.args.opening.keyword c.args.opening.bracket c.args.tokens.now)) c.in_err-scalars.field-0.0 c.args.room (c.args.room + 1) (omega arith) (λ m l e u q k us d. two_second (Ended (Reads c.args.text.now) mark.Semicolon) (Ended (Listed ScalarAt) mark.CloseRound) _ _ _ _ _ m l _ e (one_ended (Reads c.args.text.now) mark.Semicolon (one_relation c.args.text.now)) (_, c.in_ok-relation.ensures.found) u (inside_select d)) (c.in_err-scalars.ensures.denied))

pub parse_select-returns-then-most-eq-MAX_HEIGHT-clause-denied : goal.parse_select-returns-then-most-eq-MAX_HEIGHT-clause-denied
parse_select-returns-then-most-eq-MAX_HEIGHT-clause-denied g t c =
    λ q k us d.
    let most : c.args.room + 1 ≤ max c.in_ok-relation.height c.in_ok-scalars.other = omega arith in
    two_high (Ended (Reads c.args.text.now) mark.Semicolon) (Ended (Listed ScalarAt) mark.CloseRound) _ _ _ _ _ _ _ _ (c.args.room + 1) _ (one_ended (Reads c.args.text.now) mark.Semicolon (one_relation c.args.text.now)) (one_ended (Listed ScalarAt) mark.CloseRound (one_list ScalarAt one_scalar)) (_, c.in_ok-relation.ensures.found) (_, c.in_ok-scalars.ensures.found) most (inside_select d)

pub parse_select-returns-clause-found : goal.parse_select-returns-clause-found
parse_select-returns-clause-found g t c =
    select_at _ _ _ _ _ _ _ _ _ _ _ _ _ _ _ c.in_ok-relation.ensures.found c.in_ok-scalars.ensures.found c.spanning-span.ensures refl (ap (λ v. v + 1) c.max-most.ensures)

pub parse_where-returns-in_err-relation-clause-denied : goal.parse_where-returns-in_err-relation-clause-denied
parse_where-returns-in_err-relation-clause-denied g t c =
    passed_on c.from_residual.result c.in_err-relation.field-0.0 (Unread (Reads c.args.text.now) (opening form.Where c.args.opening.keyword c.args.opening.bracket c.args.tokens.now)) (c.args.room + 1) (search rules) (denied_around (Unread (Ended (Reads c.args.text.now) mark.Semicolon) c.args.tokens.now) (Unread (Reads c.args.text.now) (opening form.Where c.args.opening.keyword c.args.opening.bracket c.args.tokens.now)) c.in_err-relation.field-0.0 c.args.room (c.args.room + 1) (omega arith) (λ m l e u q k us d. two_first (Ended (Reads c.args.text.now) mark.Semicolon) (Ended (ConditionAt) mark.CloseRound) _ _ m l _ e u (inside_where d)) (c.in_err-relation.ensures.denied))

pub parse_where-returns-in_err-condition-clause-denied : goal.parse_where-returns-in_err-condition-clause-denied
parse_where-returns-in_err-condition-clause-denied g t c =
    passed_on c.from_residual-in_err-condition.result c.in_err-condition.field-0.0 (Unread (Reads c.args.text.now) (opening form.Where c.args.opening.keyword c.args.opening.bracket c.args.tokens.now)) (c.args.room + 1) (search rules) (denied_around (Unread (Ended (ConditionAt) mark.CloseRound) c.in_ok-relation.inner.now) (Unread (Reads c.args.text.now) (opening form.Where c.args.opening.keyword c.args.opening.bracket c.args.tokens.now)) c.in_err-condition.field-0.0 c.args.room (c.args.room + 1) (omega arith) (λ m l e u q k us d. two_second (Ended (Reads c.args.text.now) mark.Semicolon) (Ended (ConditionAt) mark.CloseRound) _ _ _ _ _ m l _ e (one_ended (Reads c.args.text.now) mark.Semicolon (one_relation c.args.text.now)) (_, c.in_ok-relation.ensures.found) u (inside_where d)) (c.in_err-condition.ensures.denied))

pub parse_where-returns-then-most-eq-MAX_HEIGHT-clause-denied : goal.parse_where-returns-then-most-eq-MAX_HEIGHT-clause-denied
parse_where-returns-then-most-eq-MAX_HEIGHT-clause-denied g t c =
    λ q k us d.
    let most : c.args.room + 1 ≤ max c.in_ok-relation.height c.in_ok-condition.other = omega arith in
    two_high (Ended (Reads c.args.text.now) mark.Semicolon) (Ended (ConditionAt) mark.CloseRound) _ _ _ _ _ _ _ _ (c.args.room + 1) _ (one_ended (Reads c.args.text.now) mark.Semicolon (one_relation c.args.text.now)) (one_ended (ConditionAt) mark.CloseRound one_condition) (_, c.in_ok-relation.ensures.found) (_, c.in_ok-condition.ensures.found) most (inside_where d)

pub parse_where-returns-clause-found : goal.parse_where-returns-clause-found
parse_where-returns-clause-found g t c =
    where_at _ _ _ _ _ _ _ _ _ _ _ _ _ _ _ c.in_ok-relation.ensures.found c.in_ok-condition.ensures.found c.spanning-span.ensures refl (ap (λ v. v + 1) c.max-most.ensures)

pub parse_set_operation-returns-in_err-left-clause-denied : goal.parse_set_operation-returns-in_err-left-clause-denied
parse_set_operation-returns-in_err-left-clause-denied g t c =
    passed_on c.from_residual.result c.in_err-left.field-0.0 (Unread (Reads c.args.text.now) (opening (form.SetOperation c.args.operator) c.args.opening.keyword c.args.opening.bracket c.args.tokens.now)) (c.args.room + 1) (search rules) (denied_around (Unread (Ended (Reads c.args.text.now) mark.Comma) c.args.tokens.now) (Unread (Reads c.args.text.now) (opening (form.SetOperation c.args.operator) c.args.opening.keyword c.args.opening.bracket c.args.tokens.now)) c.in_err-left.field-0.0 c.args.room (c.args.room + 1) (omega arith) (λ m l e u q k us d. two_first (Ended (Reads c.args.text.now) mark.Comma) (Ended (Reads c.args.text.now) mark.CloseRound) _ _ m l _ e u (inside_set_operation c.args.operator d)) (c.in_err-left.ensures.denied))

pub parse_set_operation-returns-in_err-right-clause-denied : goal.parse_set_operation-returns-in_err-right-clause-denied
parse_set_operation-returns-in_err-right-clause-denied g t c =
    passed_on c.from_residual-in_err-right.result c.in_err-right.field-0.0 (Unread (Reads c.args.text.now) (opening (form.SetOperation c.args.operator) c.args.opening.keyword c.args.opening.bracket c.args.tokens.now)) (c.args.room + 1) (search rules) (denied_around (Unread (Ended (Reads c.args.text.now) mark.CloseRound) c.in_ok-left.inner.now) (Unread (Reads c.args.text.now) (opening (form.SetOperation c.args.operator) c.args.opening.keyword c.args.opening.bracket c.args.tokens.now)) c.in_err-right.field-0.0 c.args.room (c.args.room + 1) (omega arith) (λ m l e u q k us d. two_second (Ended (Reads c.args.text.now) mark.Comma) (Ended (Reads c.args.text.now) mark.CloseRound) _ _ _ _ _ m l _ e (one_ended (Reads c.args.text.now) mark.Comma (one_relation c.args.text.now)) (_, c.in_ok-left.ensures.found) u (inside_set_operation c.args.operator d)) (c.in_err-right.ensures.denied))

pub parse_set_operation-returns-then-most-eq-MAX_HEIGHT-clause-denied : goal.parse_set_operation-returns-then-most-eq-MAX_HEIGHT-clause-denied
parse_set_operation-returns-then-most-eq-MAX_HEIGHT-clause-denied g t c =
    λ q k us d.
    let most : c.args.room + 1 ≤ max c.in_ok-left.height c.in_ok-right.other = omega arith in
    two_high (Ended (Reads c.args.text.now) mark.Comma) (Ended (Reads c.args.text.now) mark.CloseRound) _ _ _ _ _ _ _ _ (c.args.room + 1) _ (one_ended (Reads c.args.text.now) mark.Comma (one_relation c.args.text.now)) (one_ended (Reads c.args.text.now) mark.CloseRound (one_relation c.args.text.now)) (_, c.in_ok-left.ensures.found) (_, c.in_ok-right.ensures.found) most (inside_set_operation c.args.operator d)

pub parse_set_operation-returns-clause-found : goal.parse_set_operation-returns-clause-found
parse_set_operation-returns-clause-found g t c =
    set_operation_at _ _ _ _ _ _ _ _ _ _ _ _ _ _ _ _ c.in_ok-left.ensures.found c.in_ok-right.ensures.found c.spanning-span.ensures refl (ap (λ v. v + 1) c.max-most.ensures)

pub parse_iterate-returns-in_err-head-clause-denied : goal.parse_iterate-returns-in_err-head-clause-denied
parse_iterate-returns-in_err-head-clause-denied g t c =
    passed_on c.from_residual.result c.in_err-head.field-0.0 (Unread (Reads c.args.text.now) (opening form.Iterate c.args.opening.keyword c.args.opening.bracket c.args.tokens.now)) (c.args.room + 1) (search rules) (denied_always (Unread (Reads c.args.text.now) (opening form.Iterate c.args.opening.keyword c.args.opening.bracket c.args.tokens.now)) c.in_err-head.field-0.0 (c.args.room + 1) (λ m. no_loop _ _ _ _ m c.in_err-head.ensures.none))

pub parse_iterate-returns-in_err-start-clause-denied : goal.parse_iterate-returns-in_err-start-clause-denied
parse_iterate-returns-in_err-start-clause-denied g t c =
    passed_on c.from_residual-in_err-start.result c.in_err-start.field-0.0 (Unread (Reads c.args.text.now) (opening form.Iterate c.args.opening.keyword c.args.opening.bracket c.args.tokens.now)) (c.args.room + 1) (search rules) (denied_around (Unread (Ended (Reads c.args.text.now) mark.Semicolon) c.in_ok-head.first.now) (Unread (Reads c.args.text.now) (opening form.Iterate c.args.opening.keyword c.args.opening.bracket c.args.tokens.now)) c.in_err-start.field-0.0 c.args.room (c.args.room + 1) (omega arith) (λ m l e u q k us d. two_first (Ended (Reads c.args.text.now) mark.Semicolon) (Ended (Reads c.args.text.now) mark.CloseRound) _ _ m l _ e u (loop_two _ _ _ _ _ _ _ _ _ _ _ c.in_ok-head.ensures.found d)) (c.in_err-start.ensures.denied))

pub parse_iterate-returns-in_err-body-clause-denied : goal.parse_iterate-returns-in_err-body-clause-denied
parse_iterate-returns-in_err-body-clause-denied g t c =
    passed_on c.from_residual-in_err-body.result c.in_err-body.field-0.0 (Unread (Reads c.args.text.now) (opening form.Iterate c.args.opening.keyword c.args.opening.bracket c.args.tokens.now)) (c.args.room + 1) (search rules) (denied_around (Unread (Ended (Reads c.args.text.now) mark.CloseRound) c.in_ok-start.inner.now) (Unread (Reads c.args.text.now) (opening form.Iterate c.args.opening.keyword c.args.opening.bracket c.args.tokens.now)) c.in_err-body.field-0.0 c.args.room (c.args.room + 1) (omega arith) (λ m l e u q k us d. two_second (Ended (Reads c.args.text.now) mark.Semicolon) (Ended (Reads c.args.text.now) mark.CloseRound) _ _ _ _ _ m l _ e (one_ended (Reads c.args.text.now) mark.Semicolon (one_relation c.args.text.now)) (_, c.in_ok-start.ensures.found) u (loop_two _ _ _ _ _ _ _ _ _ _ _ c.in_ok-head.ensures.found d)) (c.in_err-body.ensures.denied))

pub parse_iterate-returns-then-most-eq-MAX_HEIGHT-clause-denied : goal.parse_iterate-returns-then-most-eq-MAX_HEIGHT-clause-denied
parse_iterate-returns-then-most-eq-MAX_HEIGHT-clause-denied g t c =
    λ q k us d.
    let most : c.args.room + 1 ≤ max c.in_ok-start.height c.in_ok-body.other = omega arith in
    two_high (Ended (Reads c.args.text.now) mark.Semicolon) (Ended (Reads c.args.text.now) mark.CloseRound) _ _ _ _ _ _ _ _ (c.args.room + 1) _ (one_ended (Reads c.args.text.now) mark.Semicolon (one_relation c.args.text.now)) (one_ended (Reads c.args.text.now) mark.CloseRound (one_relation c.args.text.now)) (_, c.in_ok-start.ensures.found) (_, c.in_ok-body.ensures.found) most (loop_two _ _ _ _ _ _ _ _ _ _ _ c.in_ok-head.ensures.found d)

pub parse_iterate-returns-clause-found : goal.parse_iterate-returns-clause-found
parse_iterate-returns-clause-found g t c =
    iterate_at _ _ _ _ _ _ _ _ _ _ _ _ _ _ _ _ _ _ _ _ c.in_ok-head.ensures.found c.in_ok-head.ensures.name c.in_ok-start.ensures.found c.in_ok-body.ensures.found c.spanning-span.ensures c.iteration.ensures (ap (λ v. v + 1) c.max-most.ensures)

pub parse_closure-returns-in_err-head-clause-denied : goal.parse_closure-returns-in_err-head-clause-denied
parse_closure-returns-in_err-head-clause-denied g t c =
    passed_on c.from_residual.result c.in_err-head.field-0.0 (Unread (Reads c.args.text.now) (closing c.args.opening c.args.tokens.now)) (c.args.room + 1) (search rules) (denied_always (Unread (Reads c.args.text.now) (closing c.args.opening c.args.tokens.now)) c.in_err-head.field-0.0 (c.args.room + 1) (λ m. no_closure_loop _ _ _ m c.requires.word c.in_err-head.ensures.none))

pub parse_closure-returns-in_err-start-clause-denied : goal.parse_closure-returns-in_err-start-clause-denied
parse_closure-returns-in_err-start-clause-denied g t c =
    passed_on c.from_residual-in_err-start.result c.in_err-start.field-0.0 (Unread (Reads c.args.text.now) (closing c.args.opening c.args.tokens.now)) (c.args.room + 1) (search rules) (denied_around (Unread (Ended (Reads c.args.text.now) mark.Semicolon) c.in_ok-head.first.now) (Unread (Reads c.args.text.now) (closing c.args.opening c.args.tokens.now)) c.in_err-start.field-0.0 c.args.room (c.args.room + 1) (omega arith) (λ m l e u q k us d. two_first (Ended (Reads c.args.text.now) mark.Semicolon) (Ended (Reads c.args.text.now) mark.CloseRound) _ _ m l _ e u (closure_two _ _ _ _ _ _ _ _ _ _ c.requires.word c.in_ok-head.ensures.found d)) (c.in_err-start.ensures.denied))

pub parse_closure-returns-in_err-body-clause-denied : goal.parse_closure-returns-in_err-body-clause-denied
parse_closure-returns-in_err-body-clause-denied g t c =
    passed_on c.from_residual-in_err-body.result c.in_err-body.field-0.0 (Unread (Reads c.args.text.now) (closing c.args.opening c.args.tokens.now)) (c.args.room + 1) (search rules) (denied_around (Unread (Ended (Reads c.args.text.now) mark.CloseRound) c.in_ok-start.inner.now) (Unread (Reads c.args.text.now) (closing c.args.opening c.args.tokens.now)) c.in_err-body.field-0.0 c.args.room (c.args.room + 1) (omega arith) (λ m l e u q k us d. two_second (Ended (Reads c.args.text.now) mark.Semicolon) (Ended (Reads c.args.text.now) mark.CloseRound) _ _ _ _ _ m l _ e (one_ended (Reads c.args.text.now) mark.Semicolon (one_relation c.args.text.now)) (_, c.in_ok-start.ensures.found) u (closure_two _ _ _ _ _ _ _ _ _ _ c.requires.word c.in_ok-head.ensures.found d)) (c.in_err-body.ensures.denied))

pub parse_closure-returns-then-most-eq-MAX_HEIGHT-clause-denied : goal.parse_closure-returns-then-most-eq-MAX_HEIGHT-clause-denied
parse_closure-returns-then-most-eq-MAX_HEIGHT-clause-denied g t c =
    λ q k us d.
    let most : c.args.room + 1 ≤ max c.in_ok-start.height c.in_ok-body.other = omega arith in
    two_high (Ended (Reads c.args.text.now) mark.Semicolon) (Ended (Reads c.args.text.now) mark.CloseRound) _ _ _ _ _ _ _ _ (c.args.room + 1) _ (one_ended (Reads c.args.text.now) mark.Semicolon (one_relation c.args.text.now)) (one_ended (Reads c.args.text.now) mark.CloseRound (one_relation c.args.text.now)) (_, c.in_ok-start.ensures.found) (_, c.in_ok-body.ensures.found) most (closure_two _ _ _ _ _ _ _ _ _ _ c.requires.word c.in_ok-head.ensures.found d)

pub parse_closure-returns-clause-found : goal.parse_closure-returns-clause-found
parse_closure-returns-clause-found g t c =
    closure_at _ _ _ _ _ _ _ _ _ _ _ _ _ _ _ _ _ _ _ c.requires.word c.in_ok-head.ensures.found c.in_ok-head.ensures.name c.in_ok-start.ensures.found c.in_ok-body.ensures.found c.spanning-span.ensures c.iteration.ensures (ap (λ v. v + 1) c.max-most.ensures)

pub parse_join-returns-in_err-left-clause-denied : goal.parse_join-returns-in_err-left-clause-denied
parse_join-returns-in_err-left-clause-denied g t c =
    passed_on c.from_residual.result c.in_err-left.field-0.0 (Unread (Reads c.args.text.now) (opening form.Join c.args.opening.keyword c.args.opening.bracket c.args.tokens.now)) (c.args.room + 1) (search rules) (denied_around (Unread (Ended (Reads c.args.text.now) mark.Comma) c.args.tokens.now) (Unread (Reads c.args.text.now) (opening form.Join c.args.opening.keyword c.args.opening.bracket c.args.tokens.now)) c.in_err-left.field-0.0 c.args.room (c.args.room + 1) (omega arith) (λ m l e u q k us d. three_first (Ended (Reads c.args.text.now) mark.Comma) (Ended (Reads c.args.text.now) mark.Semicolon) (Ended (Listed PairAt) mark.CloseRound) _ _ m l _ e u (inside_join d)) (c.in_err-left.ensures.denied))

pub parse_join-returns-in_err-right-clause-denied : goal.parse_join-returns-in_err-right-clause-denied
parse_join-returns-in_err-right-clause-denied g t c =
    passed_on c.from_residual-in_err-right.result c.in_err-right.field-0.0 (Unread (Reads c.args.text.now) (opening form.Join c.args.opening.keyword c.args.opening.bracket c.args.tokens.now)) (c.args.room + 1) (search rules) (denied_around (Unread (Ended (Reads c.args.text.now) mark.Semicolon) c.in_ok-left.inner.now) (Unread (Reads c.args.text.now) (opening form.Join c.args.opening.keyword c.args.opening.bracket c.args.tokens.now)) c.in_err-right.field-0.0 c.args.room (c.args.room + 1) (omega arith) (λ m l e u q k us d. three_second (Ended (Reads c.args.text.now) mark.Comma) (Ended (Reads c.args.text.now) mark.Semicolon) (Ended (Listed PairAt) mark.CloseRound) _ _ _ _ _ m l _ e (one_ended (Reads c.args.text.now) mark.Comma (one_relation c.args.text.now)) (_, c.in_ok-left.ensures.found) u (inside_join d)) (c.in_err-right.ensures.denied))

pub parse_join-returns-in_err-pairs-clause-denied : goal.parse_join-returns-in_err-pairs-clause-denied
parse_join-returns-in_err-pairs-clause-denied g t c =
    passed_on c.from_residual-in_err-pairs.result c.in_err-pairs.field-0.0 (Unread (Reads c.args.text.now) (opening form.Join c.args.opening.keyword c.args.opening.bracket c.args.tokens.now)) (c.args.room + 1) (search rules) (denied_around (Unread (Ended (Listed PairAt) mark.CloseRound) c.in_ok-right.last.now) (Unread (Reads c.args.text.now) (opening form.Join c.args.opening.keyword c.args.opening.bracket c.args.tokens.now)) c.in_err-pairs.field-0.0 c.args.room (c.args.room + 1) (omega arith) (λ m l e u q k us d. three_third (Ended (Reads c.args.text.now) mark.Comma) (Ended (Reads c.args.text.now) mark.Semicolon) (Ended (Listed PairAt) mark.CloseRound) _ _ _ _ _ _ _ _ m l _ e (one_ended (Reads c.args.text.now) mark.Comma (one_relation c.args.text.now)) (one_ended (Reads c.args.text.now) mark.Semicolon (one_relation c.args.text.now)) (_, c.in_ok-left.ensures.found) (_, c.in_ok-right.ensures.found) u (inside_join d)) (c.in_err-pairs.ensures.denied c.args.room))

pub parse_join-returns-then-most-eq-MAX_HEIGHT-clause-denied : goal.parse_join-returns-then-most-eq-MAX_HEIGHT-clause-denied
parse_join-returns-then-most-eq-MAX_HEIGHT-clause-denied g t c =
    λ q k us d.
    let most : c.args.room + 1 ≤ max c.in_ok-left.height c.in_ok-right.other = omega arith in
    three_high (Ended (Reads c.args.text.now) mark.Comma) (Ended (Reads c.args.text.now) mark.Semicolon) (Ended (Listed PairAt) mark.CloseRound) _ _ _ _ _ _ _ _ (c.args.room + 1) _ (one_ended (Reads c.args.text.now) mark.Comma (one_relation c.args.text.now)) (one_ended (Reads c.args.text.now) mark.Semicolon (one_relation c.args.text.now)) (_, c.in_ok-left.ensures.found) (_, c.in_ok-right.ensures.found) most (inside_join d)

pub parse_join-returns-clause-found : goal.parse_join-returns-clause-found
parse_join-returns-clause-found g t c =
    let high : c.max-most.result + 1 ≡ max (max c.in_ok-left.height c.in_ok-right.other) 1 + 1 = omega (arith, c.max-most.ensures, c.in_ok-left.ensures.low.0) in
    join_at _ _ _ _ _ _ _ _ _ _ _ _ _ _ _ _ _ _ c.in_ok-left.ensures.found c.in_ok-right.ensures.found c.in_ok-pairs.ensures.found c.spanning-span.ensures refl high

pub parse_group-returns-in_err-relation-clause-denied : goal.parse_group-returns-in_err-relation-clause-denied
parse_group-returns-in_err-relation-clause-denied g t c =
    passed_on c.from_residual.result c.in_err-relation.field-0.0 (Unread (Reads c.args.text.now) (opening form.Group c.args.opening.keyword c.args.opening.bracket c.args.tokens.now)) (c.args.room + 1) (search rules) (denied_around (Unread (Ended (Reads c.args.text.now) mark.Semicolon) c.args.tokens.now) (Unread (Reads c.args.text.now) (opening form.Group c.args.opening.keyword c.args.opening.bracket c.args.tokens.now)) c.in_err-relation.field-0.0 c.args.room (c.args.room + 1) (omega arith) (λ m l e u q k us d. three_first (Ended (Reads c.args.text.now) mark.Semicolon) (Ended (Listed ColumnAt) mark.Semicolon) (Ended (Listed AggAt) mark.CloseRound) _ _ m l _ e u (inside_group d)) (c.in_err-relation.ensures.denied))

pub parse_group-returns-in_err-keys-clause-denied : goal.parse_group-returns-in_err-keys-clause-denied
parse_group-returns-in_err-keys-clause-denied g t c =
    passed_on c.from_residual-in_err-keys.result c.in_err-keys.field-0.0 (Unread (Reads c.args.text.now) (opening form.Group c.args.opening.keyword c.args.opening.bracket c.args.tokens.now)) (c.args.room + 1) (search rules) (denied_around (Unread (Ended (Listed ColumnAt) mark.Semicolon) c.in_ok-relation.inner.now) (Unread (Reads c.args.text.now) (opening form.Group c.args.opening.keyword c.args.opening.bracket c.args.tokens.now)) c.in_err-keys.field-0.0 c.args.room (c.args.room + 1) (omega arith) (λ m l e u q k us d. three_second (Ended (Reads c.args.text.now) mark.Semicolon) (Ended (Listed ColumnAt) mark.Semicolon) (Ended (Listed AggAt) mark.CloseRound) _ _ _ _ _ m l _ e (one_ended (Reads c.args.text.now) mark.Semicolon (one_relation c.args.text.now)) (_, c.in_ok-relation.ensures.found) u (inside_group d)) (c.in_err-keys.ensures.denied c.args.room))

pub parse_group-returns-in_err-aggs-clause-denied : goal.parse_group-returns-in_err-aggs-clause-denied
parse_group-returns-in_err-aggs-clause-denied g t c =
    passed_on c.from_residual-in_err-aggs.result c.in_err-aggs.field-0.0 (Unread (Reads c.args.text.now) (opening form.Group c.args.opening.keyword c.args.opening.bracket c.args.tokens.now)) (c.args.room + 1) (search rules) (denied_around (Unread (Ended (Listed AggAt) mark.CloseRound) c.in_ok-keys.last.now) (Unread (Reads c.args.text.now) (opening form.Group c.args.opening.keyword c.args.opening.bracket c.args.tokens.now)) c.in_err-aggs.field-0.0 c.args.room (c.args.room + 1) (omega arith) (λ m l e u q k us d. three_third (Ended (Reads c.args.text.now) mark.Semicolon) (Ended (Listed ColumnAt) mark.Semicolon) (Ended (Listed AggAt) mark.CloseRound) _ _ _ _ _ _ _ _ m l _ e (one_ended (Reads c.args.text.now) mark.Semicolon (one_relation c.args.text.now)) (one_ended (Listed ColumnAt) mark.Semicolon (one_list ColumnAt one_column)) (_, c.in_ok-relation.ensures.found) (_, c.in_ok-keys.ensures.found) u (inside_group d)) (c.in_err-aggs.ensures.denied c.args.room))

pub parse_group-returns-then-height-eq-MAX_HEIGHT-clause-denied : goal.parse_group-returns-then-height-eq-MAX_HEIGHT-clause-denied
parse_group-returns-then-height-eq-MAX_HEIGHT-clause-denied g t c =
    λ q k us d.
    let most : c.args.room + 1 ≤ max c.in_ok-relation.height 1 = omega arith in
    three_high (Ended (Reads c.args.text.now) mark.Semicolon) (Ended (Listed ColumnAt) mark.Semicolon) (Ended (Listed AggAt) mark.CloseRound) _ _ _ _ _ _ _ _ (c.args.room + 1) _ (one_ended (Reads c.args.text.now) mark.Semicolon (one_relation c.args.text.now)) (one_ended (Listed ColumnAt) mark.Semicolon (one_list ColumnAt one_column)) (_, c.in_ok-relation.ensures.found) (_, c.in_ok-keys.ensures.found) most (inside_group d)

pub parse_group-returns-clause-found : goal.parse_group-returns-clause-found
parse_group-returns-clause-found g t c =
    let high : c.in_ok-relation.height + 1 ≡ max (max c.in_ok-relation.height 1) 1 + 1 = omega (arith, c.in_ok-relation.ensures.low.0) in
    group_at _ _ _ _ _ _ _ _ _ _ _ _ _ _ _ _ _ c.in_ok-relation.ensures.found c.in_ok-keys.ensures.found c.in_ok-aggs.ensures.found c.spanning-span.ensures refl high

pub parse_distinct-returns-in_err-relation-clause-denied : goal.parse_distinct-returns-in_err-relation-clause-denied
parse_distinct-returns-in_err-relation-clause-denied g t c =
    passed_on c.from_residual.result c.in_err-relation.field-0.0 (Unread (Reads c.args.text.now) (opening form.Distinct c.args.opening.keyword c.args.opening.bracket c.args.tokens.now)) (c.args.room + 1) (search rules) (denied_around (Unread (Ended (Reads c.args.text.now) mark.CloseRound) c.args.tokens.now) (Unread (Reads c.args.text.now) (opening form.Distinct c.args.opening.keyword c.args.opening.bracket c.args.tokens.now)) c.in_err-relation.field-0.0 c.args.room (c.args.room + 1) (omega arith) (λ m l e u q k us d. once_first _ _ _ m l _ e u (inside_distinct d)) (c.in_err-relation.ensures.denied))

pub parse_distinct-returns-then-height-eq-MAX_HEIGHT-clause-denied : goal.parse_distinct-returns-then-height-eq-MAX_HEIGHT-clause-denied
parse_distinct-returns-then-height-eq-MAX_HEIGHT-clause-denied g t c =
    λ q k us d.
    let most : c.args.room + 1 ≤ c.in_ok-relation.height = omega arith in
    once_high _ _ _ _ _ _ (c.args.room + 1) _ (one_ended (Reads c.args.text.now) mark.CloseRound (one_relation c.args.text.now)) (_, c.in_ok-relation.ensures.found) most (inside_distinct d)

pub parse_distinct-returns-clause-found : goal.parse_distinct-returns-clause-found
parse_distinct-returns-clause-found g t c =
    distinct_at _ _ _ _ _ _ _ _ _ _ _ c.in_ok-relation.ensures.found c.spanning-span.ensures refl refl
