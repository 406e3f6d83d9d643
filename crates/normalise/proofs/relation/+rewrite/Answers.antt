use Rattle.std.proofs.Common.{sym, ◌∙◌}
use Rattle.std.proofs.lemmas.Bool.{true≢false}
use Rattle.expr_tree.specs.Plain.{plain_form}
use Rattle.normalise.proofs.Folding.{normal-folded}
use Rattle.normalise.proofs.Rewriting.{ok_then, reached_itself, rewritten_then, reached_select, reached_filter, rewritten_set_operation, reached_join, reached_group, reached_distinct, rewritten_no_turns, rewritten_loop}
use Rattle.normalise.proofs.relation.+rewrite.Goals as goal

pub rewritten-returns-in_ok-of-in-Select : goal.rewritten-returns-in_ok-of-in-Select
rewritten-returns-in_ok-of-in-Select g t c =
    let of = c.in_ok-of-in-Select.ensures in
    rw (c.into_parts.ensures, c.in-Select.is) (rewritten_then _ _ _ (c.select_of.ensures of.reduced (normal-folded _ _ c.fold_all.ensures)) (reached_select _ _ _ _ of.reached c.fold_all.ensures))

pub rewritten-returns-in_ok-of-in-Where : goal.rewritten-returns-in_ok-of-in-Where
rewritten-returns-in_ok-of-in-Where g t c =
    let of = c.in_ok-of-in-Where.ensures in
    rw (c.into_parts.ensures, c.in-Where.is) (ok_then c.where_of.result _ _ (λ made h. rewritten_then _ _ _ h (reached_filter _ _ _ _ of.reached c.folded_cond-condition.ensures)) c.where_of.ensures)

pub rewritten-returns-in_ok-right-in-SetOperation : goal.rewritten-returns-in_ok-right-in-SetOperation
rewritten-returns-in_ok-right-in-SetOperation g t c = rw (c.into_parts.ensures, c.in-SetOperation.is) (rewritten_set_operation c.in-SetOperation.operator _ _ _ _ c.in_ok-left-in-SetOperation.ensures c.in_ok-right-in-SetOperation.ensures)

pub rewritten-returns-in_ok-right-in-Join : goal.rewritten-returns-in_ok-right-in-Join
rewritten-returns-in_ok-right-in-Join g t c =
    let left = c.in_ok-left-in-Join.ensures in
    let right = c.in_ok-right-in-Join.ensures in
    rw (c.into_parts.ensures, c.in-Join.is) (record { reached = reached_join _ _ _ _ _ left.reached right.reached; reduced = (left.reduced, right.reduced) })

pub rewritten-returns-in_ok-of-in-Group : goal.rewritten-returns-in_ok-of-in-Group
rewritten-returns-in_ok-of-in-Group g t c =
    let of = c.in_ok-of-in-Group.ensures in
    rw (c.into_parts.ensures, c.in-Group.is) (record { reached = reached_group _ _ _ _ of.reached; reduced = of.reduced })

pub rewritten-returns-in_ok-rewritten_in_box-in-Distinct : goal.rewritten-returns-in_ok-rewritten_in_box-in-Distinct
rewritten-returns-in_ok-rewritten_in_box-in-Distinct g t c =
    let of = c.in_ok-rewritten_in_box-in-Distinct.ensures in
    rw (c.into_parts.ensures, c.in-Distinct.is) (rewritten_then _ _ _ c.distinct_of.ensures (reached_distinct _ _ of.reached))

pub rewritten_loop-returns-then-is_start : goal.rewritten_loop-returns-then-is_start
rewritten_loop-returns-then-is_start g t c =
    let start = c.in_ok-start.ensures in
    rw c.into_inner.ensures (rewritten_no_turns (plain_form c.args.head.form) c.args.head.turns c.args.head.name _ _ _ (c.is_start.ensures.0 c.if-is_start.true).0 (c.is_start.ensures.0 c.if-is_start.true).1 start)

pub rewritten_loop-returns : goal.rewritten_loop-returns
rewritten_loop-returns g t c =
    let start = c.in_ok-start.ensures in
    let body = c.in_ok-body.ensures in
    rewritten_loop (plain_form c.args.head.form) c.args.head.turns c.args.head.name _ _ _ _ (λ e k. true≢false (sym (c.is_start.ensures.1 (e, k)) ∙ c.if-is_start.false)) start body

pub rewritten-returns-in-Named : goal.rewritten-returns-in-Named
rewritten-returns-in-Named g t c = rw (c.into_parts.ensures, c.in-Named.is) (record { reached = reached_itself _; reduced = tt })
