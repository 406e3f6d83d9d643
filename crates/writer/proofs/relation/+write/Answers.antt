use Rattle.std.proofs.Common.{append_assoc}
use Rattle.std.proofs.lemmas.Grind.{flat_map-append}
use Rattle.writer.proofs.Texts.{extends_from, refused}
use Rattle.writer.proofs.Steps.{on_ok, refused_last}
use Rattle.writer.proofs.relation.+write.Goals as goal

pub write_select-returns-in_err-push-clause-err : goal.write_select-returns-in_err-push-clause-err
write_select-returns-in_err-push-clause-err g t c = refused c.from_residual.result _ c.in_err-push.ensures.err

pub write_select-returns-in_err-write_rel-clause-err : goal.write_select-returns-in_err-write_rel-clause-err
write_select-returns-in_err-write_rel-clause-err g t c = refused c.from_residual-in_err-write_rel.result _ (extends_from _ _ _ _ c.in_ok-push.ensures.ok c.in_err-write_rel.ensures.err)

pub write_select-returns-in_err-push-2-clause-err : goal.write_select-returns-in_err-push-2-clause-err
write_select-returns-in_err-push-2-clause-err g t c = refused c.from_residual-in_err-push-2.result _ (extends_from _ _ _ _ c.in_ok-push.ensures.ok (extends_from _ _ _ _ c.in_ok-write_rel.ensures.ok c.in_err-push-2.ensures.err))

pub write_select-returns-in_err-write_scalars-clause-err : goal.write_select-returns-in_err-write_scalars-clause-err
write_select-returns-in_err-write_scalars-clause-err g t c = refused c.from_residual-in_err-write_scalars.result _ (extends_from _ _ _ _ c.in_ok-push.ensures.ok (extends_from _ _ _ _ c.in_ok-write_rel.ensures.ok (extends_from _ _ _ _ c.in_ok-push-2.ensures.ok c.in_err-write_scalars.ensures.err)))

pub write_select-returns-clause-err : goal.write_select-returns-clause-err
write_select-returns-clause-err g t c = (refused_last c.push-3.result _ _ _ _ c.in_ok-push.ensures.ok (refused_last c.push-3.result _ _ _ _ c.in_ok-write_rel.ensures.ok (refused_last c.push-3.result _ _ _ _ c.in_ok-push-2.ensures.ok (refused_last c.push-3.result _ _ _ _ c.in_ok-write_scalars.ensures.ok c.push-3.ensures.err))))

pub write_select-returns-clause-ok : goal.write_select-returns-clause-ok
write_select-returns-clause-ok g t c = on_ok c.push-3.result _ _ c.push-3.ensures.ok (λ e. rw (e, c.in_ok-write_scalars.ensures.ok, c.in_ok-push-2.ensures.ok, c.in_ok-write_rel.ensures.ok, c.in_ok-push.ensures.ok) (simp (append_assoc, flat_map-append)))

pub write_filter-returns-in_err-push-clause-err : goal.write_filter-returns-in_err-push-clause-err
write_filter-returns-in_err-push-clause-err g t c = refused c.from_residual.result _ c.in_err-push.ensures.err

pub write_filter-returns-in_err-write_rel-clause-err : goal.write_filter-returns-in_err-write_rel-clause-err
write_filter-returns-in_err-write_rel-clause-err g t c = refused c.from_residual-in_err-write_rel.result _ (extends_from _ _ _ _ c.in_ok-push.ensures.ok c.in_err-write_rel.ensures.err)

pub write_filter-returns-in_err-push-2-clause-err : goal.write_filter-returns-in_err-push-2-clause-err
write_filter-returns-in_err-push-2-clause-err g t c = refused c.from_residual-in_err-push-2.result _ (extends_from _ _ _ _ c.in_ok-push.ensures.ok (extends_from _ _ _ _ c.in_ok-write_rel.ensures.ok c.in_err-push-2.ensures.err))

pub write_filter-returns-in_err-write_cond-clause-err : goal.write_filter-returns-in_err-write_cond-clause-err
write_filter-returns-in_err-write_cond-clause-err g t c = refused c.from_residual-in_err-write_cond.result _ (extends_from _ _ _ _ c.in_ok-push.ensures.ok (extends_from _ _ _ _ c.in_ok-write_rel.ensures.ok (extends_from _ _ _ _ c.in_ok-push-2.ensures.ok c.in_err-write_cond.ensures.err)))

pub write_filter-returns-clause-err : goal.write_filter-returns-clause-err
write_filter-returns-clause-err g t c = (refused_last c.push-3.result _ _ _ _ c.in_ok-push.ensures.ok (refused_last c.push-3.result _ _ _ _ c.in_ok-write_rel.ensures.ok (refused_last c.push-3.result _ _ _ _ c.in_ok-push-2.ensures.ok (refused_last c.push-3.result _ _ _ _ c.in_ok-write_cond.ensures.ok c.push-3.ensures.err))))

pub write_filter-returns-clause-ok : goal.write_filter-returns-clause-ok
write_filter-returns-clause-ok g t c = on_ok c.push-3.result _ _ c.push-3.ensures.ok (λ e. rw (e, c.in_ok-write_cond.ensures.ok, c.in_ok-push-2.ensures.ok, c.in_ok-write_rel.ensures.ok, c.in_ok-push.ensures.ok) (simp (append_assoc, flat_map-append)))

pub write_set_operation-returns-in_err-write_operator-clause-err : goal.write_set_operation-returns-in_err-write_operator-clause-err
write_set_operation-returns-in_err-write_operator-clause-err g t c = refused c.from_residual.result _ c.in_err-write_operator.ensures.err

pub write_set_operation-returns-in_err-write_rel-clause-err : goal.write_set_operation-returns-in_err-write_rel-clause-err
write_set_operation-returns-in_err-write_rel-clause-err g t c = refused c.from_residual-in_err-write_rel.result _ (extends_from _ _ _ _ c.in_ok-write_operator.ensures.ok c.in_err-write_rel.ensures.err)

pub write_set_operation-returns-in_err-push-clause-err : goal.write_set_operation-returns-in_err-push-clause-err
write_set_operation-returns-in_err-push-clause-err g t c = refused c.from_residual-in_err-push.result _ (extends_from _ _ _ _ c.in_ok-write_operator.ensures.ok (extends_from _ _ _ _ c.in_ok-write_rel.ensures.ok c.in_err-push.ensures.err))

pub write_set_operation-returns-in_err-write_rel-2-clause-err : goal.write_set_operation-returns-in_err-write_rel-2-clause-err
write_set_operation-returns-in_err-write_rel-2-clause-err g t c = refused c.from_residual-in_err-write_rel-2.result _ (extends_from _ _ _ _ c.in_ok-write_operator.ensures.ok (extends_from _ _ _ _ c.in_ok-write_rel.ensures.ok (extends_from _ _ _ _ c.in_ok-push.ensures.ok c.in_err-write_rel-2.ensures.err)))

pub write_set_operation-returns-clause-err : goal.write_set_operation-returns-clause-err
write_set_operation-returns-clause-err g t c = (refused_last c.push-2.result _ _ _ _ c.in_ok-write_operator.ensures.ok (refused_last c.push-2.result _ _ _ _ c.in_ok-write_rel.ensures.ok (refused_last c.push-2.result _ _ _ _ c.in_ok-push.ensures.ok (refused_last c.push-2.result _ _ _ _ c.in_ok-write_rel-2.ensures.ok c.push-2.ensures.err))))

pub write_set_operation-returns-clause-ok : goal.write_set_operation-returns-clause-ok
write_set_operation-returns-clause-ok g t c = on_ok c.push-2.result _ _ c.push-2.ensures.ok (λ e. rw (e, c.in_ok-write_rel-2.ensures.ok, c.in_ok-push.ensures.ok, c.in_ok-write_rel.ensures.ok, c.in_ok-write_operator.ensures.ok) (simp (append_assoc, flat_map-append)))

pub write_join-returns-in_err-push-clause-err : goal.write_join-returns-in_err-push-clause-err
write_join-returns-in_err-push-clause-err g t c = refused c.from_residual.result _ c.in_err-push.ensures.err

pub write_join-returns-in_err-write_rel-clause-err : goal.write_join-returns-in_err-write_rel-clause-err
write_join-returns-in_err-write_rel-clause-err g t c = refused c.from_residual-in_err-write_rel.result _ (extends_from _ _ _ _ c.in_ok-push.ensures.ok c.in_err-write_rel.ensures.err)

pub write_join-returns-in_err-push-2-clause-err : goal.write_join-returns-in_err-push-2-clause-err
write_join-returns-in_err-push-2-clause-err g t c = refused c.from_residual-in_err-push-2.result _ (extends_from _ _ _ _ c.in_ok-push.ensures.ok (extends_from _ _ _ _ c.in_ok-write_rel.ensures.ok c.in_err-push-2.ensures.err))

pub write_join-returns-in_err-write_rel-2-clause-err : goal.write_join-returns-in_err-write_rel-2-clause-err
write_join-returns-in_err-write_rel-2-clause-err g t c = refused c.from_residual-in_err-write_rel-2.result _ (extends_from _ _ _ _ c.in_ok-push.ensures.ok (extends_from _ _ _ _ c.in_ok-write_rel.ensures.ok (extends_from _ _ _ _ c.in_ok-push-2.ensures.ok c.in_err-write_rel-2.ensures.err)))

pub write_join-returns-in_err-push-3-clause-err : goal.write_join-returns-in_err-push-3-clause-err
write_join-returns-in_err-push-3-clause-err g t c = refused c.from_residual-in_err-push-3.result _ (extends_from _ _ _ _ c.in_ok-push.ensures.ok (extends_from _ _ _ _ c.in_ok-write_rel.ensures.ok (extends_from _ _ _ _ c.in_ok-push-2.ensures.ok (extends_from _ _ _ _ c.in_ok-write_rel-2.ensures.ok c.in_err-push-3.ensures.err))))

pub write_join-returns-in_err-write_pairs-clause-err : goal.write_join-returns-in_err-write_pairs-clause-err
write_join-returns-in_err-write_pairs-clause-err g t c = refused c.from_residual-in_err-write_pairs.result _ (extends_from _ _ _ _ c.in_ok-push.ensures.ok (extends_from _ _ _ _ c.in_ok-write_rel.ensures.ok (extends_from _ _ _ _ c.in_ok-push-2.ensures.ok (extends_from _ _ _ _ c.in_ok-write_rel-2.ensures.ok (extends_from _ _ _ _ c.in_ok-push-3.ensures.ok c.in_err-write_pairs.ensures.err)))))

pub write_join-returns-clause-err : goal.write_join-returns-clause-err
write_join-returns-clause-err g t c = (refused_last c.push-4.result _ _ _ _ c.in_ok-push.ensures.ok (refused_last c.push-4.result _ _ _ _ c.in_ok-write_rel.ensures.ok (refused_last c.push-4.result _ _ _ _ c.in_ok-push-2.ensures.ok (refused_last c.push-4.result _ _ _ _ c.in_ok-write_rel-2.ensures.ok (refused_last c.push-4.result _ _ _ _ c.in_ok-push-3.ensures.ok (refused_last c.push-4.result _ _ _ _ c.in_ok-write_pairs.ensures.ok c.push-4.ensures.err))))))

pub write_join-returns-clause-ok : goal.write_join-returns-clause-ok
write_join-returns-clause-ok g t c = on_ok c.push-4.result _ _ c.push-4.ensures.ok (λ e. rw (e, c.in_ok-write_pairs.ensures.ok, c.in_ok-push-3.ensures.ok, c.in_ok-write_rel-2.ensures.ok, c.in_ok-push-2.ensures.ok, c.in_ok-write_rel.ensures.ok, c.in_ok-push.ensures.ok) (simp (append_assoc, flat_map-append)))

pub write_group-returns-in_err-push-clause-err : goal.write_group-returns-in_err-push-clause-err
write_group-returns-in_err-push-clause-err g t c = refused c.from_residual.result _ c.in_err-push.ensures.err

pub write_group-returns-in_err-write_rel-clause-err : goal.write_group-returns-in_err-write_rel-clause-err
write_group-returns-in_err-write_rel-clause-err g t c = refused c.from_residual-in_err-write_rel.result _ (extends_from _ _ _ _ c.in_ok-push.ensures.ok c.in_err-write_rel.ensures.err)

pub write_group-returns-in_err-push-2-clause-err : goal.write_group-returns-in_err-push-2-clause-err
write_group-returns-in_err-push-2-clause-err g t c = refused c.from_residual-in_err-push-2.result _ (extends_from _ _ _ _ c.in_ok-push.ensures.ok (extends_from _ _ _ _ c.in_ok-write_rel.ensures.ok c.in_err-push-2.ensures.err))

pub write_group-returns-in_err-write_columns-clause-err : goal.write_group-returns-in_err-write_columns-clause-err
write_group-returns-in_err-write_columns-clause-err g t c = refused c.from_residual-in_err-write_columns.result _ (extends_from _ _ _ _ c.in_ok-push.ensures.ok (extends_from _ _ _ _ c.in_ok-write_rel.ensures.ok (extends_from _ _ _ _ c.in_ok-push-2.ensures.ok c.in_err-write_columns.ensures.err)))

pub write_group-returns-in_err-push-3-clause-err : goal.write_group-returns-in_err-push-3-clause-err
write_group-returns-in_err-push-3-clause-err g t c = refused c.from_residual-in_err-push-3.result _ (extends_from _ _ _ _ c.in_ok-push.ensures.ok (extends_from _ _ _ _ c.in_ok-write_rel.ensures.ok (extends_from _ _ _ _ c.in_ok-push-2.ensures.ok (extends_from _ _ _ _ c.in_ok-write_columns.ensures.ok c.in_err-push-3.ensures.err))))

pub write_group-returns-in_err-write_aggs-clause-err : goal.write_group-returns-in_err-write_aggs-clause-err
write_group-returns-in_err-write_aggs-clause-err g t c = refused c.from_residual-in_err-write_aggs.result _ (extends_from _ _ _ _ c.in_ok-push.ensures.ok (extends_from _ _ _ _ c.in_ok-write_rel.ensures.ok (extends_from _ _ _ _ c.in_ok-push-2.ensures.ok (extends_from _ _ _ _ c.in_ok-write_columns.ensures.ok (extends_from _ _ _ _ c.in_ok-push-3.ensures.ok c.in_err-write_aggs.ensures.err)))))

pub write_group-returns-clause-err : goal.write_group-returns-clause-err
write_group-returns-clause-err g t c = (refused_last c.push-4.result _ _ _ _ c.in_ok-push.ensures.ok (refused_last c.push-4.result _ _ _ _ c.in_ok-write_rel.ensures.ok (refused_last c.push-4.result _ _ _ _ c.in_ok-push-2.ensures.ok (refused_last c.push-4.result _ _ _ _ c.in_ok-write_columns.ensures.ok (refused_last c.push-4.result _ _ _ _ c.in_ok-push-3.ensures.ok (refused_last c.push-4.result _ _ _ _ c.in_ok-write_aggs.ensures.ok c.push-4.ensures.err))))))

pub write_group-returns-clause-ok : goal.write_group-returns-clause-ok
write_group-returns-clause-ok g t c = on_ok c.push-4.result _ _ c.push-4.ensures.ok (λ e. rw (e, c.in_ok-write_aggs.ensures.ok, c.in_ok-push-3.ensures.ok, c.in_ok-write_columns.ensures.ok, c.in_ok-push-2.ensures.ok, c.in_ok-write_rel.ensures.ok, c.in_ok-push.ensures.ok) (simp (append_assoc, flat_map-append)))

pub write_distinct-returns-in_err-push-clause-err : goal.write_distinct-returns-in_err-push-clause-err
write_distinct-returns-in_err-push-clause-err g t c = refused c.from_residual.result _ c.in_err-push.ensures.err

pub write_distinct-returns-in_err-write_rel-clause-err : goal.write_distinct-returns-in_err-write_rel-clause-err
write_distinct-returns-in_err-write_rel-clause-err g t c = refused c.from_residual-in_err-write_rel.result _ (extends_from _ _ _ _ c.in_ok-push.ensures.ok c.in_err-write_rel.ensures.err)

pub write_distinct-returns-clause-err : goal.write_distinct-returns-clause-err
write_distinct-returns-clause-err g t c = (refused_last c.push-2.result _ _ _ _ c.in_ok-push.ensures.ok (refused_last c.push-2.result _ _ _ _ c.in_ok-write_rel.ensures.ok c.push-2.ensures.err))

pub write_distinct-returns-clause-ok : goal.write_distinct-returns-clause-ok
write_distinct-returns-clause-ok g t c = on_ok c.push-2.result _ _ c.push-2.ensures.ok (λ e. rw (e, c.in_ok-write_rel.ensures.ok, c.in_ok-push.ensures.ok) (simp (append_assoc, flat_map-append)))

pub write_loop-returns-in_err-write_head-clause-err : goal.write_loop-returns-in_err-write_head-clause-err
write_loop-returns-in_err-write_head-clause-err g t c = refused c.from_residual.result _ c.in_err-write_head.ensures.err

pub write_loop-returns-in_err-write_rel-clause-err : goal.write_loop-returns-in_err-write_rel-clause-err
write_loop-returns-in_err-write_rel-clause-err g t c = refused c.from_residual-in_err-write_rel.result _ (extends_from _ _ _ _ c.in_ok-write_head.ensures.ok c.in_err-write_rel.ensures.err)

pub write_loop-returns-in_err-push-clause-err : goal.write_loop-returns-in_err-push-clause-err
write_loop-returns-in_err-push-clause-err g t c = refused c.from_residual-in_err-push.result _ (extends_from _ _ _ _ c.in_ok-write_head.ensures.ok (extends_from _ _ _ _ c.in_ok-write_rel.ensures.ok c.in_err-push.ensures.err))

pub write_loop-returns-in_err-write_rel-2-clause-err : goal.write_loop-returns-in_err-write_rel-2-clause-err
write_loop-returns-in_err-write_rel-2-clause-err g t c = refused c.from_residual-in_err-write_rel-2.result _ (extends_from _ _ _ _ c.in_ok-write_head.ensures.ok (extends_from _ _ _ _ c.in_ok-write_rel.ensures.ok (extends_from _ _ _ _ c.in_ok-push.ensures.ok c.in_err-write_rel-2.ensures.err)))

pub write_loop-returns-clause-err : goal.write_loop-returns-clause-err
write_loop-returns-clause-err g t c = (refused_last c.push-2.result _ _ _ _ c.in_ok-write_head.ensures.ok (refused_last c.push-2.result _ _ _ _ c.in_ok-write_rel.ensures.ok (refused_last c.push-2.result _ _ _ _ c.in_ok-push.ensures.ok (refused_last c.push-2.result _ _ _ _ c.in_ok-write_rel-2.ensures.ok c.push-2.ensures.err))))

pub write_loop-returns-clause-ok : goal.write_loop-returns-clause-ok
write_loop-returns-clause-ok g t c = on_ok c.push-2.result _ _ c.push-2.ensures.ok (λ e. rw (e, c.in_ok-write_rel-2.ensures.ok, c.in_ok-push.ensures.ok, c.in_ok-write_rel.ensures.ok, c.in_ok-write_head.ensures.ok) (simp (append_assoc, flat_map-append)))
