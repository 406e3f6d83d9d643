use Rattle.std.specs.Prelude.{IfOk}
use Rattle.std.proofs.Common.{ℕ, map, subst, sym, ap, ◌∙◌}
use Rattle.expr_tree.specs.Plain.{plain_cond, plain_agg}
use Rattle.expr_tree.specs.Views.{cond_tree}
use Rattle.graph.specs.Views.{kind_of}
use Rattle.semantics.specs.Kinds as semantics
use Rattle.semantics.specs.PortArity.{PortsFit}
use Rattle.vertices.specs.Shards.{IsFreshShard, by_port}
use Rattle.events.proofs.station.new_shard.Goals as goal

pub returns-in-Select-clause-fresh : goal.returns-in-Select-clause-fresh
returns-in-Select-clause-fresh c =
    subst (λ k. IfOk c.select_shard.result (λ s. IsFreshShard k c.args.first c.args.second s)) (ap kind_of (sym c.in-Select.is)) (c.select_shard.ensures.fresh c.args.second)

pub returns-in-Where-clause-fresh : goal.returns-in-Where-clause-fresh
returns-in-Where-clause-fresh c =
    subst (λ k. IfOk c.where_shard.result (λ s. IsFreshShard k c.args.first c.args.second s)) (ap (λ d. semantics.Kind.filter (plain_cond (cond_tree d))) c.deref.ensures ∙ ap kind_of (sym c.in-Where.is))
    (c.where_shard.ensures.fresh c.args.second)

pub returns-in-Group-clause-fresh : goal.returns-in-Group-clause-fresh
returns-in-Group-clause-fresh c =
    subst (λ k. IfOk c.group_shard.result (λ s. IsFreshShard k c.args.first c.args.second s))
    ((λ j. semantics.Kind.group (map (λ k. k.index) (c.deref-in-Group.ensures.value j)) (map plain_agg (c.deref-in-Group-2.ensures.value j))) ∙ ap kind_of (sym c.in-Group.is))
    (c.group_shard.ensures.fresh c.args.second)

-- both ports of an except and of an intersect have one arity
pub returns-in-Except-clause-fresh : goal.returns-in-Except-clause-fresh
returns-in-Except-clause-fresh c =
    let fit = subst (λ (k : semantics.Kind). PortsFit k (by_port c.args.first c.args.second) c.requires.fits.0) (ap kind_of c.in-Except.is) c.requires.fits.1 in
    subst (λ (n : ℕ). IfOk c.except_shard.result (λ s. IsFreshShard (kind_of c.args.vertex.now.kind) c.args.first n s)) (sym fit.0 ∙ fit.1)
    (subst (λ k. IfOk c.except_shard.result (λ s. IsFreshShard k c.args.first c.args.first s)) (ap kind_of (sym c.in-Except.is)) c.except_shard.ensures.fresh)

pub returns-in-Intersect-clause-fresh : goal.returns-in-Intersect-clause-fresh
returns-in-Intersect-clause-fresh c =
    let fit = subst (λ (k : semantics.Kind). PortsFit k (by_port c.args.first c.args.second) c.requires.fits.0) (ap kind_of c.in-Intersect.is) c.requires.fits.1 in
    subst (λ (n : ℕ). IfOk c.intersect_shard.result (λ s. IsFreshShard (kind_of c.args.vertex.now.kind) c.args.first n s)) (sym fit.0 ∙ fit.1)
    (subst (λ k. IfOk c.intersect_shard.result (λ s. IsFreshShard k c.args.first c.args.first s)) (ap kind_of (sym c.in-Intersect.is)) c.intersect_shard.ensures.fresh)

pub returns-in-Distinct-clause-fresh : goal.returns-in-Distinct-clause-fresh
returns-in-Distinct-clause-fresh c =
    subst (λ k. IfOk c.distinct_shard.result (λ s. IsFreshShard k c.args.first c.args.second s)) (ap kind_of (sym c.in-Distinct.is)) (c.distinct_shard.ensures.fresh c.args.second)

pub returns-in-Unseen-clause-fresh : goal.returns-in-Unseen-clause-fresh
returns-in-Unseen-clause-fresh c =
    subst (λ k. IfOk c.unseen_shard.result (λ s. IsFreshShard k c.args.first c.args.second s)) (ap kind_of (sym c.in-Unseen.is)) (c.unseen_shard.ensures.fresh c.args.second)
