use Rattle.std.proofs.Common.{rules, ◌≡◌, sym, ap, ◌∙◌}
use Rattle.semantics.specs.Query.{Rel}
use Rattle.expr_tree.specs.Plain.{plain_rel, plain_cond}
use Rattle.expr_tree.specs.Views.{rel_tree, cond_tree}
use Rattle.normalise.proofs.Rewriting.{rewritten_wheres, rewritten_where}
use Rattle.semantics.specs.Normal.{IsFilter}
use Rattle.normalise.proofs.relation.where_of.Goals as goal

pub returns-in_ok-both-in-Where : goal.returns-in_ok-both-in-Where
returns-in_ok-both-in-Where g c =
    let e : plain_rel (rel_tree c.args.of.value) ≡ Rel.filter (plain_rel (rel_tree c.in-Where.inner.value)) (plain_cond (cond_tree c.in-Where.first)) = ap (λ v. plain_rel (rel_tree v)) (sym (c.take.ensures.moved ∙ c.deref_mut.ensures.value) ∙ c.in-Where.ensures) in
    rewritten_wheres _ _ (plain_cond (cond_tree c.in-Where.first)) (plain_cond (cond_tree c.args.condition)) _ e (ap plain_cond c.in_ok-both-in-Where.ensures) c.requires.reduced c.requires.normal

pub returns-in_default : goal.returns-in_default
returns-in_default g c =
    let e : plain_rel (rel_tree c.args.of.value) ≡ plain_rel (rel_tree c.whole.result) = ap (λ v. plain_rel (rel_tree v)) (sym (c.take.ensures.moved ∙ c.deref_mut.ensures.value) ∙ c.into_parts.ensures ∙ sym c.whole.ensures) in
    let not : IsFilter (plain_rel (rel_tree c.whole.result)) → ⊥ = rw c.whole.ensures (search rules) in
    rw e (rewritten_where (plain_rel (rel_tree c.whole.result)) (plain_cond (cond_tree c.args.condition)) not (rw e at c.requires.reduced) c.requires.normal)
