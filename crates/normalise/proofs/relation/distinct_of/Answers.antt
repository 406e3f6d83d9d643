use Rattle.expr_tree.specs.Plain.{plain_rel}
use Rattle.expr_tree.specs.Views.{rel_tree}
use Rattle.normalise.proofs.Rewriting.{rewritten_set, rewritten_distinct}
use Rattle.normalise.proofs.relation.distinct_of.Goals as goal

pub returns-then-is_set : goal.returns-then-is_set
returns-then-is_set g c =
    rw c.into_inner.ensures (rewritten_set (plain_rel (rel_tree c.args.of.value)) (rw c.deref.ensures at (c.is_set.ensures.yes c.if-is_set.true)) c.requires)

pub returns-else-is_set : goal.returns-else-is_set
returns-else-is_set g c = rewritten_distinct (plain_rel (rel_tree c.args.of.value)) (rw c.deref.ensures at (c.is_set.ensures.no c.if-is_set.false)) c.requires
