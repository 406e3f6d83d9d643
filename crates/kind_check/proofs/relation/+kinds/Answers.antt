use Rattle.std.proofs.Common.{◌∷◌, sym, ◌∙◌}
use Rattle.expr_tree.specs.Plain.{plain_rel}
use Rattle.expr_tree.specs.Views.{rel_tree}
use Rattle.kinds.specs.Relations as relations
use Rattle.kind_check.specs.Scopes.{scope_of}
use Rattle.kind_check.proofs.Loops.{kept_at_once}
use Rattle.kind_check.proofs.relation.+kinds.Goals as goal

pub settled-returns-then-same_kinds-clause-kinds : goal.settled-returns-then-same_kinds-clause-kinds
settled-returns-then-same_kinds-clause-kinds g t c =
    kept_at_once c.args.start.items c.in_ok-first.first.items c.in_ok-kinds.kinds.items (λ ks. relations.rel_kinds c.args.named.now (plain_rel (rel_tree c.args.body.now)) (relations.entry c.args.name.now ks ∷ scope_of c.args.scope.now))
    (rw (← c.deref.ensures.value) (c.in_ok-first.ensures.kinds))
    (rw (← c.deref-2.ensures.value, ← c.deref-3.ensures.value) (c.in_ok-kinds.ensures))
    (rw (← c.deref-4.ensures.value, ← c.deref-5.ensures.value) (sym c.same_kinds.ensures ∙ c.if-same_kinds.true))
