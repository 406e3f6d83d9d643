use Rattle.std.proofs.Common.{◌≡◌, suc, IfOk, sym, ap, ◌∙◌, subst, arith}
use Rattle.std.proofs.lemmas.List.{length-map}
use Rattle.expr_tree.specs.Plain.{plain_rel}
use Rattle.expr_tree.specs.Views.{rel_tree}
use Rattle.field_origins.specs.Shown.{origin, origins}
use Rattle.origins.specs.Scopes.{scope_of}
use Rattle.field_origins.specs.Sources.{columns_from}
use Rattle.origins.proofs.LoopParts.{looped_of}
use Rattle.origins.proofs.relation.+origins.Goals as goal

pub looped-returns-clause-origins : goal.looped-returns-clause-origins
looped-returns-clause-origins g t c =
    let next : c.in-Some.after ≡ suc c.args.next = omega arith in
    let own : origins c.in_ok-variable.variable.items ≡ columns_from c.args.next 0 _ = c.in_ok-variable.ensures ∙ ap (columns_from c.args.next 0) (c.len.ensures ∙ c.args.start.ok.0 ∙ sym (length-map c.args.start.items origin)) in
    subst (λ os. IfOk c.settled.result (λ v. origins v.items ≡ os))
    (looped_of (plain_rel (rel_tree c.args.body.now)) c.args.name.now (scope_of c.args.scope.now) _ c.args.next c.in-Some.after (origins c.args.start.items) (origins c.in_ok-turn.turn.items) (origins c.in_ok-variable.variable.items) next own c.in_ok-declare.ensures c.in_ok-turn.ensures.origins)
    (rw (← c.deref.ensures.value) c.settled.ensures)

pub origins_of-returns-in_ok-fields-in-Group-clause-origins : goal.origins_of-returns-in_ok-fields-in-Group-clause-origins
origins_of-returns-in_ok-fields-in-Group-clause-origins g t c =
    rw (c.in-Group.is, ← c.deref-in-Group.ensures, ← c.in_ok-fields-in-Group.ensures.origins, ← c.deref-in-Group-2.ensures.value, ← c.deref-in-Group-3.ensures.value, ← c.deref-in-Group-4.ensures.value) c.group_origins.ensures

pub origins_of-returns-in_ok-fields-in-Loop-clause-origins : goal.origins_of-returns-in_ok-fields-in-Loop-clause-origins
origins_of-returns-in_ok-fields-in-Loop-clause-origins g t c =
    rw (c.in-Loop.is, ← c.deref-in-Loop.ensures, ← c.in_ok-fields-in-Loop.ensures.origins, ← c.deref-in-Loop-2.ensures, ← c.in_ok-fields-in-Loop.ensures.scope) c.looped.ensures.origins
