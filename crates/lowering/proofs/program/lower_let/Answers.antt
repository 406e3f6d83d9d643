use Rattle.std.proofs.Common.{rules, [], ◌∷◌, ◌+◌, length}
use Rattle.expr_tree.specs.Plain.{plain_let}
use Rattle.expr_tree.specs.Views.{let_tree}
use Rattle.semantics.specs.Lower.{lower_lets}
use Rattle.lowering.specs.Faults.{IsOver}
use Rattle.lowering.specs.Scopes.{ports_of}
use Rattle.lowering.proofs.NamedRelations.{let_lowered, let_over}
use Rattle.lowering.proofs.WholePrograms.{bound_last}
use Rattle.lowering.proofs.program.lower_let.Goals as goal

pub returns-in_err-port-clause-many : goal.returns-in_err-port-clause-many
returns-in_err-port-clause-many g c =
    let k = length c.args.made.now.items in
    let f : IsOver c.in_err-port.field-0.0 (k + length (lower_lets (plain_let (let_tree c.args.item.now) ∷ []) (ports_of c.args.scope.now) k).made) =
    let_over _ c.args.item.now (ports_of c.args.scope.now) k (rw c.deref.ensures at (c.in_err-port.ensures.many)) in
    search rules

pub returns-clause-ok : goal.returns-clause-ok
returns-clause-ok g c =
    let_lowered c.args.item.now c.args.made.now.items c.lower_rel.new.made.items (ports_of c.args.scope.now) _ _ (rw c.deref.ensures at (c.in_ok-port.ensures.ok)) (rw c.in_ok-port.ensures.scope at (bound_last c.args.item.now.name c.in_ok-port.port c.lower_rel.new.scope c.bind.new.self c.in_ok-bind.ensures.ok))
