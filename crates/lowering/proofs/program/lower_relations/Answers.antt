use Rattle.std.proofs.Common.{◌+◌, length, map, refl, sym, arith, append-nil}
use Rattle.expr_tree.specs.Plain.{plain_let}
use Rattle.expr_tree.specs.Views.{let_tree}
use Rattle.semantics.specs.Lower.{lower_lets}
use Rattle.lowering.specs.Faults.{IsOver}
use Rattle.lowering.specs.Scopes.{ports_of}
use Rattle.graph.specs.Views.{graph_of}
use Rattle.lowering.proofs.NamedRelations.{passed_on, nested_at, one_more, one_over}
use Rattle.lowering.proofs.program.lower_relations.Goals as goal

pub loop-i-init : goal.loop-i-init
unfolding lower_lets
loop-i-init g c = record { made = sym (append-nil (graph_of c.args.made.now.items)); names = refl }

pub lower_let-requires : goal.lower_let-requires
lower_let-requires g c = record { nested = nested_at c.args.lets.now c.loop-i.i c.index-lets-i.result (omega arith) c.index-lets-i.is c.requires.nested }

pub returns-in_err-lower_let-clause-many : goal.returns-in_err-lower_let-clause-many
returns-in_err-lower_let-clause-many g c =
    let f : IsOver c.in_err-lower_let.field-0.0 (length c.args.made.now.items + length (lower_lets (map plain_let (map let_tree c.args.lets.now)) (ports_of c.args.scope.now) (length c.args.made.now.items)).made) =
    one_over _ c.args.lets.now c.loop-i.i c.index-lets-i.result c.args.made.now.items c.loop-i.made.items (ports_of c.args.scope.now) (ports_of c.loop-i.scope) c.loop-i-test.true c.index-lets-i.is c.loop-i.invariant c.in_err-lower_let.ensures.many in
    passed_on c.from_residual.result c.in_err-lower_let.field-0.0 _ c.from_residual.ensures.1 f

pub loop-i-preserved : goal.loop-i-preserved
loop-i-preserved g c =
    one_more c.args.lets.now c.loop-i.i c.index-lets-i.result c.args.made.now.items c.loop-i.made.items c.lower_let.new.made.items (ports_of c.args.scope.now) (ports_of c.loop-i.scope) (ports_of c.lower_let.new.scope) (omega arith) c.index-lets-i.is c.loop-i.invariant c.in_ok-lower_let.ensures.ok
