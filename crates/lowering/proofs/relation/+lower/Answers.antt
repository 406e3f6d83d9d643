use Rattle.std.proofs.Common.{◌≡◌, ℕ, suc, ◌+◌, ◌-◌, length, map, refl, ap, arith}
use Rattle.expr_tree.specs.declared.relation.Column.{Column}
use Rattle.expr_tree.specs.Plain.{plain_agg, plain_form, plain_cond, plain_pair, plain_rel, plain_scalar}
use Rattle.expr_tree.specs.Views.{cond_tree, rel_tree, scalar_tree}
use Rattle.semantics.specs.FreeNames.{carried}
use Rattle.semantics.specs.Kinds as semantics
use Rattle.semantics.specs.Lower.{carry, held_turns, is_lookup, join_kind, lower}
use Rattle.lowering.specs.Loops.{names_once}
use Rattle.lowering.specs.Faults.{IsOver}
use Rattle.lowering.specs.Scopes.{ports_of}
use Rattle.graph.specs.Views.{graph_of}
use Rattle.lowering.specs.FormKinds.{operator_kind}
use Rattle.lowering.proofs.Answered.{loop_many, loop_ok, one_many, one_ok, two_many, two_ok}
use Rattle.lowering.proofs.Forms.{nothing_made, over_body, over_left, over_one, over_open, over_right, over_start}
use Rattle.lowering.proofs.NamedRelations.{passed_on}
use Rattle.lowering.proofs.MoreVertices.{number_of}
use Rattle.lowering.proofs.SetOperations.{set_lowered}
use Rattle.lowering.proofs.relation.+lower.Goals as goal

pub lower_rel-returns-in-Named-clause-ok : goal.lower_rel-returns-in-Named-clause-ok
unfolding lower
lower_rel-returns-in-Named-clause-ok g t c =
    rw c.in-Named.is (nothing_made (graph_of c.args.made.now.items) _ _ refl c.find.ensures)

pub lower_rel-returns-in_err-from-in-Select-clause-many : goal.lower_rel-returns-in_err-from-in-Select-clause-many
unfolding lower
lower_rel-returns-in_err-from-in-Select-clause-many g t c =
    passed_on c.from_residual.result c.in_err-from-in-Select.field-0.0 _ c.from_residual.ensures.1 (rw c.in-Select.is (over_one _ _ _ (semantics.Kind.select (map plain_scalar (map scalar_tree c.in-Select.scalars.items))) c.args.depth (rw c.deref.ensures at c.in_err-from-in-Select.ensures.many)))

pub lower_rel-returns-in_ok-from-in-Select-clause-ok : goal.lower_rel-returns-in_ok-from-in-Select-clause-ok
unfolding lower
lower_rel-returns-in_ok-from-in-Select-clause-ok g t c =
    rw c.in-Select.is (one_ok c.add_select.result c.args.made.now.items c.lower_rel.new.made.items c.add_select.new.made.items _ _ (semantics.Kind.select (map plain_scalar (map scalar_tree c.in-Select.scalars.items))) c.args.depth (rw c.deref.ensures at c.in_ok-from-in-Select.ensures.ok) c.add_select.ensures.made c.add_select.ensures.gives)

pub lower_rel-returns-in_ok-from-in-Select-clause-many : goal.lower_rel-returns-in_ok-from-in-Select-clause-many
unfolding lower
lower_rel-returns-in_ok-from-in-Select-clause-many g t c =
    rw c.in-Select.is (one_many c.add_select.result c.args.made.now.items c.lower_rel.new.made.items _ _ (semantics.Kind.select (map plain_scalar (map scalar_tree c.in-Select.scalars.items))) c.args.depth (rw c.deref.ensures at c.in_ok-from-in-Select.ensures.ok) c.add_select.ensures.many)

pub lower_rel-returns-in_err-from-in-Where-clause-many : goal.lower_rel-returns-in_err-from-in-Where-clause-many
unfolding lower
lower_rel-returns-in_err-from-in-Where-clause-many g t c =
    passed_on c.from_residual-in_err-from-in-Where.result c.in_err-from-in-Where.field-0.0 _ c.from_residual-in_err-from-in-Where.ensures.1 (rw c.in-Where.is (over_one _ _ _ (semantics.Kind.filter (plain_cond (cond_tree c.in-Where.condition))) c.args.depth (rw c.deref-in-Where.ensures at c.in_err-from-in-Where.ensures.many)))

pub lower_rel-returns-in_ok-from-in-Where-clause-ok : goal.lower_rel-returns-in_ok-from-in-Where-clause-ok
unfolding lower
lower_rel-returns-in_ok-from-in-Where-clause-ok g t c =
    rw c.in-Where.is (one_ok c.add_where.result c.args.made.now.items c.lower_rel-in-Where.new.made.items c.add_where.new.made.items _ _ (semantics.Kind.filter (plain_cond (cond_tree c.in-Where.condition))) c.args.depth (rw c.deref-in-Where.ensures at c.in_ok-from-in-Where.ensures.ok) c.add_where.ensures.made c.add_where.ensures.gives)

pub lower_rel-returns-in_ok-from-in-Where-clause-many : goal.lower_rel-returns-in_ok-from-in-Where-clause-many
unfolding lower
lower_rel-returns-in_ok-from-in-Where-clause-many g t c =
    rw c.in-Where.is (one_many c.add_where.result c.args.made.now.items c.lower_rel-in-Where.new.made.items _ _ (semantics.Kind.filter (plain_cond (cond_tree c.in-Where.condition))) c.args.depth (rw c.deref-in-Where.ensures at c.in_ok-from-in-Where.ensures.ok) c.add_where.ensures.many)

pub lower_rel-returns-in_err-from-in-Group-clause-many : goal.lower_rel-returns-in_err-from-in-Group-clause-many
unfolding lower
lower_rel-returns-in_err-from-in-Group-clause-many g t c =
    passed_on c.from_residual-in_err-from-in-Group.result c.in_err-from-in-Group.field-0.0 _ c.from_residual-in_err-from-in-Group.ensures.1 (rw c.in-Group.is (over_one _ _ _ (semantics.Kind.group (map (λ (k : Column). k.index) c.in-Group.keys.items) (map plain_agg c.in-Group.aggregates.items)) c.args.depth (rw c.deref-in-Group.ensures at c.in_err-from-in-Group.ensures.many)))

pub lower_rel-returns-in_ok-from-in-Group-clause-ok : goal.lower_rel-returns-in_ok-from-in-Group-clause-ok
unfolding lower
lower_rel-returns-in_ok-from-in-Group-clause-ok g t c =
    rw c.in-Group.is (one_ok c.add_group.result c.args.made.now.items c.lower_rel-in-Group.new.made.items c.add_group.new.made.items _ _ (semantics.Kind.group (map (λ (k : Column). k.index) c.in-Group.keys.items) (map plain_agg c.in-Group.aggregates.items)) c.args.depth (rw c.deref-in-Group.ensures at c.in_ok-from-in-Group.ensures.ok) c.add_group.ensures.made c.add_group.ensures.gives)

pub lower_rel-returns-in_ok-from-in-Group-clause-many : goal.lower_rel-returns-in_ok-from-in-Group-clause-many
unfolding lower
lower_rel-returns-in_ok-from-in-Group-clause-many g t c =
    rw c.in-Group.is (one_many c.add_group.result c.args.made.now.items c.lower_rel-in-Group.new.made.items _ _ (semantics.Kind.group (map (λ (k : Column). k.index) c.in-Group.keys.items) (map plain_agg c.in-Group.aggregates.items)) c.args.depth (rw c.deref-in-Group.ensures at c.in_ok-from-in-Group.ensures.ok) c.add_group.ensures.many)

pub lower_rel-returns-in_err-from-in-Distinct-clause-many : goal.lower_rel-returns-in_err-from-in-Distinct-clause-many
unfolding lower
lower_rel-returns-in_err-from-in-Distinct-clause-many g t c =
    passed_on c.from_residual-in_err-from-in-Distinct.result c.in_err-from-in-Distinct.field-0.0 _ c.from_residual-in_err-from-in-Distinct.ensures.1 (rw c.in-Distinct.is (over_one _ _ _ semantics.Kind.distinct c.args.depth (rw c.deref-in-Distinct.ensures at c.in_err-from-in-Distinct.ensures.many)))

pub lower_rel-returns-in_ok-from-in-Distinct-clause-ok : goal.lower_rel-returns-in_ok-from-in-Distinct-clause-ok
unfolding lower
lower_rel-returns-in_ok-from-in-Distinct-clause-ok g t c =
    rw c.in-Distinct.is (one_ok c.add_vertex.result c.args.made.now.items c.lower_rel-in-Distinct.new.made.items c.add_vertex.new.made.items _ _ semantics.Kind.distinct c.args.depth (rw c.deref-in-Distinct.ensures at c.in_ok-from-in-Distinct.ensures.ok) c.add_vertex.ensures.made c.add_vertex.ensures.gives)

pub lower_rel-returns-in_ok-from-in-Distinct-clause-many : goal.lower_rel-returns-in_ok-from-in-Distinct-clause-many
unfolding lower
lower_rel-returns-in_ok-from-in-Distinct-clause-many g t c =
    rw c.in-Distinct.is (one_many c.add_vertex.result c.args.made.now.items c.lower_rel-in-Distinct.new.made.items _ _ semantics.Kind.distinct c.args.depth (rw c.deref-in-Distinct.ensures at c.in_ok-from-in-Distinct.ensures.ok) c.add_vertex.ensures.many)

pub lower_rel-returns-in_err-left-in-SetOperation-clause-many : goal.lower_rel-returns-in_err-left-in-SetOperation-clause-many
lower_rel-returns-in_err-left-in-SetOperation-clause-many g t c =
    let ports = ports_of c.args.scope.now in
    let k = length c.args.made.now.items in
    let p = plain_rel (rel_tree c.in-SetOperation.left.value) in
    let q = plain_rel (rel_tree c.in-SetOperation.right.value) in
    let l = lower p ports c.args.once.now c.args.depth k in
    let r = λ (k : ℕ). lower q ports c.args.once.now c.args.depth k in
    let kind : semantics.Kind = operator_kind c.in-SetOperation.operator in
    passed_on c.from_residual-in_err-left-in-SetOperation.result c.in_err-left-in-SetOperation.field-0.0 _ c.from_residual-in_err-left-in-SetOperation.ensures.1 (rw (c.in-SetOperation.is, set_lowered c.in-SetOperation.operator p q ports c.args.once.now c.args.depth k) (over_left _ k l (r (k + length l.made)) kind c.args.depth (rw c.deref-in-SetOperation.ensures at c.in_err-left-in-SetOperation.ensures.many)))

pub lower_rel-returns-in_err-right-in-SetOperation-clause-many : goal.lower_rel-returns-in_err-right-in-SetOperation-clause-many
lower_rel-returns-in_err-right-in-SetOperation-clause-many g t c =
    let ports = ports_of c.args.scope.now in
    let k = length c.args.made.now.items in
    let p = plain_rel (rel_tree c.in-SetOperation.left.value) in
    let q = plain_rel (rel_tree c.in-SetOperation.right.value) in
    let l = lower p ports c.args.once.now c.args.depth k in
    let r = λ (k : ℕ). lower q ports c.args.once.now c.args.depth k in
    let kind : semantics.Kind = operator_kind c.in-SetOperation.operator in
    let i = rw c.deref-in-SetOperation.ensures at c.in_ok-left-in-SetOperation.ensures.ok in
    passed_on c.from_residual-in_err-right-in-SetOperation.result c.in_err-right-in-SetOperation.field-0.0 _ c.from_residual-in_err-right-in-SetOperation.ensures.1 (rw (c.in-SetOperation.is, set_lowered c.in-SetOperation.operator p q ports c.args.once.now c.args.depth k) (over_right _ c.args.made.now.items c.lower_rel-in-SetOperation.new.made.items _ l r kind c.args.depth i (rw (c.deref-in-SetOperation-2.ensures, c.in_ok-left-in-SetOperation.ensures.scope) at c.in_err-right-in-SetOperation.ensures.many)))

pub lower_rel-returns-in_ok-right-in-SetOperation-clause-ok : goal.lower_rel-returns-in_ok-right-in-SetOperation-clause-ok
lower_rel-returns-in_ok-right-in-SetOperation-clause-ok g t c =
    let ports = ports_of c.args.scope.now in
    let k = length c.args.made.now.items in
    let p = plain_rel (rel_tree c.in-SetOperation.left.value) in
    let q = plain_rel (rel_tree c.in-SetOperation.right.value) in
    let l = lower p ports c.args.once.now c.args.depth k in
    let r = λ (k : ℕ). lower q ports c.args.once.now c.args.depth k in
    let kind : semantics.Kind = operator_kind c.in-SetOperation.operator in
    let i = rw c.deref-in-SetOperation.ensures at c.in_ok-left-in-SetOperation.ensures.ok in
    let j = rw (c.deref-in-SetOperation-2.ensures, c.in_ok-left-in-SetOperation.ensures.scope) at c.in_ok-right-in-SetOperation.ensures.ok in
    rw (c.in-SetOperation.is, set_lowered c.in-SetOperation.operator p q ports c.args.once.now c.args.depth k) (two_ok c.add_set_operation.result c.args.made.now.items c.lower_rel-in-SetOperation.new.made.items c.lower_rel-in-SetOperation-2.new.made.items c.add_set_operation.new.made.items _ _ l r kind c.args.depth i j c.add_set_operation.ensures.made c.add_set_operation.ensures.gives)

pub lower_rel-returns-in_ok-right-in-SetOperation-clause-many : goal.lower_rel-returns-in_ok-right-in-SetOperation-clause-many
lower_rel-returns-in_ok-right-in-SetOperation-clause-many g t c =
    let ports = ports_of c.args.scope.now in
    let k = length c.args.made.now.items in
    let p = plain_rel (rel_tree c.in-SetOperation.left.value) in
    let q = plain_rel (rel_tree c.in-SetOperation.right.value) in
    let l = lower p ports c.args.once.now c.args.depth k in
    let r = λ (k : ℕ). lower q ports c.args.once.now c.args.depth k in
    let kind : semantics.Kind = operator_kind c.in-SetOperation.operator in
    let i = rw c.deref-in-SetOperation.ensures at c.in_ok-left-in-SetOperation.ensures.ok in
    let j = rw (c.deref-in-SetOperation-2.ensures, c.in_ok-left-in-SetOperation.ensures.scope) at c.in_ok-right-in-SetOperation.ensures.ok in
    rw (c.in-SetOperation.is, set_lowered c.in-SetOperation.operator p q ports c.args.once.now c.args.depth k) (two_many c.add_set_operation.result c.args.made.now.items c.lower_rel-in-SetOperation.new.made.items c.lower_rel-in-SetOperation-2.new.made.items _ _ l r kind c.args.depth i j c.add_set_operation.ensures.many)

pub lower_rel-returns-in_err-left-in-Join-clause-many : goal.lower_rel-returns-in_err-left-in-Join-clause-many
unfolding lower
lower_rel-returns-in_err-left-in-Join-clause-many g t c =
    let ports = ports_of c.args.scope.now in
    let k = length c.args.made.now.items in
    let p = plain_rel (rel_tree c.in-Join.left.value) in
    let q = plain_rel (rel_tree c.in-Join.right.value) in
    let l = lower p ports c.args.once.now c.args.depth k in
    let r = λ (k : ℕ). lower q ports c.args.once.now c.args.depth k in
    let kind : semantics.Kind = join_kind (is_lookup q c.args.once.now) (map plain_pair c.in-Join.pairs.items) in
    passed_on c.from_residual-in_err-left-in-Join.result c.in_err-left-in-Join.field-0.0 _ c.from_residual-in_err-left-in-Join.ensures.1 (rw c.in-Join.is (over_left _ k l (r (k + length l.made)) kind c.args.depth (rw c.deref-in-Join-2.ensures at c.in_err-left-in-Join.ensures.many)))

pub lower_rel-returns-in_err-right-in-Join-clause-many : goal.lower_rel-returns-in_err-right-in-Join-clause-many
unfolding lower
lower_rel-returns-in_err-right-in-Join-clause-many g t c =
    let ports = ports_of c.args.scope.now in
    let k = length c.args.made.now.items in
    let p = plain_rel (rel_tree c.in-Join.left.value) in
    let q = plain_rel (rel_tree c.in-Join.right.value) in
    let l = lower p ports c.args.once.now c.args.depth k in
    let r = λ (k : ℕ). lower q ports c.args.once.now c.args.depth k in
    let kind : semantics.Kind = join_kind (is_lookup q c.args.once.now) (map plain_pair c.in-Join.pairs.items) in
    let i = rw c.deref-in-Join-2.ensures at c.in_ok-left-in-Join.ensures.ok in
    passed_on c.from_residual-in_err-right-in-Join.result c.in_err-right-in-Join.field-0.0 _ c.from_residual-in_err-right-in-Join.ensures.1 (rw c.in-Join.is (over_right _ c.args.made.now.items c.lower_rel-in-Join.new.made.items _ l r kind c.args.depth i (rw (c.deref-in-Join-3.ensures, c.in_ok-left-in-Join.ensures.scope) at c.in_err-right-in-Join.ensures.many)))

pub lower_rel-returns-in_ok-right-in-Join-clause-ok : goal.lower_rel-returns-in_ok-right-in-Join-clause-ok
unfolding lower
lower_rel-returns-in_ok-right-in-Join-clause-ok g t c =
    let ports = ports_of c.args.scope.now in
    let k = length c.args.made.now.items in
    let p = plain_rel (rel_tree c.in-Join.left.value) in
    let q = plain_rel (rel_tree c.in-Join.right.value) in
    let l = lower p ports c.args.once.now c.args.depth k in
    let r = λ (k : ℕ). lower q ports c.args.once.now c.args.depth k in
    let kind : semantics.Kind = join_kind (is_lookup q c.args.once.now) (map plain_pair c.in-Join.pairs.items) in
    let i = rw c.deref-in-Join-2.ensures at c.in_ok-left-in-Join.ensures.ok in
    let j = rw (c.deref-in-Join-3.ensures, c.in_ok-left-in-Join.ensures.scope) at c.in_ok-right-in-Join.ensures.ok in
    rw c.in-Join.is (two_ok c.add_join.result c.args.made.now.items c.lower_rel-in-Join.new.made.items c.lower_rel-in-Join-2.new.made.items c.add_join.new.made.items _ _ l r kind c.args.depth i j (rw (c.is_lookup-lookup.ensures, c.deref-in-Join.ensures) at c.add_join.ensures.made) c.add_join.ensures.gives)

pub lower_rel-returns-in_ok-right-in-Join-clause-many : goal.lower_rel-returns-in_ok-right-in-Join-clause-many
unfolding lower
lower_rel-returns-in_ok-right-in-Join-clause-many g t c =
    let ports = ports_of c.args.scope.now in
    let k = length c.args.made.now.items in
    let p = plain_rel (rel_tree c.in-Join.left.value) in
    let q = plain_rel (rel_tree c.in-Join.right.value) in
    let l = lower p ports c.args.once.now c.args.depth k in
    let r = λ (k : ℕ). lower q ports c.args.once.now c.args.depth k in
    let kind : semantics.Kind = join_kind (is_lookup q c.args.once.now) (map plain_pair c.in-Join.pairs.items) in
    let i = rw c.deref-in-Join-2.ensures at c.in_ok-left-in-Join.ensures.ok in
    let j = rw (c.deref-in-Join-3.ensures, c.in_ok-left-in-Join.ensures.scope) at c.in_ok-right-in-Join.ensures.ok in
    rw c.in-Join.is (two_many c.add_join.result c.args.made.now.items c.lower_rel-in-Join.new.made.items c.lower_rel-in-Join-2.new.made.items _ _ l r kind c.args.depth i j c.add_join.ensures.many)

pub lower_loop-returns-in_err-from-clause-many : goal.lower_loop-returns-in_err-from-clause-many
unfolding lower
lower_loop-returns-in_err-from-clause-many g t c =
    let x = c.args.head.variable.now in
    let r = plain_rel (rel_tree c.args.start.now) in
    let b = plain_rel (rel_tree c.args.body.now) in
    let ports = ports_of c.args.scope.now in
    let d = c.args.depth in
    let n = c.args.head.turns in
    passed_on c.from_residual.result c.in_err-from.field-0.0 _ c.from_residual.ensures.1 (over_start _ (plain_form c.args.head.form) n x r b ports c.args.head.once.now d (length c.args.made.now.items) c.in_err-from.ensures.many)

pub lower_loop-returns-in_err-opened-clause-many : goal.lower_loop-returns-in_err-opened-clause-many
unfolding lower
lower_loop-returns-in_err-opened-clause-many g t c =
    let x = c.args.head.variable.now in
    let r = plain_rel (rel_tree c.args.start.now) in
    let b = plain_rel (rel_tree c.args.body.now) in
    let ports = ports_of c.args.scope.now in
    let d = c.args.depth in
    let n = c.args.head.turns in
    let i = c.in_ok-from.ensures.ok in
    let k = length c.lower_rel.new.made.items in
    let over : IsOver c.in_err-opened.field-0.0 (k + suc (suc (suc (length (carry (held_turns n (names_once c.args.head.form x c.args.body.now)) (ports_of c.lower_rel.new.scope) d (suc (suc (suc k))) (carried x b)))))) = c.in_err-opened.ensures.many in
    passed_on c.from_residual-in_err-opened.result c.in_err-opened.field-0.0 _ c.from_residual-in_err-opened.ensures.1 (over_open _ (plain_form c.args.head.form) n x r b ports c.args.head.once.now d c.args.made.now.items c.lower_rel.new.made.items _ i (rw c.in_ok-from.ensures.scope at over))

pub lower_loop-returns-in_err-last-clause-many : goal.lower_loop-returns-in_err-last-clause-many
unfolding lower
lower_loop-returns-in_err-last-clause-many g t c =
    let x = c.args.head.variable.now in
    let r = plain_rel (rel_tree c.args.start.now) in
    let b = plain_rel (rel_tree c.args.body.now) in
    let ports = ports_of c.args.scope.now in
    let d = c.args.depth in
    let n = c.args.head.turns in
    let i = c.in_ok-from.ensures.ok in
    let o = rw c.in_ok-from.ensures.scope at c.in_ok-opened.ensures.made in
    let s = rw c.in_ok-from.ensures.scope at c.in_ok-opened.ensures.inside in
    let q : d + 1 ≡ suc d = omega arith in
    passed_on c.from_residual-in_err-last.result c.in_err-last.field-0.0 _ c.from_residual-in_err-last.ensures.1 (over_body _ (plain_form c.args.head.form) n x r b ports _ c.args.head.once.now d (d + 1) c.args.made.now.items c.lower_rel.new.made.items c.open_loop.new.made.items _ _ _ _ i o s q (rw (c.deref.ensures.value, c.in_ok-opened.ensures.once) at c.in_err-last.ensures.many))

pub lower_loop-returns-clause-ok : goal.lower_loop-returns-clause-ok
unfolding lower
lower_loop-returns-clause-ok g t c =
    let x = c.args.head.variable.now in
    let r = plain_rel (rel_tree c.args.start.now) in
    let b = plain_rel (rel_tree c.args.body.now) in
    let ports = ports_of c.args.scope.now in
    let d = c.args.depth in
    let n = c.args.head.turns in
    let i = c.in_ok-from.ensures.ok in
    let o = rw c.in_ok-from.ensures.scope at c.in_ok-opened.ensures.made in
    let s = rw c.in_ok-from.ensures.scope at c.in_ok-opened.ensures.inside in
    let q : d + 1 ≡ suc d = omega arith in
    let j = rw (c.deref.ensures.value, c.in_ok-opened.ensures.once) at c.in_ok-last.ensures.ok in
    let v : c.in_ok-opened.opened.0.vertex.0 ≡ suc (suc (length c.lower_rel.new.made.items)) = ap (λ p. p.vertex) c.in_ok-opened.ensures.gives in
    let v1 : c.in_ok-opened.opened.0.vertex.0 - 1 ≡ suc (length c.lower_rel.new.made.items) = omega (arith, v) in
    let v2 : c.in_ok-opened.opened.0.vertex.0 - 2 ≡ length c.lower_rel.new.made.items = omega (arith, v) in
    loop_ok c.close_loop.result (plain_form c.args.head.form) n x r b ports _ c.args.head.once.now d (d + 1) c.args.made.now.items c.lower_rel.new.made.items c.open_loop.new.made.items c.lower_rel-2.new.made.items c.close_loop.new.made.items _ _ _ i o s q j (rw (v1, v2, v) at c.close_loop.ensures.made) c.close_loop.ensures.gives

pub lower_loop-returns-clause-many : goal.lower_loop-returns-clause-many
unfolding lower
lower_loop-returns-clause-many g t c =
    let x = c.args.head.variable.now in
    let r = plain_rel (rel_tree c.args.start.now) in
    let b = plain_rel (rel_tree c.args.body.now) in
    let ports = ports_of c.args.scope.now in
    let d = c.args.depth in
    let n = c.args.head.turns in
    let i = c.in_ok-from.ensures.ok in
    let o = rw c.in_ok-from.ensures.scope at c.in_ok-opened.ensures.made in
    let s = rw c.in_ok-from.ensures.scope at c.in_ok-opened.ensures.inside in
    let q : d + 1 ≡ suc d = omega arith in
    let j = rw (c.deref.ensures.value, c.in_ok-opened.ensures.once) at c.in_ok-last.ensures.ok in
    loop_many c.close_loop.result (plain_form c.args.head.form) n x r b ports _ c.args.head.once.now d (d + 1) c.args.made.now.items c.lower_rel.new.made.items c.open_loop.new.made.items c.lower_rel-2.new.made.items _ _ _ _ _ i o s q j c.close_loop.ensures.many

pub lower_loop-close_loop-requires-clause-made : goal.lower_loop-close_loop-requires-clause-made
lower_loop-close_loop-requires-clause-made g t c =
    let d = c.args.depth in
    let o = rw c.in_ok-from.ensures.scope at c.in_ok-opened.ensures.made in
    let j = rw (c.deref.ensures.value, c.in_ok-opened.ensures.once) at c.in_ok-last.ensures.ok in
    let v : c.in_ok-opened.opened.0.vertex.0 ≡ suc (suc (length c.lower_rel.new.made.items)) = ap (λ p. p.vertex) c.in_ok-opened.ensures.gives in
    omega (arith, v, number_of c.lower_rel.new.made.items c.open_loop.new.made.items _ o, number_of c.open_loop.new.made.items c.lower_rel-2.new.made.items _ j.made)
