use Rattle.std.proofs.Common.{rules, ◌≡◌, ◌++◌, ◌∙◌, refl, ap, sym, Some, map, slice_get}
use Rattle.expr_tree.specs.declared.relation.Column.{Column}
use Rattle.expr_tree.specs.Plain.{plain_agg}
use Rattle.kinds.specs.Kinds.{agg_kind}
use Rattle.field_kinds.proofs.Parts.{all_of_both, first_refused, second_refused}
use Rattle.field_kinds.proofs.columns.group_kinds.Goals as goal

pub returns-in_err-push_keys : goal.returns-in_err-push_keys
returns-in_err-push_keys c =
    let h = first_refused c.in_err-push_keys.field-0.0 c.new-fields.result.items c.push_keys.new.fields.items (map (slice_get c.args.kinds.now) (map (λ (k : Column). k.index) c.args.keys.now)) (map (agg_kind c.args.kinds.now) (map plain_agg c.args.aggregates.now)) c.in_err-push_keys.ensures in
    search rules

pub returns-in_err-push_aggs : goal.returns-in_err-push_aggs
returns-in_err-push_aggs c =
    let h = second_refused c.in_err-push_aggs.field-0.0 c.push_keys.new.fields.items c.push_aggs.new.fields.items (map (slice_get c.args.kinds.now) (map (λ (k : Column). k.index) c.args.keys.now)) (map (agg_kind c.args.kinds.now) (map plain_agg c.args.aggregates.now)) c.in_err-push_aggs.ensures in
    search rules

pub returns : goal.returns
returns c =
    let a = c.in_ok-push_keys.ensures in
    let b = c.in_ok-push_aggs.ensures in
    let e : a.0 ≡ c.push_keys.new.fields.items = rw (a.2, c.new-fields.ensures.items) refl in
    all_of_both (map (slice_get c.args.kinds.now) (map (λ (k : Column). k.index) c.args.keys.now)) (map (agg_kind c.args.kinds.now) (map plain_agg c.args.aggregates.now)) a.0 b.0 a.1 b.1
    ∙ ap Some (ap (λ l. l ++ b.0) e ∙ sym b.2)
