use Rattle.std.proofs.Common.{◌≡◌, ◌++◌, ◌∷◌, [], List, cond, map, length, rules, sym, ap, subst, ◌∙◌, slice_index_or, slice_set}
use Rattle.std.specs.List.{list_any}
use Rattle.operators.specs.Aggregates.{begun, stored_key, weighed_all}
use Rattle.rows.specs.Counts.{repeated}
use Rattle.semantics.specs.Multiset.{Record, same}
use Rattle.vertices.specs.Groups.{AreGrouped, columns_of, aggregates_of}
use Rattle.vertices.proofs.Grouping.{as_wide, grouped_old, grouped_new}
use Rattle.vertices.proofs.groups.Groups.count_in.Goals as goal

pub set-requires-clause-arity : goal.set-requires-clause-arity
set-requires-clause-arity c =
    let aggs = aggregates_of c.args.operator.now in
    let values : List Record = c.args.self.now.values.rows in
    let weighed : c.as_slice-then-place-len.result.now ≡ weighed_all aggs (slice_index_or values c.in_ok-place.place []) c.args.row.now c.args.count =
    c.as_slice-then-place-len.ensures ∙ c.weigh.ensures ∙ ap (λ (v : Record). weighed_all aggs v c.args.row.now c.args.count) c.list.ensures in
    ap length weighed
    ∙ as_wide (stored_key (columns_of c.args.operator.now)) aggs c.args.self.now.keys.rows values c.requires.whole.0 c.requires.whole.1.grouped c.in_ok-place.place c.args.row.now c.args.count (search rules)
    ∙ sym c.requires.whole.1.width

pub returns-then-place-len : goal.returns-then-place-len
returns-then-place-len c =
    let key_by = stored_key (columns_of c.args.operator.now) in
    let aggs = aggregates_of c.args.operator.now in
    let keys : List Record = c.args.self.now.keys.rows in
    let values : List Record = c.args.self.now.values.rows in
    let x : Record = c.args.row.now in
    let key : c.as_slice.result.now ≡ key_by x = c.as_slice.ensures ∙ c.key.ensures in
    let more : c.place.new.self.rows ≡ cond (list_any (λ r. same r (key_by x)) keys) keys (keys ++ key_by x ∷ []) = c.in_ok-place.ensures.rows ∙ ap (λ (k : Record). cond (list_any (λ r. same r k) keys) keys (keys ++ k ∷ [])) key in
    let weighed : c.as_slice-then-place-len.result.now ≡ weighed_all aggs (slice_index_or values c.in_ok-place.place []) x c.args.count =
    c.as_slice-then-place-len.ensures ∙ c.weigh.ensures ∙ ap (λ (v : Record). weighed_all aggs v x c.args.count) c.list.ensures in
    λ xs h. record {
      arity = c.in_ok-place.ensures.arity ∙ h.arity;
      width = c.set.ensures.arity ∙ h.width;
      grouped = subst (λ (l : List Record). AreGrouped key_by aggs c.place.new.self.rows l (xs ++ repeated c.args.count x)) (sym (c.set.ensures.lists ∙ ap (λ (v : Record). slice_set values c.in_ok-place.place v) weighed))
          (grouped_old key_by aggs keys values xs h.grouped x c.args.count c.requires.some c.in_ok-place.place c.place.new.self.rows more c.len-count.ensures.different (c.in_ok-place.ensures.place.1 ∙ key) (search rules));
    }

pub returns-in_ok-push : goal.returns-in_ok-push
returns-in_ok-push c =
    let key_by = stored_key (columns_of c.args.operator.now) in
    let aggs = aggregates_of c.args.operator.now in
    let keys : List Record = c.args.self.now.keys.rows in
    let values : List Record = c.args.self.now.values.rows in
    let x : Record = c.args.row.now in
    let key : c.as_slice.result.now ≡ key_by x = c.as_slice.ensures ∙ c.key.ensures in
    let more : c.place.new.self.rows ≡ cond (list_any (λ r. same r (key_by x)) keys) keys (keys ++ key_by x ∷ []) = c.in_ok-place.ensures.rows ∙ ap (λ (k : Record). cond (list_any (λ r. same r k) keys) keys (keys ++ k ∷ [])) key in
    let begun_is : c.as_slice-else-place-len.result.now ≡ map (λ a. begun a x c.args.count) aggs = c.as_slice-else-place-len.ensures ∙ c.begin.ensures in
    λ xs h. record {
      arity = c.in_ok-place.ensures.arity ∙ h.arity;
      width = c.push.ensures.arity ∙ h.width;
      grouped = subst (λ (l : List Record). AreGrouped key_by aggs c.place.new.self.rows l (xs ++ repeated c.args.count x)) (sym (c.in_ok-push.ensures.lists ∙ ap (λ (v : Record). values ++ v ∷ []) begun_is))
          (grouped_new key_by aggs keys values xs h.grouped x c.args.count c.requires.some c.in_ok-place.place c.place.new.self.rows more c.len-count.ensures.different c.in_ok-place.ensures.place.0 (c.in_ok-place.ensures.place.1 ∙ key) (search rules));
    }
