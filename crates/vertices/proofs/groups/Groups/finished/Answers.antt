use Rattle.std.proofs.Common.{List, ◌++◌, ◌≤◌, length, map, ap, ◌∙◌, arith}
use Rattle.operators.specs.Aggregates.{stored_key}
use Rattle.semantics.specs.Meaning.{aggregate}
use Rattle.semantics.specs.Multiset.{Record}
use Rattle.vertices.specs.Groups.{columns_of, aggregates_of, keyed, shown_key}
use Rattle.vertices.proofs.Grouping.{all_sent, groups_different, take_whole}
use Rattle.vertices.proofs.groups.Groups.finished.Goals as goal

pub returns-clause-grouped : goal.returns-clause-grouped
returns-clause-grouped c =
    let ks = columns_of c.args.operator.now in
    let aggs = aggregates_of c.args.operator.now in
    let keys : List Record = c.args.self.now.keys.rows in
    let whole : length keys ≤ c.loop-place.place = omega (arith, c.loop-place.invariant.2, c.loop-place-test.false) in
    λ xs h. all_sent ks aggs keys c.args.self.now.values.rows xs c.loop-place.rows.rows h.grouped (c.loop-place.invariant.0 xs h ∙ ap (map (λ k. shown_key ks k ++ map (λ a. aggregate a (keyed (stored_key ks) k xs)) aggs)) (take_whole keys c.loop-place.place whole))

pub returns-clause-different : goal.returns-clause-different
returns-clause-different c =
    groups_different (columns_of c.args.operator.now) (aggregates_of c.args.operator.now) c.requires.0 c.loop-place.rows.rows (returns-clause-grouped c c.requires.0 c.requires.1)
