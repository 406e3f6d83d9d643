use Rattle.std.proofs.Common.{◌≡◌, ◌≤◌, ◌-◌, ℕ, List, [], ◌∷◌, ◌++◌, map, take, drop, length, get_or, pos, ap, ◌∙◌, arith, append_assoc, rules}
use Rattle.std.proofs.lemmas.List.{take_all}
use Rattle.expr_tree.specs.Plain.{plain_agg}
use Rattle.expr_tree.specs.declared.relation.Agg.{Agg as Declared}
use Rattle.expr_tree.specs.declared.relation.Agg.TheVariants.{Count}
use Rattle.semantics.specs.Multiset.{Record}
use Rattle.operators.specs.Aggregates.{weighed, weighed_all}
use Rattle.operators.proofs.group.+push_weighed.Goals as goal

-- the first aggregate, and the others
parts : (as' : List Declared) (vs x : Record) (n : ℕ) (d : Declared) → 1 ≤ length as' → 1 ≤ length vs →
    weighed (plain_agg (get_or as' 0 d)) (get_or vs 0 (pos 0)) x n ∷ weighed_all (map plain_agg (take (length as' - 1) (drop 1 as'))) (take (length vs - 1) (drop 1 vs)) x n ≡ weighed_all (map plain_agg as') vs x n
parts [] vs x n d h k = absurd (omega (arith, h))
parts (a ∷ as') [] x n d h k = absurd (omega (arith, k))
parts (a ∷ as') (v ∷ vs) x n d h k =
    λ i. weighed (plain_agg a) v x n ∷ weighed_all (map plain_agg (take_all (length (a ∷ as') - 1) as' (omega arith) i)) (take_all (length (v ∷ vs) - 1) vs (omega arith) i) x n

pub returns-in-len1-up-values : goal.returns-in-len1-up-values
returns-in-len1-up-values t c =
    let none : Declared = Count (record { start = 0; end = 0 }) in
    let aggs : List Declared = c.args.aggregates.now in
    let values : Record = c.args.values.now in
    let first : c.weigh.result ≡ weighed (plain_agg (get_or aggs 0 none)) (get_or values 0 (pos 0)) c.args.row.now c.args.count = search rules in
    let pushed : c.push.new.self ≡ c.args.made.now ++ c.weigh.result ∷ [] = search rules in
    let rest = weighed_all (map plain_agg (take (length aggs - 1) (drop 1 aggs))) (take (length values - 1) (drop 1 values)) c.args.row.now c.args.count in
    c.push_weighed.ensures ∙ ap (λ l. l ++ rest) pushed ∙ append_assoc c.args.made.now (c.weigh.result ∷ []) rest
    ∙ ap (λ v. c.args.made.now ++ v ∷ rest) first ∙ ap (λ l. c.args.made.now ++ l) (parts aggs values c.args.row.now c.args.count none (search rules) (search rules))
