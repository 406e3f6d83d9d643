use Rattle.std.proofs.Common.{rules, ◌≡◌, ◌≤◌, ◌++◌, ◌∷◌, [], List, length, ap, sym, subst, ◌∙◌, append-nil, arith}
use Rattle.std.specs.List.{AllByRecursion}
use Rattle.semantics.specs.Multiset.{Record, count}
use Rattle.semantics.proofs.MultisetSums.{append_comm, ≈-from, ≈-trans}
use Rattle.rows.specs.Counts.{most}
use Rattle.rows.specs.FlatRows.{arity_of, joined}
use Rattle.rows.proofs.Joined.{joined_behind}
use Rattle.rows.proofs.Merging.{few_fit, fit_alike}
use Rattle.vertices.specs.Piles.{Piled}
use Rattle.vertices.proofs.Piles.{all_more, same_arity, few_more}
use Rattle.vertices.proofs.pile.Pile.add.Goals as goal

pub invariant_of-self-then-weight-le-MAX_COUNT : goal.invariant_of-self-then-weight-le-MAX_COUNT
invariant_of-self-then-weight-le-MAX_COUNT c =
    let bs : List (List Record) = c.self.inside.batches.items in
    let new : c.push.new.self.items ≡ bs ++ c.args.batch.now ∷ [] = search rules in
    let few = few_more (joined bs) c.args.batch.now c.self.inside.weight c.weight.result c.saturating_add-weight.result c.self.invariant.1 (search rules) (search rules) c.if-weight-le-MAX_COUNT.true in (
      subst (AllByRecursion (λ b. arity_of b ≡ c.self.inside.arity)) (sym new) (all_more (λ b. arity_of b ≡ c.self.inside.arity) bs c.args.batch.now c.self.invariant.0 (search rules)),
      λ l. subst (λ (xs : List Record). length xs ≤ c.saturating_add-weight.result) (sym (ap joined new ∙ joined_behind bs c.args.batch.now)) few,
    )

pub returns-then-weight-le-MAX_COUNT-clause-records : goal.returns-then-weight-le-MAX_COUNT-clause-records
returns-then-weight-le-MAX_COUNT-clause-records c =
    let old : joined c.self.inside.batches.items ≡ c.args.self.now.records = ap (λ (p : Piled). p.records) c.self.view_is in
    let new : c.push.new.self.items ≡ c.self.inside.batches.items ++ c.args.batch.now ∷ [] = search rules in
    ≈-from (ap joined new ∙ joined_behind c.self.inside.batches.items c.args.batch.now ∙ ap (λ l. l ++ c.args.batch.now) old)

pub returns-then-weight-le-MAX_COUNT-clause-fits : goal.returns-then-weight-le-MAX_COUNT-clause-fits
returns-then-weight-le-MAX_COUNT-clause-fits c =
    let old : joined c.self.inside.batches.items ≡ c.args.self.now.records = ap (λ (p : Piled). p.records) c.self.view_is in
    let few = few_more (joined c.self.inside.batches.items) c.args.batch.now c.self.inside.weight c.weight.result c.saturating_add-weight.result c.self.invariant.1 (search rules) (search rules) c.if-weight-le-MAX_COUNT.true in
    subst (λ (l : List Record). (r : Record) → count r (l ++ c.args.batch.now) ≤ most) old (few_fit (joined c.self.inside.batches.items ++ c.args.batch.now) (omega (arith, few, c.if-weight-le-MAX_COUNT.true)))

pub concat-requires : goal.concat-requires
concat-requires c =
    record { one_arity = (let t : c.deref.result.now ≡ c.self.inside.batches.items = search rules in subst (AllByRecursion (λ b. arity_of b ≡ arity_of c.args.batch.now)) (sym t) (same_arity c.self.inside.arity (arity_of c.args.batch.now) c.self.inside.batches.items (search rules) c.self.invariant.0)) }

pub returns-in_ok-push-in-Ok-clause-records : goal.returns-in_ok-push-in-Ok-clause-records
returns-in_ok-push-in-Ok-clause-records c =
    let old : joined c.deref.result.now ≡ c.args.self.now.records = search rules in
    let new : c.push-in-Ok.new.self.items ≡ c.in-Ok.all ∷ [] = search rules in
    ≈-trans (≈-from (ap joined new ∙ append-nil c.in-Ok.all)) (≈-trans c.in-Ok.ensures.value (≈-trans (append_comm c.args.batch.now (joined c.deref.result.now)) (≈-from (ap (λ l. l ++ c.args.batch.now) old))))

pub returns-in_ok-push-in-Ok-clause-fits : goal.returns-in_ok-push-in-Ok-clause-fits
returns-in_ok-push-in-Ok-clause-fits c =
    let old : joined c.deref.result.now ≡ c.args.self.now.records = search rules in
    fit_alike (c.args.batch.now ++ joined c.deref.result.now) (c.args.self.now.records ++ c.args.batch.now) (≈-trans (append_comm c.args.batch.now (joined c.deref.result.now)) (≈-from (ap (λ l. l ++ c.args.batch.now) old))) c.in-Ok.ensures.fits

pub returns-in-Err-clause-over : goal.returns-in-Err-clause-over
returns-in-Err-clause-over c =
    let old : joined c.deref.result.now ≡ c.args.self.now.records = search rules in
    λ e.
    let over = c.in-Err.ensures.over e in
    let z = (append_comm c.args.batch.now (joined c.deref.result.now)).counts over.0 in
    let y = ap (λ l. count over.0 (l ++ c.args.batch.now)) old in
    (over.0, omega (arith, z, y, over.1))
