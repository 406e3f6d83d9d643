use Rattle.std.proofs.Common.{◌≡◌, ◌∙◌, [], cond, ap, refl, rules, List}
use Rattle.std.specs.Prelude.{◌==◌}
use Rattle.std.proofs.lemmas.List.{length-set}
use Rattle.rows.specs.FlatRows.{RowList}
use Rattle.semantics.specs.Multiset.{Record}
use Rattle.follow.specs.Scenes.{waiting}
use Rattle.follow.proofs.Waiting.{at_place, set_arities, set_rows}
use Rattle.follow.proofs.intake.take_rows.Goals as goal

pub returns-clause-empties : goal.returns-clause-empties
returns-clause-empties c =
    let x = c.args.intake.now in
    let items = x.portion.items in
    let n = c.args.input in
    let new = c.replace.new.dest in
    let here = at_place items n c.index.result.now c.index.ensures c.requires in
    let there = at_place items n c.index_mut.result.now c.index_mut.ensures.value c.requires in
    let same : new.arity ≡ c.index.result.now.arity = search rules in
    let none : new.rows ≡ [] = search rules in
    record {
      holds = record { begun = refl; line = refl; inputs = length-set items n new; arities = set_arities items n new (same ∙ ap (λ (r : RowList). r.arity) here) };
      taken = ap (λ (r : RowList). r.rows) (c.replace.ensures.value ∙ there);
      waits = λ i. set_rows items n new i c.requires ∙ ap (λ (rows : List Record). cond (i == n) rows (waiting x i)) none;
    }
