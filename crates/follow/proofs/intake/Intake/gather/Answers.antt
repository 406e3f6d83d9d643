use Rattle.std.proofs.Common.{◌≡◌, ◌∙◌, ◌∷◌, ◌++◌, [], ap, refl, rules}
use Rattle.std.proofs.lemmas.List.{length-set}
use Rattle.rows.specs.FlatRows.{RowList}
use Rattle.follow.proofs.Waiting.{at_place, one_more, set_arities, set_rows}
use Rattle.follow.proofs.intake.Intake.gather.Goals as goal

pub returns : goal.returns
returns c =
    let x = c.args.self.now in
    let items = x.portion.items in
    let n = c.args.input in
    let new = c.push.new.self in
    let old = c.index_mut.result.now in
    let here = at_place items n old c.index_mut.ensures.value c.requires.there in
    let same : new.arity ≡ old.arity = search rules in
    let more : new.rows ≡ old.rows ++ c.args.row.now ∷ [] = search rules in
    record {
      some = c.requires.some;
      holds = record { begun = refl; line = refl; inputs = length-set items n new; arities = set_arities items n new (same ∙ ap (λ (r : RowList). r.arity) here) };
      waits = λ i. set_rows items n new i c.requires.there ∙ one_more items n i new c.args.row.now (more ∙ ap (λ (r : RowList). r.rows ++ c.args.row.now ∷ []) here);
    }
