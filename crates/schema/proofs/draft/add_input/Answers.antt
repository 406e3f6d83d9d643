use Rattle.std.proofs.Common.{◌∙◌, ap, map, refl}
use Rattle.std.proofs.lemmas.List.{map_push}
use Rattle.schema.specs.Schemas.{said}
use Rattle.schema.proofs.Right.{tables-more}
use Rattle.schema.proofs.draft.add_input.Goals as goal

pub returns-clause-right : goal.returns-clause-right
returns-clause-right c = λ so right new.
    record {
      inputs = tables-more c.args.schema.inputs.items c.push.new.self.items c.args.table c.in_ok-push.ensures.items so.inputs right new;
      outputs = so.outputs;
      no_epochs = so.no_epochs;
      constants = so.constants;
    }

pub returns-clause-made : goal.returns-clause-made
returns-clause-made c = rw (ap (map said) c.in_ok-push.ensures.items ∙ map_push said c.args.schema.inputs.items c.args.table) refl
