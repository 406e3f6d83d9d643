use Rattle.std.proofs.Common.{◌∙◌, ap, map, refl}
use Rattle.std.proofs.lemmas.List.{map_push}
use Rattle.schema.specs.Schemas.{said}
use Rattle.schema.proofs.Right.{ones-more, tables-more}
use Rattle.schema.proofs.draft.add_output.Goals as goal

pub returns-clause-right : goal.returns-clause-right
returns-clause-right c = λ so right new one.
    record {
      inputs = so.inputs;
      outputs = tables-more c.args.schema.outputs.items c.push.new.self.items c.args.table c.in_ok-push.ensures.items so.outputs right new;
      no_epochs = ones-more c.args.schema.outputs.items c.push.new.self.items c.args.table c.in_ok-push.ensures.items so.no_epochs one;
      constants = so.constants;
    }

pub returns-clause-made : goal.returns-clause-made
returns-clause-made c = rw (ap (map said) c.in_ok-push.ensures.items ∙ map_push said c.args.schema.outputs.items c.args.table) refl
