use Rattle.std.proofs.Common.{length}
use Rattle.schema.specs.Drafts.{IsDraft}
use Rattle.schema.specs.Schemas.{IsSchema, parts_of}
use Rattle.schema.specs.Steps.{Leads, state_of}
use Rattle.schema.specs.Text.{IsSchemaText}
use Rattle.schema.specs.declared.tables.Schema.{Schema}
use Rattle.schema.proofs.reading.read_lines.Given as goal

abbrev pub invariant-loop-rest : goal.invariant-loop-rest
invariant-loop-rest l = record {
  right : IsDraft l.draft;
  leads : (schema : Schema) → IsSchema schema → IsSchemaText schema l.text → Leads (state_of l.draft) l.rest (parts_of schema);
}

abbrev pub decreases-loop-rest : goal.decreases-loop-rest
decreases-loop-rest l = length l.rest
