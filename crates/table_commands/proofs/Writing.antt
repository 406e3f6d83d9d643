-- From what was read to what was written.
use Rattle.std.proofs.Common.{ℕ, Bool, List, Option}
use Rattle.std.specs.Io.KnownBytes.{Appends}
use Rattle.query_kinds.specs.Listed.{IsListed}
use Rattle.schema.specs.declared.tables.Schema.{Schema}
use Rattle.table_commands.specs.Done.{HasDecoded, HasEncoded, HasListedKinds, IsDecodedBy, Known, WritesInput}
use Rattle.table_commands.specs.Read.{AreNamed, IsKnownAs, IsReadSchema}

pub listed-kinds : (known : Known) (name query listing : List ℕ) (old new : Option (List ℕ))
    → ((schema : Schema) × IsReadSchema (known name) schema × (text : List ℕ) × IsKnownAs (known query) text × IsListed text schema listing)
    → Appends old new listing → HasListedKinds known name query old new
listed-kinds known name query listing old new (schema, is, text, read, listed) w = record {
  schema = schema;
  text = text;
  listing = listing;
  schema_read = is;
  read = read;
  listed = listed;
  written = w;
}

pub encoded : (known : Known) (name : List ℕ) (words paths : List (List ℕ)) (dictionary : Option (List ℕ)) (mark : Bool) (schema : Schema)
    (old new : Option (List ℕ))
    → IsReadSchema (known name) schema → AreNamed schema.inputs.items words paths → WritesInput known schema paths dictionary mark old new
    → HasEncoded known name words dictionary mark old new
encoded known name words paths dictionary mark schema old new is named w = record {
  schema = schema;
  paths = paths;
  read = is;
  named = named;
  written = w;
}

pub decoded : (known : Known) (name answer : List ℕ) (dictionary output : Option (List ℕ)) (file : List ℕ) (old new : Option (List ℕ))
    → ((schema : Schema) × IsReadSchema (known name) schema × IsDecodedBy known schema answer dictionary output file)
    → Appends old new file → HasDecoded known name answer dictionary output old new
decoded known name answer dictionary output file old new (schema, is, by) w = record { schema = schema; file = file; read = is; decoded = by; written = w }
