-- The origins that are shown by those in memory.
use Rattle.std.specs.Prelude.{List, map}
use Rattle.field_origins.specs.declared.source.Origin as declared
use Rattle.field_origins.specs.declared.source.Origin.TheVariants as variant
use Rattle.field_origins.specs.Sources.{Origin}

-- of a field
abbrev pub origin : declared.Origin → Origin
origin variant.Computed = Origin.computed
origin (variant.Taken sources) = Origin.taken sources.items

-- of fields
abbrev pub origins : List declared.Origin → List Origin
origins os = map origin os
