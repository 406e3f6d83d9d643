-- Where the values of the fields of a loop's variable come from.
use Rattle.std.specs.Prelude.{ℕ, cond, List, map, length}
use Rattle.semantics.specs.Meaning.{repeated}
use Rattle.field_origins.specs.Sources.{Origin, merged, traced, same_origins}

-- of a loop's variable v after one more turn, by what a turn makes of v's fields
abbrev pub turned : (v : ℕ) → (turn : List Origin) → List Origin → List Origin
turned v turn os = merged os (map (traced v os) turn)

-- these, if one more turn adds nothing
abbrev pub closed : (v : ℕ) → (turn : List Origin) → List Origin → List Origin
closed v turn os = cond (same_origins (turned v turn os) os) os (map (λ o. Origin.computed) os)

-- Of a loop: those of its start, and what turns add. A turn only carries fields to fields, so what reaches a field does so in as many turns as there are
-- fields.
abbrev pub settled : (v : ℕ) → (turn : List Origin) → (start : List Origin) → List Origin
settled v turn start = closed v turn (repeated (turned v turn) (length start) start)
