-- A loop's origins, put together of what the code finds.
use Rattle.std.proofs.Common.{◌≡◌, ℕ, suc, List, ◌∷◌, length, refl}
use Rattle.semantics.specs.Query.{Name, Rel}
use Rattle.origins.specs.Relations.{Scope, entry, looped, rel_origins}
use Rattle.field_origins.specs.Loops.{settled}
use Rattle.field_origins.specs.Sources.{Origin, columns_from}
use Rattle.origins.specs.Steps.{turn_origins}

pub looped_of : (b : Rel) (x : Name) (scope inside : Scope) (v w : ℕ) (start turn own : List Origin) → w ≡ suc v → own ≡ columns_from v 0 (length start) → inside ≡ entry x own ∷ scope → turn ≡ rel_origins b inside w → settled v turn start ≡ looped v (turn_origins b x scope v) start
looped_of b x scope inside v w start turn own next columns declared found = rw (found, declared, columns, next) refl
