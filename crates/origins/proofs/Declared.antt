-- One name more in scope.
use Rattle.std.proofs.Common.{◌≡◌, List, ◌∷◌, map, ap, subst, sym}
use Rattle.origins.specs.Relations.{Entry}
use Rattle.origins.specs.Scopes.{entry_of}
use Rattle.origins.specs.declared.scope.Known as known

pub declared : (new old : List known.Known) (k : known.Known) (e : Entry) → new ≡ k ∷ old → entry_of k ≡ e → map entry_of new ≡ e ∷ map entry_of old
declared new old k e h g = subst (λ names. map entry_of names ≡ e ∷ map entry_of old) (sym h) (ap (λ x. x ∷ map entry_of old) g)
