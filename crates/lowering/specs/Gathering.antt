-- Names gathered, each once.
use Rattle.std.specs.Prelude.{Bool, cond, ◌||◌, List, [], ◌∷◌, ◌++◌}
use Rattle.semantics.specs.Query.{Name}
use Rattle.semantics.specs.FreeNames.{has}

-- those before, and at the end what is neither bound nor among them already
abbrev pub gathered : List Name → List Name → List Name → List Name
gathered bound before [] = before
gathered bound before (y ∷ ys) = gathered bound (cond (has y bound || has y before) before (before ++ (y ∷ []))) ys
