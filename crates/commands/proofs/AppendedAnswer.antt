-- What a run appends to nothing is its answer.
use Rattle.std.proofs.Common.{◌≡◌, List, [], ℕ, Option, Some, Ok, sym, subst}
use Rattle.commands.specs.Runs.{Ends, IsRun}

pub run_of : (query input answer : List ℕ) (old new : Option (List ℕ)) → old ≡ Some [] → new ≡ Some answer → Ends query input old new (Ok tt) → IsRun query input answer
run_of query input answer old new ho hn e =
    let e1 = subst (λ z. Ends query input z new (Ok tt)) ho e in
    let e2 = subst (λ z. Ends query input (Some []) z (Ok tt)) hn e1 in
    subst (IsRun query input) (sym e2.2) e2.1
