use Rattle.std.proofs.Common.{◌∙◌, ℕ, List, ap, sym, false}
use Rattle.std.specs.Prelude.{Some}
use Rattle.semantics.specs.Meaning.{project}
use Rattle.semantics.specs.Multiset.{Record}
use Rattle.semantics.specs.Route.{home_by}
use Rattle.exchange.specs.Homes.{home_of}
use Rattle.exchange.proofs.routing.Routing.copy.Goals as goal

pub returns-in_ok-from_slice-in-ByKey : goal.returns-in_ok-from_slice-in-ByKey
returns-in_ok-from_slice-in-ByKey c =
    let by : List ℕ → ℕ → ℕ → Record → ℕ = λ xs w s r. home_by (Some (project xs)) false w s r in
    ap by (c.in_ok-from_slice-in-ByKey.ensures.items ∙ c.deref.ensures.value) ∙ ap home_of (sym c.in-ByKey.is)
