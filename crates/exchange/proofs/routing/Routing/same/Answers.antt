use Rattle.std.proofs.Common.{◌∙◌, ℕ, List, ap, sym, false}
use Rattle.std.specs.Prelude.{Some}
use Rattle.semantics.specs.Meaning.{project}
use Rattle.semantics.specs.Multiset.{Record}
use Rattle.semantics.specs.Route.{home_by}
use Rattle.exchange.specs.Homes.{home_of}
use Rattle.exchange.proofs.routing.Routing.same.Goals as goal

pub returns-in-ByKey-ByKey : goal.returns-in-ByKey-ByKey
returns-in-ByKey-ByKey c = λ equal.
    let by : List ℕ → ℕ → ℕ → Record → ℕ = λ xs w s r. home_by (Some (project xs)) false w s r in
    ap home_of c.in-ByKey-ByKey.is-0 ∙ ap by (sym c.deref.ensures.value ∙ c.same_columns.ensures equal ∙ c.deref-in-ByKey-ByKey.ensures.value) ∙ sym (ap home_of c.in-ByKey-ByKey.is-1)
