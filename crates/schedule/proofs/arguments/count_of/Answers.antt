use Rattle.std.proofs.Common.{◌≡◌, ◌∙◌, arith, sym}
use Rattle.std.proofs.lemmas.Fmt.{decimal_injective}
use Rattle.schedule.proofs.arguments.count_of.Goals as goal

pub returns-else-count-le4294967295-clause-none : goal.returns-else-count-le4294967295-clause-none
returns-else-count-le4294967295-clause-none c = λ n lt e.
    let same : c.in-Some.count ≡ n = decimal_injective c.in-Some.count n (omega arith) (omega arith) (sym c.in-Some.ensures.found ∙ e) in
    omega (arith, c.if-count-le4294967295.false)
