use Rattle.std.proofs.Common.{◌≡◌, ◌∙◌, sym, arith}
use Rattle.std.proofs.lemmas.Fmt.{decimal_injective}
use Rattle.lexer.proofs.spelling.literal.Goals as goal

pub returns-else-n-lt9223372036854775808-clause-none : goal.returns-else-n-lt9223372036854775808-clause-none
returns-else-n-lt9223372036854775808-clause-none c = λ m lt e. let same : c.in-Some.n ≡ m = decimal_injective c.in-Some.n m (omega arith) (omega arith) (sym c.in-Some.ensures.found ∙ e) in absurd (omega arith)
