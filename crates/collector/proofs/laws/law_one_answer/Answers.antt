use Rattle.std.proofs.Common.{arith}
use Rattle.collector.proofs.OneOrder.{one_answer}
use Rattle.collector.proofs.laws.law_one_answer.Goals as goal

pub returns : goal.returns
returns c names r s count t u each a b = one_answer c.law_equal_multisets.ensures.reordered names r s 0 count t u (λ k e m n. each k e m (omega (arith, n))) a b
