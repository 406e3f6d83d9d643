use Rattle.semantics.proofs.MultisetSums.{less-append}
use Rattle.semantics.proofs.multisets.law_gained.Goals as goal

pub returns : goal.returns
returns c = less-append
