use Rattle.semantics.proofs.FoundByClosures.{closure_of_linear}
use Rattle.semantics.proofs.closures.law_closure_of_linear.Goals as goal

pub returns : goal.returns
returns c = closure_of_linear
