use Rattle.std.proofs.Common.{refl}
use Rattle.semantics.proofs.FoundByClosures.{closure_once, closure_more, closure_ends}
use Rattle.semantics.proofs.closures.law_closure.Goals as goal

pub returns-clause-none : goal.returns-clause-none
returns-clause-none c = λ f xs. refl

pub returns-clause-once : goal.returns-clause-once
returns-clause-once c = closure_once

pub returns-clause-more : goal.returns-clause-more
returns-clause-more c = closure_more

pub returns-clause-ends : goal.returns-clause-ends
returns-clause-ends c = closure_ends
