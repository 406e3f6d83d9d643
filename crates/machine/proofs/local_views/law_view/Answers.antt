use Rattle.machine.proofs.LocalViews.{none, no_other, exact_none, exact_no_other, applied, posted_more}
use Rattle.machine.proofs.local_views.law_view.Goals as goal

pub returns-clause-none : goal.returns-clause-none
returns-clause-none c = none

pub returns-clause-no_other : goal.returns-clause-no_other
returns-clause-no_other c = no_other

pub returns-clause-exact_none : goal.returns-clause-exact_none
returns-clause-exact_none c = exact_none

pub returns-clause-exact_no_other : goal.returns-clause-exact_no_other
returns-clause-exact_no_other c = exact_no_other

pub returns-clause-apply : goal.returns-clause-apply
returns-clause-apply c = applied

pub returns-clause-post : goal.returns-clause-post
returns-clause-post c = posted_more
