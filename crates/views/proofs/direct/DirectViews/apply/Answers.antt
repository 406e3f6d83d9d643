use Rattle.std.proofs.Common.{refl}
use Rattle.views.specs.Waiting.{IsApplied}
use Rattle.views.proofs.direct.DirectViews.apply.Goals as goal

pub returns-clause-applied : goal.returns-clause-applied
returns-clause-applied g c = IsApplied.none refl refl
