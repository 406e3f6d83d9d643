use Rattle.origins.proofs.Declared.{declared}
use Rattle.origins.proofs.scope.Scope.declare.Goals as goal

pub returns : goal.returns
returns c =
    declared _ _ _ _ c.in_ok-push_front.ensures.items c.new-known.ensures
