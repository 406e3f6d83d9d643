use Rattle.semantics.proofs.RoutedParts.{home_below, equal_keys_meet, routed_sum, routed_cut}
use Rattle.semantics.proofs.routing.law_routing.Goals as goal

pub returns-clause-worker : goal.returns-clause-worker
returns-clause-worker c = home_below

pub returns-clause-equal_keys_meet : goal.returns-clause-equal_keys_meet
returns-clause-equal_keys_meet c = equal_keys_meet

pub returns-clause-sum : goal.returns-clause-sum
returns-clause-sum c = routed_sum

pub returns-clause-cut : goal.returns-clause-cut
returns-clause-cut c = routed_cut
