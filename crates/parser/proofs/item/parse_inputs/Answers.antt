use Rattle.parser.proofs.Faults.{denied_anyhow}
use Rattle.parser.proofs.Items.{inputs_begin, inputs_go_on, inputs_end, inputs_none}
use Rattle.parser.proofs.item.parse_inputs.Goals as goal

pub items-init : goal.items-init
items-init g c = inputs_begin _ _ c.new-inputs.result.items c.new-inputs.ensures.items

pub returns-in_err-next-clause-denied : goal.returns-in_err-next-clause-denied
returns-in_err-next-clause-denied g c =
    denied_anyhow c.from_residual.result _ (λ m. inputs_none _ _ _ _ _ _ c.items.invariant c.in-Some.ensures c.in_err-next.ensures.none)

pub items-preserved : goal.items-preserved
items-preserved g c = inputs_go_on _ _ _ _ _ _ _ _ _ c.items.invariant c.in-Some.ensures c.in_ok-next.ensures.found c.in_ok-push.ensures.items

pub returns-clause-found : goal.returns-clause-found
returns-clause-found g c = inputs_end _ _ _ _ c.items.invariant c.in_default.ensures
