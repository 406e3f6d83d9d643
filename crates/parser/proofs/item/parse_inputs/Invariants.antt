use Rattle.std.proofs.Common.{length}
use Rattle.parser.proofs.Items.{InputsOn}
use Rattle.parser.proofs.item.parse_inputs.Given as goal

abbrev pub invariant-items : goal.invariant-items
invariant-items g l = InputsOn l.text l.tokens l.inputs.items l.rest

abbrev pub decreases-items : goal.decreases-items
decreases-items g l = length l.rest
