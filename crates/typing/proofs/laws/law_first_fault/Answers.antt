use Rattle.typing.proofs.DecidedPrograms.{decided, apart, one_fault, same_arities}
use Rattle.typing.proofs.laws.law_first_fault.Goals as goal

pub returns : goal.returns
returns c = record { decided = decided; apart = apart; one_fault = one_fault; same_arities = same_arities }
