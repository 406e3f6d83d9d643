use Rattle.std.proofs.Common.{arith, rules}
use Rattle.grammar.specs.Phrases.{Unread}
use Rattle.grammar.specs.Programs.{Lets}
use Rattle.grammar.specs.Texts.{max_height}
use Rattle.parser.specs.Items.{NoInputs, NoOutputs}
use Rattle.parser.specs.Refusals.{NoProgram}
use Rattle.parser.proofs.Faults.{denied_with, passed_on}
use Rattle.parser.proofs.Programs.{no_inputs, no_lets, no_outputs, program_at}
use Rattle.parser.proofs.program.parse_program.Goals as goal

pub returns-in_err-inputs-clause-denied : goal.returns-in_err-inputs-clause-denied
returns-in_err-inputs-clause-denied g c =
    passed_on c.from_residual.result c.in_err-inputs.field-0.0 (NoProgram c.args.text.now c.args.tokens.now) max_height (search rules)
    (denied_with (λ m. NoInputs c.args.text.now c.args.tokens.now) (NoProgram c.args.text.now c.args.tokens.now) c.in_err-inputs.field-0.0 max_height (λ m u. no_inputs _ _ m u) (c.in_err-inputs.ensures.denied max_height))

pub returns-in_err-lets-clause-denied : goal.returns-in_err-lets-clause-denied
returns-in_err-lets-clause-denied g c =
    passed_on c.from_residual-in_err-lets.result c.in_err-lets.field-0.0 (NoProgram c.args.text.now c.args.tokens.now) max_height (search rules)
    (denied_with (Unread (Lets c.args.text.now) c.in_ok-inputs.second.now) (NoProgram c.args.text.now c.args.tokens.now) c.in_err-lets.field-0.0 max_height (λ m u. no_lets _ _ _ _ m c.in_ok-inputs.ensures.found u) c.in_err-lets.ensures.denied)

pub returns-in_err-outputs-clause-denied : goal.returns-in_err-outputs-clause-denied
returns-in_err-outputs-clause-denied g c =
    passed_on c.from_residual-in_err-outputs.result c.in_err-outputs.field-0.0 (NoProgram c.args.text.now c.args.tokens.now) max_height (search rules)
    (denied_with (NoOutputs c.args.text.now c.in_ok-lets.third.now) (NoProgram c.args.text.now c.args.tokens.now) c.in_err-outputs.field-0.0 max_height (λ m u. no_outputs _ _ _ _ _ _ _ m c.in_ok-inputs.ensures.found c.in_ok-lets.ensures.found u) c.in_err-outputs.ensures.denied)

pub returns-clause-found : goal.returns-clause-found
returns-clause-found g c =
    (_, program_at _ _ _ _ _ _ _ c.in_ok-inputs.ensures.found c.in_ok-lets.ensures.found c.in_ok-outputs.ensures.found, omega (arith, c.in_ok-lets.ensures.low, c.in_ok-outputs.ensures.low))
