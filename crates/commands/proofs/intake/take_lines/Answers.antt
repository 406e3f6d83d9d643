use Rattle.std.proofs.Common.{◌++◌, List, subst, sym}
use Rattle.semantics.specs.Query.{Input}
use Rattle.graph.specs.Shown.{shown_inputs}
use Rattle.collector.specs.Piecewise.{HasRead}
use Rattle.commands.proofs.TakenLines.{still_reads}
use Rattle.commands.proofs.intake.take_lines.Goals as goal

pub invariant_of-intake-2 : goal.invariant_of-intake-2
invariant_of-intake-2 c =
    let intake = c.args.intake.now in
    let lines = c.args.lines.now in
    record {
      taken = still_reads (shown_inputs intake.graph) lines intake.reader c.take.new.self
          (λ text has.
          subst (λ (is : List Input). HasRead is (text ++ lines) c.take.new.self) c.inputs.ensures
          (c.in_ok-take.ensures.read text (subst (λ (is : List Input). HasRead is text intake.reader) (sym c.inputs.ensures) has)))
          c.in_ok-take.ensures.stays intake.taken;
    }

pub returns-clause-taken : goal.returns-clause-taken
returns-clause-taken c = λ text has.
    let intake = c.args.intake.now in
    subst (λ (is : List Input). HasRead is (text ++ c.args.lines.now) c.take.new.self) c.inputs.ensures
    (c.in_ok-take.ensures.read text (subst (λ (is : List Input). HasRead is text intake.reader) (sym c.inputs.ensures) has))
