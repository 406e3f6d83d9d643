use Rattle.std.proofs.Common.{◌++◌, List, subst, sym}
use Rattle.semantics.specs.Query.{Input}
use Rattle.graph.specs.Shown.{shown_inputs}
use Rattle.collector.specs.Piecewise.{HasRead, row_line}
use Rattle.commands.proofs.TakenLines.{reads_same, still_reads, still_same}
use Rattle.commands.proofs.intake.take_record.Goals as goal

pub invariant_of-intake-then-is_taken : goal.invariant_of-intake-then-is_taken
invariant_of-intake-then-is_taken c =
    let intake = c.args.intake.now in
    let line = row_line c.args.name.now c.args.row.now in
    record {
      taken = still_reads (shown_inputs intake.graph) line intake.reader c.take_row.new.self
          (λ text has.
          subst (λ (is : List Input). HasRead is (text ++ line) c.take_row.new.self) c.inputs.ensures
          (c.in_ok-is_taken.ensures.read text (subst (λ (is : List Input). HasRead is text intake.reader) (sym c.inputs.ensures) has) c.if-is_taken.true))
          c.in_ok-is_taken.ensures.stays intake.taken;
    }

pub invariant_of-intake-else-is_taken : goal.invariant_of-intake-else-is_taken
invariant_of-intake-else-is_taken c =
    let intake = c.args.intake.now in
    record { taken = still_same (shown_inputs intake.graph) intake.reader c.take_row.new.self (c.in_ok-is_taken.ensures.same c.if-is_taken.false) intake.taken }

pub returns-then-is_taken-clause-taken : goal.returns-then-is_taken-clause-taken
returns-then-is_taken-clause-taken c = λ text has taken.
    let line = row_line c.args.name.now c.args.row.now in
    subst (λ (is : List Input). HasRead is (text ++ line) c.take_row.new.self) c.inputs.ensures
    (c.in_ok-is_taken.ensures.read text (subst (λ (is : List Input). HasRead is text c.args.intake.now.reader) (sym c.inputs.ensures) has) taken)

pub returns-else-is_taken-clause-same : goal.returns-else-is_taken-clause-same
returns-else-is_taken-clause-same c = λ text has refused.
    reads_same (shown_inputs c.args.intake.now.graph) text c.args.intake.now.reader c.take_row.new.self (c.in_ok-is_taken.ensures.same refused) has
