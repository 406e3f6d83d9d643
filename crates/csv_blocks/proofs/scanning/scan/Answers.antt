use Rattle.std.proofs.Common.{◌∙◌, sym, arith, rules, ap, Some}
use Rattle.csv_strict.specs.declared.state.State.{State}
use Rattle.csv_blocks.proofs.Scans.{next-byte, no-byte, stuck-byte}
use Rattle.csv_blocks.proofs.scanning.scan.Goals.{then-eq, else-eq}
use Rattle.csv_blocks.proofs.scanning.scan.Goals as goal

pub loop-i-init : goal.loop-i-init
loop-i-init c = record { reached = no-byte (Some c.args.before); within = omega arith; ends = λ some. absurd (omega arith) }

pub loop-i-preserved-then-stays : goal.loop-i-preserved-then-stays
loop-i-preserved-then-stays c = record {
  reached = next-byte (Some c.args.before) c.args.bytes.now c.loop-i.i c.loop-i.state c.loop-i-test.true c.loop-i.invariant.reached ∙ c.stays.ensures c.if-stays.true;
  within = omega arith;
  ends = c.loop-i.invariant.ends;
}

pub returns-in_default-clause-refused : goal.returns-in_default-clause-refused
returns-in_default-clause-refused c =
    stuck-byte (Some c.args.before) c.args.bytes.now c.loop-i.i c.loop-i.state c.loop-i-test.true c.loop-i.invariant.reached (sym c.next.ensures ∙ c.in_default.is)

pub loop-i-preserved : goal.loop-i-preserved
loop-i-preserved c =
    let reached = next-byte (Some c.args.before) c.args.bytes.now c.loop-i.i c.loop-i.state c.loop-i-test.true c.loop-i.invariant.reached ∙ (sym c.next.ensures ∙ c.in-Some.is) in
    elim c.if-eq.branch [
      | then-eq w ↦ rw w.count-is (record { reached = reached; within = omega arith; ends = λ some. reached ∙ ap (λ (s : State). Some s) (search rules) })
      | else-eq w ↦ rw w.count-is (record { reached = reached; within = omega arith; ends = c.loop-i.invariant.ends })
    ]
