use Rattle.std.proofs.Common.{[], ◌∙◌, sym, arith}
use Rattle.csv.proofs.ReadFacts.{on-ok}
use Rattle.csv_answers.proofs.Written.{none-begun, one-begun}
use Rattle.csv_answers.proofs.writing.begin_record.Goals as goal

pub returns-in_default : goal.returns-in_default
returns-in_default c = λ b. rw c.in_default.is (none-begun c.args.writer.now b)

pub returns : goal.returns
returns c = λ b.
    let r = c.write_field.result in
    let good = sym c.is_err.ensures.value ∙ c.if-is_err.false in
    let e = c.write_field.ensures in
    rw c.in-Some.is (one-begun c.args.writer.now c.args.writer.now c.write_field.new.self [] c.in-Some.cell.now (none-begun c.args.writer.now b) (omega arith)
    (on-ok r good e.text) (on-ok r good e.same) (on-ok r good e.count) (on-ok r good e.wrote) (on-ok r good e.stays))
