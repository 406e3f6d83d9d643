use Rattle.std.proofs.Common.{rules, ◌≢◌, FitsSigned, w64}
use Rattle.std.proofs.Math.Facts.{to_z-of_z}
use Rattle.csv_cells.specs.declared.column.Kind.TheVariants.{Text}
use Rattle.schema_lines.proofs.SaidLines.{value-number}
use Rattle.schema_lines.proofs.lines.empty_of.Goals as goal

pub returns-in-Ok-Some : goal.returns-in-Ok-Some
returns-in-Ok-Some c =
    let plain : c.args.kind ≢ Text = search rules in
    let small : FitsSigned w64 c.in-Ok-Some.number = search rules in
    rw (to_z-of_z small) record {
      right = (small, (c.args.value.now, rw c.in-Ok-Some.field-0-is at (c.in-Ok-Some.ensures.found plain)));
      read = λ empty right is. value-number c.args.kind empty c.in-Ok-Some.number c.args.value.now plain
          (rw c.in-Ok-Some.field-0-is at (c.in-Ok-Some.ensures.only plain)) right is;
    }
