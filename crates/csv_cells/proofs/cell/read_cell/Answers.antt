use Rattle.std.proofs.Common.{rules, ◌∙◌, Some, FitsSigned, w64, ap}
use Rattle.std.proofs.Math.Facts.{to_z-of_z}
use Rattle.csv_cells.proofs.Rows.{number-empty}
use Rattle.csv_cells.proofs.cell.read_cell.Goals as goal

pub returns-in-Number-clause-only : goal.returns-in-Number-clause-only
returns-in-Number-clause-only c = λ z fits s.
    let small : FitsSigned w64 c.in-Number.number = search rules in
    ap Some (to_z-of_z small ∙ number-empty c.args.column.kind _ c.in-Number.number z c.args.cell.now (search rules) (rw c.in-Number.is at s))
