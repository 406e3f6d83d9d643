use Rattle.std.proofs.Common.{rules, ℕ, ℤ, Bool, true, false, List, FitsSigned, w64}
use Rattle.std.proofs.Math.Facts.{to_z-of_z}
use Rattle.std.proofs.lemmas.Result.{IfOk-weaker}
use Rattle.scalar_texts.specs.Numbers.{WritesDate}
use Rattle.text_dictionary.specs.Texts.{texts_of}
use Rattle.csv_cells.specs.Cells.{WritesKind}
use Rattle.csv_cells.specs.declared.column.Kind.TheVariants.{Date}
use Rattle.csv_cells.proofs.cell.write_kind.Goals as goal

-- in a column of dates
date_kind : (texts : List (List ℕ)) (z : ℤ) (old new : List ℕ) (wrote : Bool) → WritesDate z old new wrote → WritesKind Date texts z old new wrote
date_kind texts z old new true w = w
date_kind texts z old new false w = w

pub returns-in-Date : goal.returns-in-Date
returns-in-Date c =
    let fits : FitsSigned w64 c.args.z = search rules in
    rw c.in-Date.is (IfOk-weaker c.push_date.result _ _ (λ b w. date_kind (texts_of c.args.dictionary.now) c.args.z _ _ b (rw (to_z-of_z fits) at w)) c.push_date.ensures)
