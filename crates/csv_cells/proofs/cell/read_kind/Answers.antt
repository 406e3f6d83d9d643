use Rattle.std.proofs.Common.{rules, ◌≡◌, ◌∙◌, Some, FitsSigned, w64, ap, sym}
use Rattle.std.specs.Fmt.{signed_decimal}
use Rattle.std.proofs.Math.Facts.{to_z-of_z}
use Rattle.std.proofs.lemmas.Fmt.{signed_decimal_injective}
use Rattle.decimal.proofs.Numbers.{fits_mag}
use Rattle.csv_cells.proofs.cell.read_kind.Goals as goal

pub returns-in-Some-clause-only : goal.returns-in-Some-clause-only
returns-in-Some-clause-only c = λ z fits s.
    let small : FitsSigned w64 c.in-Some.z = search rules in
    let spelled : c.args.text.now ≡ signed_decimal z = rw c.in-Int.is at s in
    ap Some (to_z-of_z small ∙ signed_decimal_injective c.in-Some.z z (fits_mag c.in-Some.z small) (fits_mag z fits) (sym c.in-Some.ensures.found ∙ spelled))
