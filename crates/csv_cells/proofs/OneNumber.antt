-- A cell has one number, but for the places of texts.
use Rattle.std.proofs.Common.{◌≡◌, ◌≢◌, ◌∙◌, ℕ, ℤ, List, FitsSigned, w64, refl, sym, inl, inr}
use Rattle.std.proofs.lemmas.Fmt.{signed_decimal_injective}
use Rattle.decimal.proofs.Numbers.{fits_mag}
use Rattle.scalar_texts.proofs.OneNumber.{one-date, one-decimal, one-time}
use Rattle.csv_cells.specs.Cells.{Stands, StandsWith}
use Rattle.csv_cells.specs.declared.column.Column.{Column}
use Rattle.csv_cells.specs.declared.column.Empty.{Empty}
use Rattle.csv_cells.specs.declared.column.Empty.TheVariants.{Refused, Kept, Number}
use Rattle.csv_cells.specs.declared.column.Kind.{Kind}
use Rattle.csv_cells.specs.declared.column.Kind.TheVariants as kind

one-kind : (k : Kind) (texts others : List (List ℕ)) (y z : ℤ) (cell : List ℕ) → k ≢ kind.Text → FitsSigned w64 y → FitsSigned w64 z → Stands k texts y cell → Stands k others z cell → y ≡ z
one-kind kind.Int texts others y z cell other fy fz sy sz = signed_decimal_injective y z (fits_mag y fy) (fits_mag z fz) (sym sy ∙ sz)
one-kind (kind.Decimal places) texts others y z cell other fy fz sy sz = one-decimal places y z cell fy fz sy sz
one-kind kind.Date texts others y z cell other fy fz sy sz = one-date y z cell sy sz
one-kind kind.Time texts others y z cell other fy fz sy sz = one-time y z cell sy sz
one-kind kind.Text texts others y z cell other fy fz sy sz = absurd (other refl)

one-with : (e : Empty) (k : Kind) (texts others : List (List ℕ)) (y z : ℤ) (cell : List ℕ) → k ≢ kind.Text → FitsSigned w64 y → FitsSigned w64 z → StandsWith e k texts y cell → StandsWith e k others z cell → y ≡ z
one-with Refused k texts others y z cell other fy fz sy sz = one-kind k texts others y z cell other fy fz sy.1 sz.1
one-with Kept k texts others y z cell other fy fz sy sz = one-kind k texts others y z cell other fy fz sy sz
one-with (Number n) k texts others y z cell other fy fz (inl sy) (inl sz) = sy.0 ∙ sym sz.0
one-with (Number n) k texts others y z cell other fy fz (inl sy) (inr sz) = absurd (sz.1 sy.1)
one-with (Number n) k texts others y z cell other fy fz (inr sy) (inl sz) = absurd (sy.1 sz.1)
one-with (Number n) k texts others y z cell other fy fz (inr sy) (inr sz) = one-kind k texts others y z cell other fy fz sy.2 sz.2

pub one-number : (column : Column) (texts others : List (List ℕ)) (y z : ℤ) (cell : List ℕ) → column.kind ≢ kind.Text → FitsSigned w64 y → FitsSigned w64 z
    → StandsWith column.empty column.kind texts y cell → StandsWith column.empty column.kind others z cell → y ≡ z
one-number column texts others y z cell other fy fz sy sz = one-with column.empty column.kind texts others y z cell other fy fz sy sz
