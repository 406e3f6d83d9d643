-- A cell that isn't a text has no space and no line feed, and so has the word for a kind.
use Rattle.std.proofs.Common.{◌≡◌, ◌≢◌, ◌<◌, ◌/◌, ◌%◌, ◌^◌, ℕ, ℤ, pos, negsuc, suc, List, [], ◌∷◌}
use Rattle.std.proofs.Common.{◌++◌, Bool, true, false, cond, Some, None, decimal, nat_lt, sym, arith, FitsSigned, w64}
use Rattle.std.proofs.Math.Nat.{div-le_self}
use Rattle.decimal.proofs.Numbers.{fits_mag}
use Rattle.csv_cells.proofs.Rows.{some-once}
use Rattle.csv_cells.specs.Cells.{Stands}
use Rattle.csv_cells.specs.Numbers.{amount_text, clock_text, date_text, digits_text}
use Rattle.csv_cells.specs.declared.column.Kind.{Kind}
use Rattle.csv_cells.specs.declared.column.Kind.TheVariants.{Int, Decimal, Date, Time, Text}
use Rattle.schema_lines.specs.Words.{IsKind, Lacks, kind_text}
use Rattle.schema_lines.proofs.Each.{each-append}
use Rattle.schema_lines.proofs.Spelled.{along, decimal-lacks, digits-lack}

other : (byte b : ℕ) → byte < b → b ≢ byte
other byte b below = λ e. absurd (omega arith)

joined-lacks : (byte b : ℕ) (xs ys : List ℕ) → byte < b → Lacks byte xs → Lacks byte ys → Lacks byte (xs ++ b ∷ ys)
joined-lacks byte b xs ys below l m = each-append (λ c. c ≢ byte) xs (b ∷ ys) l (other byte b below, m)

amount-lacks : (byte places parts : ℕ) → byte < 45 → parts < 2 ^ 64 → Lacks byte (amount_text places parts)
amount-lacks byte places parts below fits =
    joined-lacks byte 46 (decimal (parts / 10 ^ places)) (digits_text places parts) (omega arith)
    (decimal-lacks byte (parts / 10 ^ places) (omega arith) (omega (arith, div-le_self parts (10 ^ places))))
    (digits-lack byte places parts (omega arith))

clock-lacks : (byte s : ℕ) → byte < 45 → Lacks byte (clock_text s)
clock-lacks byte s below =
    joined-lacks byte 58 (digits_text 2 (s / 3600)) (digits_text 2 (s / 60 % 60) ++ 58 ∷ digits_text 2 (s % 60)) (omega arith)
    (digits-lack byte 2 (s / 3600) (omega arith))
    (joined-lacks byte 58 (digits_text 2 (s / 60 % 60)) (digits_text 2 (s % 60)) (omega arith)
    (digits-lack byte 2 (s / 60 % 60) (omega arith)) (digits-lack byte 2 (s % 60) (omega arith)))

time-lacks : (byte s : ℕ) (b : Bool) (text : List ℕ) → byte < 45 → cond b (Some (clock_text s)) None ≡ Some text → Lacks byte text
time-lacks byte s true text below e = along byte (clock_text s) text (some-once (clock_text s) text e) (clock-lacks byte s below)
time-lacks byte s false text below e = cc e

date-lacks : (byte : ℕ) (year : ℤ) (month day : ℕ) (text : List ℕ) → byte < 45 → date_text year month day ≡ Some text → Lacks byte text
date-lacks byte (pos y) month day text below e =
    along byte (digits_text 4 y ++ 45 ∷ (digits_text 2 month ++ 45 ∷ digits_text 2 day)) text (some-once _ text e)
    (joined-lacks byte 45 (digits_text 4 y) (digits_text 2 month ++ 45 ∷ digits_text 2 day) below (digits-lack byte 4 y (omega arith))
    (joined-lacks byte 45 (digits_text 2 month) (digits_text 2 day) below (digits-lack byte 2 month (omega arith))
    (digits-lack byte 2 day (omega arith))))
date-lacks byte (negsuc n) month day text below e = cc e

pub cell-lacks : (byte : ℕ) (kind : Kind) (n : ℤ) (cell : List ℕ) → byte < 45 → FitsSigned w64 n → Stands kind [] n cell → Lacks byte cell
cell-lacks byte Int (pos m) cell below fits is = along byte (decimal m) cell (sym is)
    (decimal-lacks byte m (omega arith) (omega (arith, fits_mag (pos m) fits)))
cell-lacks byte Int (negsuc m) cell below fits is =
    along byte (45 ∷ decimal (suc m)) cell (sym is) (
      other byte 45 below,
      decimal-lacks byte (suc m) (omega arith)
          (omega (arith, fits_mag (negsuc m) fits)),
    )
cell-lacks byte (Decimal places) (pos m) cell below fits is =
    along byte (amount_text places m) cell is (amount-lacks byte places m below (omega (arith, fits_mag (pos m) fits)))
cell-lacks byte (Decimal places) (negsuc m) cell below fits is =
    along byte (45 ∷ amount_text places (suc m)) cell is
    (other byte 45 below, amount-lacks byte places (suc m) below (omega (arith, fits_mag (negsuc m) fits)))
cell-lacks byte Date n cell below fits is = date-lacks byte is.date.year is.date.month is.date.day cell below is.written
cell-lacks byte Time (pos s) cell below fits is = time-lacks byte s (nat_lt s 86400) cell below is
cell-lacks byte Time (negsuc s) cell below fits is = cc is
cell-lacks byte Text (pos m) cell below fits is = cc is
cell-lacks byte Text (negsuc m) cell below fits is = cc is

pub kind-lacks : (byte : ℕ) (kind : Kind) → byte < 40 → IsKind kind → Lacks byte (kind_text kind)
kind-lacks byte Int below right = (other byte 105 (omega arith), (other byte 110 (omega arith), (other byte 116 (omega arith), tt)))
kind-lacks byte (Decimal places) below right =
    let digits : Lacks byte (decimal places ++ 41 ∷ []) = each-append
    (λ b. b ≢ byte) (decimal places) (41 ∷ []) (decimal-lacks byte places (omega arith) (omega (arith, right.1)))
    (other byte 41 (omega arith), tt) in (
      other byte 100 (omega arith),
      (
        other byte 101 (omega arith),
        (
          other byte 99 (omega arith),
          (
            other byte 105 (omega arith),
            (other byte 109 (omega arith), (other byte 97 (omega arith), (other byte 108 (omega arith), (other byte 40 below, digits)))),
          ),
        ),
      ),
    )
kind-lacks byte Date below right =
    (other byte 100 (omega arith), (other byte 97 (omega arith), (other byte 116 (omega arith), (other byte 101 (omega arith), tt))))
kind-lacks byte Time below right =
    (other byte 116 (omega arith), (other byte 105 (omega arith), (other byte 109 (omega arith), (other byte 101 (omega arith), tt))))
kind-lacks byte Text below right =
    (other byte 116 (omega arith), (other byte 101 (omega arith), (other byte 120 (omega arith), (other byte 116 (omega arith), tt))))
