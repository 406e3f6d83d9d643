-- Times, amounts and dates as texts.
use Rattle.std.specs.Prelude.{◌≡◌, ◌+◌, ◌-◌, ◌*◌, ◌/◌, ◌%◌, ◌^◌, nat_lt, decimal, zero, suc, if◌then◌else◌, ℕ, ℤ, pos, negsuc, Bool, true, false, List, [], ◌∷◌, ◌++◌, Option, Some, None}
use Rattle.jiff_core.specs.declared.civil.date.Date.{Date}
use Rattle.jiff_core.specs.Date.{epoch_day}

-- the last digits of a number, that many
abbrev pub digits_text : ℕ → ℕ → List ℕ
digits_text zero n = []
digits_text (suc count) n = digits_text count (n / 10) ++ (48 + n % 10) ∷ []

-- a number with digits behind it
unfoldable pub joined : ℕ → List ℕ → ℕ
joined n [] = n
joined n (b ∷ bs) = joined (n * 10 + (b - 48)) bs

-- hours, minutes and seconds, `HH:MM:SS`
abbrev pub clock_text : ℕ → List ℕ
clock_text s = digits_text 2 (s / 3600) ++ 58 ∷ (digits_text 2 (s / 60 % 60) ++ 58 ∷ digits_text 2 (s % 60))

-- the time of day that many seconds after midnight
abbrev pub time_text : ℤ → Option (List ℕ)
time_text (pos s) = if nat_lt s 86400 then Some (clock_text s) else None
time_text (negsuc n) = None

-- that many parts, of which a whole has a power of ten
abbrev pub amount_text : ℕ → ℕ → List ℕ
amount_text places parts = decimal (parts / 10 ^ places) ++ 46 ∷ digits_text places parts

abbrev pub decimal_text : ℕ → ℤ → List ℕ
decimal_text places (pos n) = amount_text places n
decimal_text places (negsuc n) = 45 ∷ amount_text places (suc n)

-- `YYYY-MM-DD`, from year 0 on
abbrev pub date_text : ℤ → ℕ → ℕ → Option (List ℕ)
date_text (pos year) month day = Some (digits_text 4 year ++ 45 ∷ (digits_text 2 month ++ 45 ∷ digits_text 2 day))
date_text (negsuc n) month day = None

-- the text is of the date with that day number, where 1970-01-01 is 0
pub record IsDateText (number : ℤ) (text : List ℕ) : Type 0 where
  pub date : Date
  pub numbered : epoch_day date ≡ number
  pub written : date_text date.year date.month date.day ≡ Some text

-- there is a text and it is appended, or there is none
abbrev pub Writes : Option (List ℕ) → (old new : List ℕ) → Bool → Type 0
Writes None old new wrote = wrote ≡ false
Writes (Some text) old new wrote = (wrote ≡ true) × (new ≡ old ++ text)

-- the text of a day was written, or the number is of none
abbrev pub WritesDate : (number : ℤ) → (old new : List ℕ) → Bool → Type 0
WritesDate z old new true = (text : List ℕ) × IsDateText z text × (new ≡ old ++ text)
WritesDate z old new false = (text : List ℕ) → ¬ IsDateText z text
