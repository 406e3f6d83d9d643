-- The number of each refusal, as users know it.
use Rattle.std.specs.Prelude.{◌≡◌, refl}
use Rattle.parser.specs.declared.refusals.TheConstants.{UNEXPECTED, TOO_HIGH}

unexpected : UNEXPECTED ≡ 4
unexpected = refl

too_high : TOO_HIGH ≡ 5
too_high = refl
