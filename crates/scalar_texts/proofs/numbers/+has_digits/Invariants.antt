use Rattle.std.specs.Prelude.{length}
use Rattle.scalar_texts.proofs.numbers.+has_digits.Given as goal

abbrev pub decreases-has_digits : goal.decreases-has_digits
decreases-has_digits l = length l.text.now
