-- One step of the hash of a key.
use Rattle.std.specs.Prelude.{ℕ, ℤ, ◌+◌, ◌*◌, ◌%◌, ◌^◌}
use Rattle.std.specs.Int.{cast_unsigned}
use mir.Syntax.{w64}

-- 31 times the hash so far, and the field read as an unsigned number, modulo 2^64
abbrev pub step : ℕ → ℤ → ℕ
step h v = (31 * h + cast_unsigned w64 v) % 2 ^ 64
