-- How large the numbers are that an expression computes on the way: at most 2^126, so 38 decimal digits hold them.
use Rattle.std.specs.Prelude.{◌≡◌, ◌^◌, ◌≤◌, unsigned_abs, ℤ}
use Rattle.std.specs.List.{AllByRecursion}
use Rattle.std.specs.Int.{int_wrap}
use mir.Syntax.{w64}
use Rattle.semantics.specs.Multiset.{Record}
use Rattle.sql_meaning.specs.Script.{Expression}
use Rattle.sql_meaning.specs.ScriptMeaning.{evaluated}

-- each field of the row has 64 bits, with a sign
abbrev pub IsRowOfWords : Record → Type 0
IsRowOfWords r = AllByRecursion (λ (z : ℤ). int_wrap w64 z ≡ z) r

-- the number is at most 2^126 in size
abbrev pub IsModerate : ℤ → Type 0
IsModerate z = unsigned_abs z ≤ 2 ^ 126

-- so is each number that is computed on the way
abbrev pub StaysModerate : Expression → Record → Type 0
StaysModerate (Expression.column c) r = IsModerate (evaluated (Expression.column c) r)
StaysModerate (Expression.number z) r = IsModerate z
StaysModerate (Expression.sum a b) r = StaysModerate a r × StaysModerate b r × IsModerate (evaluated (Expression.sum a b) r)
StaysModerate (Expression.difference a b) r = StaysModerate a r × StaysModerate b r × IsModerate (evaluated (Expression.difference a b) r)
StaysModerate (Expression.product a b) r = StaysModerate a r × StaysModerate b r × IsModerate (evaluated (Expression.product a b) r)
StaysModerate (Expression.opposite a) r = StaysModerate a r × IsModerate (evaluated (Expression.opposite a) r)
StaysModerate (Expression.wrapped a) r = StaysModerate a r × IsModerate (evaluated (Expression.wrapped a) r)
