-- Scalars without wrapping, as a reader of SQL writes them. A BIGINT operator whose exact result has more than 64 bits is an error.
use Rattle.std.specs.Prelude.{◌≡◌}
use Rattle.std.specs.Int.{int_wrap}
use mir.Syntax.{w64}
use Rattle.semantics.specs.Multiset.{Record}
use Rattle.semantics.specs.Query.{Scalar}
use Rattle.sql_meaning.specs.Script.{Expression}
use Rattle.sql_meaning.specs.ScriptMeaning.{evaluated}

abbrev pub plain : Scalar → Expression
plain (Scalar.column c) = Expression.column c
plain (Scalar.literal z) = Expression.number z
plain (Scalar.plus s t) = Expression.sum (plain s) (plain t)
plain (Scalar.minus s t) = Expression.difference (plain s) (plain t)
plain (Scalar.times s t) = Expression.product (plain s) (plain t)
plain (Scalar.negation s) = Expression.opposite (plain s)

-- the expression's value has 64 bits, with a sign
abbrev pub IsWordOn : Expression → Record → Type 0
IsWordOn e r = int_wrap w64 (evaluated e r) ≡ evaluated e r

-- so has the value of each of its parts: no operator is an error
abbrev pub HasNoError : Expression → Record → Type 0
HasNoError (Expression.column c) r = IsWordOn (Expression.column c) r
HasNoError (Expression.number z) r = IsWordOn (Expression.number z) r
HasNoError (Expression.sum a b) r = HasNoError a r × HasNoError b r × IsWordOn (Expression.sum a b) r
HasNoError (Expression.difference a b) r = HasNoError a r × HasNoError b r × IsWordOn (Expression.difference a b) r
HasNoError (Expression.product a b) r = HasNoError a r × HasNoError b r × IsWordOn (Expression.product a b) r
HasNoError (Expression.opposite a) r = HasNoError a r × IsWordOn (Expression.opposite a) r
HasNoError (Expression.wrapped a) r = HasNoError a r
