-- The canonical text of a scalar.
use Rattle.std.specs.Prelude.{ℕ, suc, max, ℤ, pos, negsuc, Bool, true, false, List, [], ◌∷◌, ◌++◌}
use Rattle.record_core.specs.declared.span.Span.{Span}
use Rattle.lexer.specs.declared.mark.Mark.{Mark}
use Rattle.lexer.specs.declared.mark.Mark.TheVariants as sign
use Rattle.expr_tree.specs.declared.scalar.Operator.{Operator}
use Rattle.expr_tree.specs.declared.scalar.Operator.TheVariants.{Add, Subtract, Multiply}
use Rattle.expr_tree.specs.Trees.{ScalarTree}
use Rattle.writer.specs.declared.rank.ScalarRank.{ScalarRank}
use Rattle.writer.specs.declared.rank.ScalarRank.TheVariants.{Sum, Product, Negation, Single}
use Rattle.writer.specs.Pieces.{Piece, word, Word, of_mark, spaced, in_round}

-- the first binds less tightly
abbrev pub is_below : ScalarRank → ScalarRank → Bool
is_below Sum Sum = false
is_below Sum s = true
is_below Product Sum = false
is_below Product Product = false
is_below Product s = true
is_below Negation Single = true
is_below r s = false

-- how tightly an operator binds, which is also what its left operand has to be at least
abbrev pub rank_of : Operator → ScalarRank
rank_of Add = Sum
rank_of Subtract = Sum
rank_of Multiply = Product

-- what the right operand has to be at least
abbrev pub right_of : Operator → ScalarRank
right_of Add = Product
right_of Subtract = Product
right_of Multiply = Negation

abbrev pub scalar_rank : ScalarTree → ScalarRank
scalar_rank (ScalarTree.literal s z) = Single
scalar_rank (ScalarTree.column s n) = Single
scalar_rank (ScalarTree.binary s o a b) = rank_of o
scalar_rank (ScalarTree.negate s a) = Negation

abbrev pub sign_of : Operator → Mark
sign_of Add = sign.Plus
sign_of Subtract = sign.Minus
sign_of Multiply = sign.Star

-- a literal below 0 has no text that reads as it
abbrev pub literal : ℤ → List Piece
literal (pos n) = word (Word.number n) ∷ []
literal (negsuc n) = of_mark sign.Minus ∷ word (Word.number (suc n)) ∷ []

-- the pieces of a scalar; an operand is in brackets where it binds less tightly than its place asks
abbrev pub scalar_pieces : ScalarTree → List Piece
scalar_pieces (ScalarTree.literal s z) = literal z
scalar_pieces (ScalarTree.column s n) = word (Word.column n) ∷ []
scalar_pieces (ScalarTree.binary s o a b) =
    in_round (is_below (scalar_rank a) (rank_of o)) (scalar_pieces a)
    ++ (spaced (sign_of o) ++ in_round (is_below (scalar_rank b) (right_of o)) (scalar_pieces b))
scalar_pieces (ScalarTree.negate s a) = of_mark sign.Minus ∷ in_round (is_below (scalar_rank a) Single) (scalar_pieces a)

-- one more in brackets
abbrev pub raised : Bool → ℕ → ℕ
raised true n = suc n
raised false n = n

-- the height of that text
abbrev pub scalar_height : ScalarTree → ℕ
scalar_height (ScalarTree.literal s z) = 1
scalar_height (ScalarTree.column s n) = 1
scalar_height (ScalarTree.binary s o a b) =
    suc (max (raised (is_below (scalar_rank a) (rank_of o)) (scalar_height a)) (raised (is_below (scalar_rank b) (right_of o)) (scalar_height b)))
scalar_height (ScalarTree.negate s a) = suc (raised (is_below (scalar_rank a) Single) (scalar_height a))

-- the same of an operand, in brackets where it binds less tightly than least
abbrev pub operand_height : ScalarTree → (least : ScalarRank) → ℕ
operand_height t least = raised (is_below (scalar_rank t) least) (scalar_height t)

-- the place of a node that has none
abbrev pub nowhere : Span
nowhere = record { start = 0; end = 0 }
