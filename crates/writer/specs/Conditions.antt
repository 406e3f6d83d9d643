-- The canonical text of a condition.
use Rattle.std.specs.Prelude.{ℕ, suc, max, Bool, true, false, List, ◌∷◌, ◌++◌}
use Rattle.record_core.specs.declared.keyword.Keyword.{Keyword}
use Rattle.record_core.specs.declared.keyword.Keyword.TheVariants as keyword
use Rattle.lexer.specs.declared.mark.Mark.{Mark}
use Rattle.lexer.specs.declared.mark.Mark.TheVariants as sign
use Rattle.expr_tree.specs.declared.condition.Comparison.{Comparison}
use Rattle.expr_tree.specs.declared.condition.Comparison.TheVariants as comparison
use Rattle.expr_tree.specs.declared.condition.Connective.{Connective}
use Rattle.expr_tree.specs.declared.condition.Connective.TheVariants.{And, Or}
use Rattle.expr_tree.specs.Trees.{CondTree}
use Rattle.writer.specs.declared.rank.CondRank.{CondRank}
use Rattle.writer.specs.declared.rank.CondRank.TheVariants.{Disjunction, Conjunction, Test}
use Rattle.writer.specs.Pieces.{Piece, of_keyword, space, spaced, in_square}
use Rattle.writer.specs.Scalars.{scalar_pieces, scalar_height, raised}

-- the first binds less tightly
abbrev pub is_below : CondRank → CondRank → Bool
is_below Disjunction Disjunction = false
is_below Disjunction s = true
is_below Conjunction Test = true
is_below r s = false

-- how tightly a connective binds, which is also what its left operand has to be at least
abbrev pub rank_of : Connective → CondRank
rank_of Or = Disjunction
rank_of And = Conjunction

-- what the right operand has to be at least
abbrev pub right_of : Connective → CondRank
right_of Or = Conjunction
right_of And = Test

abbrev pub cond_rank : CondTree → CondRank
cond_rank (CondTree.compare s o a b) = Test
cond_rank (CondTree.logical s o a b) = rank_of o
cond_rank (CondTree.negate s a) = Test

abbrev pub word_of : Connective → Keyword
word_of And = keyword.And
word_of Or = keyword.Or

abbrev pub sign_of : Comparison → Mark
sign_of comparison.Equal = sign.Equal
sign_of comparison.NotEqual = sign.NotEqual
sign_of comparison.Less = sign.Below
sign_of comparison.AtMost = sign.AtMost
sign_of comparison.Greater = sign.Above
sign_of comparison.AtLeast = sign.AtLeast

-- the pieces of a condition; an operand is in brackets where it binds less tightly than its place asks
abbrev pub cond_pieces : CondTree → List Piece
cond_pieces (CondTree.compare s o a b) = scalar_pieces a ++ (spaced (sign_of o) ++ scalar_pieces b)
cond_pieces (CondTree.logical s o a b) =
    in_square (is_below (cond_rank a) (rank_of o)) (cond_pieces a)
    ++ (space ∷ of_keyword (word_of o) ∷ space ∷ in_square (is_below (cond_rank b) (right_of o)) (cond_pieces b))
cond_pieces (CondTree.negate s a) = of_keyword keyword.Not ∷ space ∷ in_square true (cond_pieces a)

-- the height of that text
abbrev pub cond_height : CondTree → ℕ
cond_height (CondTree.compare s o a b) = suc (max (scalar_height a) (scalar_height b))
cond_height (CondTree.logical s o a b) =
    suc (max (raised (is_below (cond_rank a) (rank_of o)) (cond_height a)) (raised (is_below (cond_rank b) (right_of o)) (cond_height b)))
cond_height (CondTree.negate s a) = suc (cond_height a)

-- the same of an operand, in brackets where it binds less tightly than least
abbrev pub operand_height : CondTree → (least : CondRank) → ℕ
operand_height t least = raised (is_below (cond_rank t) least) (cond_height t)
