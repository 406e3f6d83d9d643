-- The canonical text of a relation.
use Rattle.std.specs.Prelude.{ℕ, suc, max, List, [], ◌∷◌, ◌++◌}
use Rattle.record_core.specs.declared.keyword.Keyword.{Keyword}
use Rattle.record_core.specs.declared.keyword.Keyword.TheVariants as keyword
use Rattle.lexer.specs.declared.mark.Mark.TheVariants as sign
use Rattle.expr_tree.specs.declared.relation.Column.{Column}
use Rattle.expr_tree.specs.declared.relation.Pair.{Pair}
use Rattle.expr_tree.specs.declared.relation.Agg.{Agg}
use Rattle.expr_tree.specs.declared.relation.Agg.TheVariants.{Count, Sum, Min, Max}
use Rattle.expr_tree.specs.declared.relation.LoopForm.{LoopForm}
use Rattle.expr_tree.specs.declared.relation.LoopForm.TheVariants.{Iterate, Closure}
use Rattle.expr_tree.specs.declared.relation.SetOperator.{SetOperator}
use Rattle.expr_tree.specs.Trees.{RelTree}
use Rattle.grammar.specs.Relations.{closure_word, operator_keyword}
use Rattle.writer.specs.Pieces.{Piece, word, Word, of_mark, of_keyword, space, spaced, comma, semicolon, listed, form, headed}
use Rattle.writer.specs.Scalars.{scalar_pieces, scalar_height}
use Rattle.writer.specs.Conditions.{cond_pieces, cond_height}

abbrev pub column_pieces : Column → List Piece
column_pieces c = word (Word.column c.index) ∷ []

abbrev pub pair_pieces : Pair → List Piece
pair_pieces p = column_pieces p.left ++ spaced sign.Equal ++ column_pieces p.right

-- an aggregate's keyword, a space, its column
abbrev pub agg_of : Keyword → Column → List Piece
agg_of k c = of_keyword k ∷ space ∷ column_pieces c

abbrev pub agg_pieces : Agg → List Piece
agg_pieces (Count s) = of_keyword keyword.Count ∷ []
agg_pieces (Sum s c) = agg_of keyword.Sum c
agg_pieces (Min s c) = agg_of keyword.Min c
agg_pieces (Max s c) = agg_of keyword.Max c

-- what a set operation begins with
abbrev pub operation_head : SetOperator → List Piece
operation_head o = of_keyword (operator_keyword o) ∷ of_mark sign.OpenRound ∷ []

-- the word of a loop's form
abbrev pub loop_word : LoopForm → Word
loop_word Iterate = Word.keyword keyword.Iterate
loop_word Closure = Word.name closure_word

-- what a loop begins with: its turns and its variable
abbrev pub loop_head : LoopForm → ℕ → List ℕ → List Piece
loop_head f n x = word (loop_word f) ∷ of_mark sign.OpenRound ∷ word (Word.number n) ∷ semicolon ++ (word (Word.name x) ∷ spaced sign.Equal)

-- the pieces of a relation
abbrev pub rel_pieces : RelTree → List Piece
rel_pieces (RelTree.named s x) = word (Word.name x) ∷ []
rel_pieces (RelTree.select s r xs) = form keyword.Select (rel_pieces r ++ (semicolon ++ listed scalar_pieces xs))
rel_pieces (RelTree.filter s r c) = form keyword.Where (rel_pieces r ++ (semicolon ++ cond_pieces c))
rel_pieces (RelTree.set_operation s o a b) = form (operator_keyword o) (rel_pieces a ++ (comma ++ rel_pieces b))
rel_pieces (RelTree.join s a b ps) = form keyword.Join (rel_pieces a ++ (comma ++ (rel_pieces b ++ (semicolon ++ listed pair_pieces ps))))
rel_pieces (RelTree.group s r ks gs) = form keyword.Group (rel_pieces r ++ (semicolon ++ (listed column_pieces ks ++ (semicolon ++ listed agg_pieces gs))))
rel_pieces (RelTree.distinct s r) = form keyword.Distinct (rel_pieces r)
rel_pieces (RelTree.loop s f t n u x r b) =
    headed (loop_word f) (word (Word.number n) ∷ semicolon ++ (word (Word.name x) ∷ spaced sign.Equal ++ (rel_pieces r ++ (semicolon ++ rel_pieces b))))

-- the greatest of their heights
abbrev pub heights : {X : Type 0} → (X → ℕ) → List X → ℕ
heights f [] = 0
heights f (x ∷ xs) = max (f x) (heights f xs)

-- the height of that text; columns, pairs and aggregates have 1
abbrev pub rel_height : RelTree → ℕ
rel_height (RelTree.named s x) = 1
rel_height (RelTree.select s r xs) = suc (max (rel_height r) (heights scalar_height xs))
rel_height (RelTree.filter s r c) = suc (max (rel_height r) (cond_height c))
rel_height (RelTree.set_operation s o a b) = suc (max (rel_height a) (rel_height b))
rel_height (RelTree.join s a b ps) = suc (max (max (rel_height a) (rel_height b)) 1)
rel_height (RelTree.group s r ks gs) = suc (max (max (rel_height r) 1) 1)
rel_height (RelTree.distinct s r) = suc (rel_height r)
rel_height (RelTree.loop s f t n u x r b) = suc (max (rel_height r) (rel_height b))
