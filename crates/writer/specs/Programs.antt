-- The canonical text of a program.
use Rattle.std.specs.Prelude.{ℕ, max, cond, bytes_eq, List, [], ◌∷◌, ◌++◌}
use Rattle.std.specs.List.{flat_map}
use Rattle.record_core.specs.declared.keyword.Keyword.TheVariants as keyword
use Rattle.lexer.specs.declared.mark.Mark.TheVariants as sign
use Rattle.expr_tree.specs.declared.program.Input.{Input}
use Rattle.expr_tree.specs.Trees.{LetTree, OutputTree, ProgramTree}
use Rattle.grammar.specs.Programs.{default_name}
use Rattle.writer.specs.Pieces.{Piece, word, gap, Word, of_mark, of_keyword, space, spaced, text_of}
use Rattle.writer.specs.Relations.{rel_pieces, heights, rel_height}

-- a semicolon and a line feed
abbrev pub line_end : List Piece
line_end = of_mark sign.Semicolon ∷ gap 10 ∷ []

-- input NAME/ARITY;
abbrev pub input_pieces : Input → List Piece
input_pieces i = of_keyword keyword.Input ∷ space ∷ word (Word.name i.name) ∷ of_mark sign.Slash ∷ word (Word.number i.arity) ∷ line_end

-- let NAME = REL;
abbrev pub let_pieces : LetTree → List Piece
let_pieces l = of_keyword keyword.Let ∷ space ∷ word (Word.name l.name) ∷ spaced sign.Equal ++ (rel_pieces l.relation ++ line_end)

-- what comes between `output` and the relation: NAME =, and nothing where the name is `out`
abbrev pub naming : List ℕ → List Piece
naming x = cond (bytes_eq x default_name) [] (word (Word.name x) ∷ spaced sign.Equal)

-- output REL; or output NAME = REL;
abbrev pub output_pieces : OutputTree → List Piece
output_pieces o = of_keyword keyword.Output ∷ space ∷ naming o.name ++ (rel_pieces o.relation ++ line_end)

-- each item on a line
abbrev pub program_pieces : ProgramTree → List Piece
program_pieces p = flat_map input_pieces p.inputs ++ (flat_map let_pieces p.lets ++ flat_map output_pieces p.outputs)

-- the canonical text of a program
abbrev pub program_text : ProgramTree → List ℕ
program_text p = text_of (program_pieces p)

-- the greatest of the heights of the named relations; 1 where there is none
abbrev pub lets_height : List LetTree → ℕ
lets_height [] = 1
lets_height (l ∷ ls) = max (rel_height l.relation) (lets_height ls)

abbrev pub output_height : OutputTree → ℕ
output_height o = rel_height o.relation

-- the height of that text
abbrev pub program_height : ProgramTree → ℕ
program_height p = max (lets_height p.lets) (heights output_height p.outputs)
