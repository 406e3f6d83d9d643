-- The program that a text is.
use Rattle.std.specs.Prelude.{ℕ, ◌≤◌, List}
use Rattle.lexer.specs.declared.token.Token.{Token}
use Rattle.lexer.specs.Tokens.{Lexes}
use Rattle.expr_tree.specs.Trees.{ProgramTree}
use Rattle.grammar.specs.Programs.{ReadsProgram}

-- the greatest height of a phrase
abbrev pub max_height : ℕ
max_height = 64

-- the text is that program: its tokens are, and no phrase is too high
pub record Reads (text : List ℕ) (p : ProgramTree) : Type 0 where
  pub tokens : List Token
  pub height : ℕ
  pub lexed : Lexes text tokens
  pub program : ReadsProgram text tokens p height
  pub low : height ≤ max_height
