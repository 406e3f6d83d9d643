use Rattle.std.proofs.Common.{arith}
use Rattle.lexer.proofs.Spelled.{is_name, no_word}
use Rattle.lexer.proofs.spelling.word_kind.Goals as goal

pub returns-then-word-le32-clause-found : goal.returns-then-word-le32-clause-found
returns-then-word-le32-clause-found c = is_name c.args.word.now c.requires.lexeme c.requires.word c.in-None.ensures.none (omega arith)

pub returns-else-word-le32-clause-none : goal.returns-else-word-le32-clause-none
returns-else-word-le32-clause-none c = no_word c.args.word.now c.requires.word c.in-None.ensures.none (omega arith)
