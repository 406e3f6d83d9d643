use Rattle.std.proofs.Common.{take}
use Rattle.std.specs.Bool.{IsTrue}
use Rattle.std.specs.List.{list_all}
use Rattle.lexer.specs.Lexemes.{passes}
use Rattle.lexer.proofs.lexeme.run.Given as goal

abbrev pub invariant-loop-i : goal.invariant-loop-i
invariant-loop-i l = IsTrue (list_all (passes l.class) (take l.i l.bytes))
