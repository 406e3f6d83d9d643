use Rattle.std.proofs.Common.{◌∙◌, sym}
use Rattle.lexer.proofs.Spelled.{no_column}
use Rattle.lexer.proofs.spelling.kind_of.Goals as goal

pub returns-in-None-literal-clause-none : goal.returns-in-None-literal-clause-none
returns-in-None-literal-clause-none c = no_column c.args.word.now c.in-Some.first.now c.in-Some.rest.now c.in-Some.ensures.cases.0 (sym c.shape_at.ensures ∙ c.in-Reference.is) c.in-None-literal.ensures.none
