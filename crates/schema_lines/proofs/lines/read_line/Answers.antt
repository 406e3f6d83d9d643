use Rattle.std.proofs.Common.{codes}
use Rattle.schema_lines.specs.Lines.{event_of}
use Rattle.schema_lines.proofs.SaidLines.{line-column, prefix-some, said-wider, said-wider-ok}
use Rattle.schema_lines.proofs.lines.read_line.Goals as goal

pub returns-in-Some-clause-read : goal.returns-in-Some-clause-read
returns-in-Some-clause-read c = λ event proper is.
    line-column event c.args.line.now c.in-Some.words.now c.column_words.result
    (prefix-some c.args.line.now (codes "  ") c.in-Some.words c.in-Some.ensures.cases) c.column_words.ensures.read proper is

pub returns-in-Some-clause-right : goal.returns-in-Some-clause-right
returns-in-Some-clause-right c =
    said-wider-ok c.in-Some.words.now (codes "  ") c.args.line.now c.column_words.result
    (prefix-some c.args.line.now (codes "  ") c.in-Some.words c.in-Some.ensures.cases) c.column_words.ensures.right

pub returns-in-Some-strip_prefix-clause-right : goal.returns-in-Some-strip_prefix-clause-right
returns-in-Some-strip_prefix-clause-right c =
    said-wider c.in-Some-strip_prefix.rest.now (codes "input ") c.args.line.now (event_of c.input_line.result)
    (prefix-some c.args.line.now (codes "input ") c.in-Some-strip_prefix.rest c.in-Some-strip_prefix.ensures.cases) c.input_line.ensures.right

pub returns-in-Some-strip_prefix-3-clause-right : goal.returns-in-Some-strip_prefix-3-clause-right
returns-in-Some-strip_prefix-3-clause-right c =
    said-wider-ok c.in-Some-strip_prefix-3.rest.now (codes "constant ") c.args.line.now c.constant_line.result
    (prefix-some c.args.line.now (codes "constant ") c.in-Some-strip_prefix-3.rest c.in-Some-strip_prefix-3.ensures.cases)
    c.constant_line.ensures.right
