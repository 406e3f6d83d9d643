use Rattle.std.proofs.Common.{rules}
use Rattle.lexer.specs.Tokens.{Lexes}
use Rattle.parser.proofs.Programs.{refuses, not_read, no_tokens}
use Rattle.parser.proofs.program.parse.Goals as goal

pub returns-in_err-tokens-clause-none : goal.returns-in_err-tokens-clause-none
returns-in_err-tokens-clause-none g c = no_tokens c.from_residual.result c.in_err-tokens.field-0.0 c.args.text.now (search rules) c.in_err-tokens.ensures.none

pub returns-clause-refused : goal.returns-clause-refused
returns-clause-refused g c =
    let lexed : Lexes c.args.text.now c.as_slice.result.now = rw c.as_slice.ensures.value c.in_ok-tokens.ensures.tokens in
    refuses c.args.text.now c.as_slice.result.now c.in-Err.fault c.refusal.result lexed c.in-Err.ensures.denied c.refusal.ensures

pub returns-clause-none : goal.returns-clause-none
returns-clause-none g c = λ n p d.
    let lexed : Lexes c.args.text.now c.as_slice.result.now = rw c.as_slice.ensures.value c.in_ok-tokens.ensures.tokens in
    not_read c.args.text.now c.refusal.result p (refuses c.args.text.now c.as_slice.result.now c.in-Err.fault c.refusal.result lexed c.in-Err.ensures.denied c.refusal.ensures) n d
