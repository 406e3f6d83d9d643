use Rattle.std.proofs.Common.{ap}
use Rattle.record_core.specs.declared.span.Span.{Span}
use Rattle.lexer.proofs.Nexts.{is_next, is_bad}
use Rattle.lexer.proofs.lexing.next_token.Goals as goal

pub kind_of-requires : goal.kind_of-requires
kind_of-requires c = c.in-Some.ensures.found.lexeme

pub returns-in-Some-kind_of-clause-token : goal.returns-in-Some-kind_of-clause-token
returns-in-Some-kind_of-clause-token c = is_next c.args.text.now c.args.at c.run.result c.in-Some.len _ c.run.ensures.each c.in-Some.ensures.found (ap (λ (s : Span). s.start) c.span-in-Some-kind_of.ensures) (ap (λ (s : Span). s.end) c.span-in-Some-kind_of.ensures) c.in-Some-kind_of.ensures.found

pub returns-in-None-clause-fault : goal.returns-in-None-clause-fault
returns-in-None-clause-fault c = is_bad c.args.text.now c.args.at c.run.result c.in-Some.len _ _ _ c.run.ensures.each c.in-Some.ensures.found (ap (λ (s : Span). s.start) c.span-in-None.ensures) (ap (λ (s : Span). s.end) c.span-in-None.ensures) c.in-None.ensures.none c.bad_code.ensures
