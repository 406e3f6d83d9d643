use Rattle.std.proofs.Common.{◌∙◌, sym, subst, arith, ℕ, List, length}
use Rattle.std.proofs.lemmas.List.{length-take-le}
use Rattle.lexer.specs.declared.lexeme.Shape.TheVariants.{Word, Numeral, Reference}
use Rattle.record_core.specs.Names.{is_digit, is_name_byte}
use Rattle.lexer.specs.Lexemes.{IsLongest}
use Rattle.lexer.proofs.Lexemes.{longest_run, lone, no_mark, longest_mark}
use Rattle.lexer.proofs.lexeme.lexeme_len.Goals as goal

pub returns-in-Word-clause-found : goal.returns-in-Word-clause-found
returns-in-Word-clause-found c = longest_run Word is_name_byte c.args.bytes.now c.in-Some.first.now c.in-Some.rest.now c.run.result c.in-Some.ensures.cases.0 (sym c.shape_at.ensures ∙ c.in-Word.is) (λ h. h) (λ bs h. h) c.run.ensures.within c.run.ensures.each c.run.ensures.stop

pub returns-in-Numeral-clause-found : goal.returns-in-Numeral-clause-found
returns-in-Numeral-clause-found c = longest_run Numeral is_digit c.args.bytes.now c.in-Some.first.now c.in-Some.rest.now c.run-in-Numeral.result c.in-Some.ensures.cases.0 (sym c.shape_at.ensures ∙ c.in-Numeral.is) (λ h. h) (λ bs h. h) c.run-in-Numeral.ensures.within c.run-in-Numeral.ensures.each c.run-in-Numeral.ensures.stop

pub returns-then-digits-eq0-clause-none : goal.returns-then-digits-eq0-clause-none
returns-then-digits-eq0-clause-none c = lone c.args.bytes.now c.in-Some.first.now c.in-Some.rest.now c.run-digits.result c.in-Some.ensures.cases.0 (sym c.shape_at.ensures ∙ c.in-Reference.is) c.if-digits-eq0.true c.run-digits.ensures.stop

pub returns-else-digits-eq0-clause-found : goal.returns-else-digits-eq0-clause-found
returns-else-digits-eq0-clause-found c = longest_run Reference is_digit c.args.bytes.now c.in-Some.first.now c.in-Some.rest.now c.run-digits.result c.in-Some.ensures.cases.0 (sym c.shape_at.ensures ∙ c.in-Reference.is) (λ h. (omega (arith, length-take-le c.run-digits.result c.in-Some.rest.now c.run-digits.ensures.within), h)) (λ bs h. h.1) c.run-digits.ensures.within c.run-digits.ensures.each c.run-digits.ensures.stop

pub returns-in-None-clause-none : goal.returns-in-None-clause-none
returns-in-None-clause-none c = no_mark c.args.bytes.now c.in-Some.first.now c.in-Some.rest.now c.in-Some.ensures.cases.0 (sym c.shape_at.ensures ∙ c.in-Sign.is) c.in-None.ensures.none

pub returns-in-Some-at_front-clause-found : goal.returns-in-Some-at_front-clause-found
returns-in-Some-at_front-clause-found c = subst (λ (t : List ℕ). IsLongest c.args.bytes.now (length t)) (sym c.text.ensures) (longest_mark c.args.bytes.now c.in-Some.first.now c.in-Some.rest.now c.in-Some-at_front.mark c.in-Some.ensures.cases.0 (sym c.shape_at.ensures ∙ c.in-Sign.is) c.in-Some-at_front.ensures.found)
