use Rattle.std.proofs.Common.{◌∙◌, ◌≡◌, true, arith, rules}
use Rattle.std.proofs.lemmas.Fmt.{parse-decimal}
use Rattle.decimal.proofs.Numbers.{utf8-decimal, may_begin, prints_so}
use Rattle.decimal.proofs.numerals.number.Goals as goal

pub returns-then-not-may_begin-clause-none : goal.returns-then-not-may_begin-clause-none
returns-then-not-may_begin-clause-none c = λ n lt e.
    let t : c.may_begin.result ≡ true = c.may_begin.ensures.1 (may_begin c.args.text.now n lt e) in
    let f = c.if-not-may_begin.true in
    grind (arith, t, f)

pub returns-in_default-clause-none : goal.returns-in_default-clause-none
returns-in_default-clause-none c = λ n lt e. c.in_default.ensures.cases.0 (utf8-decimal c.args.text.now n lt e)

pub returns-in_default-parse-clause-none : goal.returns-in_default-parse-clause-none
returns-in_default-parse-clause-none c = λ n lt e. c.in_default-parse.not-Ok n (parse-decimal 64 n c.in-Ok.word.now c.parse.result lt lt (c.in-Ok.ensures.cases.0 ∙ e) c.parse.ensures.value.0)

pub returns-clause-found : goal.returns-clause-found
returns-clause-found c =
    let t : c.may_begin.result ≡ true = search rules in
    prints_so c.args.text.now c.in-Ok.word.now c.in-Ok-parse.number c.parse.result (c.may_begin.ensures.0 t) c.in-Ok.ensures.cases.0 c.parse.ensures.value.0 c.in-Ok-parse.is
