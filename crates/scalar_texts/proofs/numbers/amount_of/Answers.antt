use Rattle.std.proofs.Common.{rules, ◌≡◌, ◌/◌, ◌^◌, ◌∙◌, ℕ, Some, refl, sym, ap, arith}
use Rattle.std.proofs.lemmas.Fmt.{decimal_injective}
use Rattle.std.proofs.Math.Nat.{div-le_self}
use Rattle.scalar_texts.specs.Numbers.{digits_text}
use Rattle.scalar_texts.proofs.Joined.{amount-long, amount-end, amount-front, amount-back, amount-whole}
use Rattle.scalar_texts.proofs.Spelled.{amount-length, amount-point}
use Rattle.scalar_texts.proofs.numbers.amount_of.Goals as goal

pub returns-then-text-tail-clause-only : goal.returns-then-text-tail-clause-only
returns-then-text-tail-clause-only c = λ n lt e. absurd (omega (arith, amount-long c.args.places n c.args.text.now e, c.if-text-tail.true, c.from-tail.ensures))

pub returns-then-text-end-ne46-clause-only : goal.returns-then-text-end-ne46-clause-only
returns-then-text-end-ne46-clause-only c = λ n lt e.
    absurd (c.if-text-end-ne46.true (amount-point c.args.places n _ c.args.text.now e (amount-end c.args.places n _ c.from-tail.result c.args.text.now e c.from-tail.ensures refl)))

pub returns-in_err-whole-clause-only : goal.returns-in_err-whole-clause-only
returns-in_err-whole-clause-only c = λ n lt e.
    absurd (c.in_err-whole.ensures.none (n / 10 ^ c.args.places) (omega (arith, lt, div-le_self n (10 ^ c.args.places))) (amount-front c.args.places n _ c.from-tail.result c.args.text.now e c.from-tail.ensures refl))

pub returns-then-whole_of-whole-clause-only : goal.returns-then-whole_of-whole-clause-only
returns-then-whole_of-whole-clause-only c = λ n lt e.
    let front = amount-front c.args.places n _ c.from-tail.result c.args.text.now e c.from-tail.ensures refl in
    let back = amount-back c.args.places n _ c.from-tail.result c.args.text.now e c.from-tail.ensures refl in
    let whole : c.in_ok-whole.whole ≡ n / 10 ^ c.args.places = decimal_injective _ _ (search rules) (omega (arith, lt, div-le_self n (10 ^ c.args.places))) (sym c.in_ok-whole.ensures.found ∙ front) in
    let value = amount-whole c.args.places n c.in_ok-whole.whole _ whole back in
    let same : c.joined-n.result ≡ n = c.joined-n.ensures (omega (arith, value, lt)) ∙ value in
    absurd (c.if-whole_of-whole.true (c.whole_of.ensures ∙ ap (λ (m : ℕ). m / 10 ^ c.args.places) same ∙ sym whole))

pub returns-then-has_digits-clause-only : goal.returns-then-has_digits-clause-only
returns-then-has_digits-clause-only c = λ n lt e.
    let front = amount-front c.args.places n _ c.from-tail.result c.args.text.now e c.from-tail.ensures refl in
    let back = amount-back c.args.places n _ c.from-tail.result c.args.text.now e c.from-tail.ensures refl in
    let whole : c.in_ok-whole.whole ≡ n / 10 ^ c.args.places = decimal_injective _ _ (search rules) (omega (arith, lt, div-le_self n (10 ^ c.args.places))) (sym c.in_ok-whole.ensures.found ∙ front) in
    let value = amount-whole c.args.places n c.in_ok-whole.whole _ whole back in
    let same : c.joined-n.result ≡ n = c.joined-n.ensures (omega (arith, value, lt)) ∙ value in
    ap Some same

pub returns-else-has_digits-clause-only : goal.returns-else-has_digits-clause-only
returns-else-has_digits-clause-only c = λ n lt e.
    let front = amount-front c.args.places n _ c.from-tail.result c.args.text.now e c.from-tail.ensures refl in
    let back = amount-back c.args.places n _ c.from-tail.result c.args.text.now e c.from-tail.ensures refl in
    let whole : c.in_ok-whole.whole ≡ n / 10 ^ c.args.places = decimal_injective _ _ (search rules) (omega (arith, lt, div-le_self n (10 ^ c.args.places))) (sym c.in_ok-whole.ensures.found ∙ front) in
    let value = amount-whole c.args.places n c.in_ok-whole.whole _ whole back in
    let same : c.joined-n.result ≡ n = c.joined-n.ensures (omega (arith, value, lt)) ∙ value in
    let long = amount-length c.args.places n _ c.from-tail.result c.args.text.now e c.from-tail.ensures refl in
    let right = c.has_digits.ensures.1 (back ∙ ap (λ (m : ℕ). digits_text c.args.places m) (sym same) ∙ ap (λ (k : ℕ). digits_text k c.joined-n.result) (sym long)) in
    cc (right, c.if-has_digits.false)
